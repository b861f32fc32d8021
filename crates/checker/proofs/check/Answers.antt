use Rattle.std.proofs.Common.{sym, subst}
use Rattle.theory.specs.Acceptance.{Accepted}
use Rattle.sheet.specs.Reading.{term_of}
use Rattle.sheet.specs.declared.program.Program.{Program}
use Rattle.checker.proofs.check.Goals as goal

pub invariant_of-place : goal.invariant_of-place
invariant_of-place c = record { derived = ∣ subst (λ (p : Program). Accepted (term_of p)) (sym c.swap.ensures.y_after) c.in_ok-verdict.ensures ∣₁ }
