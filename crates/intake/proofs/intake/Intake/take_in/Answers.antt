use Rattle.std.proofs.Common.{ℕ, List, Ok, Err, Result, sym, subst, inr}
use Rattle.sheet.specs.Reading.{HoldsSheet}
use Rattle.sheet.specs.declared.program.Program.{Program}
use Rattle.sheet.specs.declared.refusal.Refusal.{Refusal}
use Rattle.checker.specs.Verdict.{Checked}
use Rattle.checker.specs.declared.accepted.AcceptedProgram.{AcceptedProgram}
use Rattle.intake.specs.Verdict.{Taken, TakesIn}
use Rattle.intake.proofs.intake.Intake.take_in.Goals as goal

-- What checking answers of a program that a sheet says.
checked : (bs : List ℕ) (r : Result (Unit {0}) Refusal) (given left : Program) (held holds : AcceptedProgram) → HoldsSheet bs given → Checked r given left held holds → TakesIn bs r held holds
checked bs (Ok _) given left held holds s c = subst (λ (p : Program). Taken bs p) (sym c.now_held) (record { says = s; derived = c.derived })
checked bs (Err f) given left held holds s c = (inr (record { program = given; says = s; denied = c.denied }), c.still_held)

pub returns : goal.returns
returns c = checked c.args.sheet.now c.check.result c.read.new.place c.check.new.program c.args.self.now.accepted c.check.new.place c.in_ok-read.ensures c.check.ensures
