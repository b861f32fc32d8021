use Rattle.std.proofs.Common.{◌≡◌, false, sym, refl, subst}
use Rattle.terms.specs.Term.{bit}
use Rattle.theory.specs.Acceptance.{Item, slot, lead, own_wires, Accepted, bit_holds}
use Rattle.checker.proofs.accepted.AcceptedProgram.new.Goals as goal

no_wires : (i : Item) → own_wires (bit false) i ≡ false
no_wires (slot u p) = refl
no_wires (lead k) = refl

pub invariant_of-result : goal.invariant_of-result
invariant_of-result c = record { derived = ∣ subst Accepted (sym c.in_ok-program.ensures.zero) (bit_holds no_wires) ∣₁ }
