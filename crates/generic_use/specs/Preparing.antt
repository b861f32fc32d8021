-- A wire that is granted for 0, and H on it.
use Rattle.std.specs.Prelude.{◌≡◌, false, List, [], ◌∷◌, Ok, Err, Result}
use Rattle.terms.specs.declared.Gate.TheVariants.{H}
use Rattle.machines.specs.Machine.{Meaning, GrantFull, Granted, Applies, gate_made}
use Rattle.machines.specs.Operation.{Operation, granted}
use Rattle.machines.specs.declared.operation.Full.{Full}
use Rattle.machines.specs.declared.operation.GateRefusal.TheVariants.{Misnamed}
use Rattle.generic_use.specs.declared.Prepared.{Prepared}

-- The wire is granted, and then the machine answers to the gate; never that the wire is misnamed.
pub record GrantedThen (p : Prepared) (m n : Meaning) : Type 0 where
  pub between : Meaning
  pub grants : Granted false p.wire.number m between
  pub applies : Applies H (p.wire.number ∷ []) p.gate between n
  pub named : p.gate ≡ Err Misnamed → ⊥

abbrev pub Prepares : Result Prepared Full → Meaning → Meaning → Type 0
Prepares (Ok p) m n = GrantedThen p m n
Prepares (Err e) m n = GrantFull m × (n ≡ m)

-- The operations that were made.
abbrev pub prepared : Result Prepared Full → List Operation
prepared (Ok p) = granted false p.wire.number ∷ gate_made H (p.wire.number ∷ []) p.gate
prepared (Err e) = []
