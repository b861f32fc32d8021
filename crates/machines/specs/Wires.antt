-- The wires of a machine.
use Rattle.std.specs.Prelude.{◌≡◌, ℕ, ◌<◌, ◌≤◌, Bool, true, false, List, [], ◌∷◌, Ok, Err, Result}
use Rattle.terms.specs.declared.Gate.{Gate}
use Rattle.terms.specs.declared.Wire.{Wire}
use Rattle.machines.specs.Machine.{counted, wire_count, with_wire}
use Rattle.machines.specs.declared.operation.Full.{Full}

-- The wires held, by number; the most wires that are held; and which gates are allowed on which wires.
pub record Supply : Type 0 where
  pub held : ℕ → Bool
  pub most : ℕ
  pub allowed : Gate → List ℕ → Bool

-- Only wires are held, and no more of them than there are.
pub record Bounded (s : Supply) : Type 0 where
  pub wires : (v : ℕ) → s.held v ≡ true → v < wire_count
  pub limit : s.most ≤ wire_count

-- The wire w, which was not held, is held besides.
pub record Taken (w : ℕ) (s t : Supply) : Type 0 where
  pub room : counted s.held wire_count < s.most
  pub wire : w < wire_count
  pub fresh : s.held w ≡ false
  pub becomes : t ≡ record { held = with_wire w s.held; most = s.most; allowed = s.allowed }

-- What it answers if a wire is to be taken: there is none if the most wires are held.
abbrev pub Takes : Result Wire Full → Supply → Supply → Type 0
Takes (Ok w) s t = Taken w.number s t
Takes (Err e) s t = (s.most ≤ counted s.held wire_count) × (t ≡ s)

-- The wires that are taken: one, or none if it is refused.
abbrev pub taken : Result Wire Full → List ℕ
taken (Ok w) = w.number ∷ []
taken (Err e) = []
