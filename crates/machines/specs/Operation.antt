-- The operations of a machine.
use Rattle.std.specs.Prelude.{◌≡◌, ℕ, ◌≤◌, Bool, List, [], ◌∷◌, ◌++◌, map, length, Some, None, Option}
use Rattle.terms.specs.declared.Gate.{Gate}
use Rattle.terms.specs.declared.Wire.{Wire}
use Rattle.machines.specs.declared.operation.Action.{Action}
use Rattle.machines.specs.declared.operation.Action.TheVariants.{Grant, Gate as Apply}
use Rattle.machines.specs.declared.operation.Operands.{Operands}
use Rattle.machines.specs.declared.operation.Operands.TheVariants.{One, Two, Three}
use Rattle.machines.specs.declared.operation.Operation.{Operation as Record}

-- What was done, and the numbers of the wires, in order.
pub record Operation : Type 0 where
  pub action : Action
  pub wires : List ℕ

-- The wire w was granted for the constant c.
abbrev pub granted : Bool → ℕ → Operation
granted c w = record { action = Grant c; wires = w ∷ [] }

-- The gate g was applied to the wires ws.
abbrev pub applied : Gate → List ℕ → Operation
applied g ws = record { action = Apply g; wires = ws }

abbrev pub number : Wire → ℕ
number w = w.number

abbrev pub numbers : Operands → List ℕ
numbers (One a) = number a ∷ []
numbers (Two a b) = number a ∷ (number b ∷ [])
numbers (Three a b c) = number a ∷ (number b ∷ (number c ∷ []))

-- The operation that a record tells.
abbrev pub told : Record → Operation
told r = record { action = r.action; wires = numbers r.operands }

-- The wires that operations grant, in order.
abbrev pub granted_by : Action → List ℕ → List ℕ
granted_by (Grant c) ws = ws
granted_by (Apply g) ws = []

abbrev pub granted_wires : List Operation → List ℕ
granted_wires [] = []
granted_wires (o ∷ os) = granted_by o.action o.wires ++ granted_wires os

-- Wires as operands: there are one to three of them.
abbrev pub Listed : List Wire → Option Operands → Type 0
Listed ws (Some o) = numbers o ≡ map number ws
Listed ws None = (1 ≤ length ws) × (length ws ≤ 3) → ⊥
