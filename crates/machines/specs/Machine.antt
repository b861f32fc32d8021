-- What a gate machine means, and what its calls do to that.
use Rattle.std.specs.Prelude.{◌≡◌, ℕ, zero, suc, ◌+◌, ◌<◌, ◌≤◌, Bool, true, false, cond, ◌||◌, ◌⊎◌, List, [], ◌∷◌, length, Some, None, Ok, Err, Option, Result, ◌==◌, nat_eq}
use Rattle.std.specs.List.{IsDistinct, AllByRecursion}
use Rattle.terms.specs.Gate.{width}
use Rattle.terms.specs.declared.Gate.{Gate}
use Rattle.terms.specs.declared.Wire.{Wire}
use Rattle.machines.specs.Operation.{Operation, granted, applied, numbers}
use Rattle.machines.specs.declared.operation.Full.{Full}
use Rattle.machines.specs.declared.operation.GateRefusal.{GateRefusal}
use Rattle.machines.specs.declared.operation.GateRefusal.TheVariants as refusal
use Rattle.machines.specs.declared.operation.Operands.{Operands}

-- The wires are numbered 0 to 4,095, so that no machine can take more than 4,096.
abbrev pub wire_count : ℕ
wire_count = 4096

-- The most operations that a machine can be made to take.
abbrev pub operation_limit : ℕ
operation_limit = 2000000

-- The wires held, by number; the operations made so far (wires granted and gates accepted), and the last of them; the most
-- wires and the most operations that the machine takes; and which gates it allows on which wires.
pub record Meaning : Type 0 where
  pub held : ℕ → Bool
  pub made : ℕ
  pub last : Option Operation
  pub most_wires : ℕ
  pub most_operations : ℕ
  pub allowed : Gate → List ℕ → Bool

-- How many of the numbers below n are in a set.
unfoldable pub counted : (ℕ → Bool) → ℕ → ℕ
counted s zero = 0
counted s (suc n) = cond (s n) 1 0 + counted s n

-- How many wires are held.
abbrev pub holding : Meaning → ℕ
holding m = counted m.held wire_count

-- Only wires are held, and the machine takes no more of them than there are.
pub record Lawful (m : Meaning) : Type 0 where
  pub wires : (v : ℕ) → m.held v ≡ true → v < wire_count
  pub limit : m.most_wires ≤ wire_count

-- A set of wires, and the wire w besides.
abbrev pub with_wire : ℕ → (ℕ → Bool) → ℕ → Bool
with_wire w s v = v == w || s v

-- What the machine means after one more operation, when it holds `held`. Its limits and what it allows are as they were.
abbrev pub after : Operation → (ℕ → Bool) → Meaning → Meaning
after o held m = record { held = held; made = m.made + 1; last = Some o; most_wires = m.most_wires; most_operations = m.most_operations; allowed = m.allowed }

-- A grant finds the machine full if it holds its most wires or has made its most operations.
abbrev pub GrantFull : Meaning → Type 0
GrantFull m = (m.most_wires ≤ holding m) ⊎ (m.most_operations ≤ m.made)

-- The wire w, which was not held, is granted for the constant c, and is held besides.
pub record Granted (c : Bool) (w : ℕ) (m n : Meaning) : Type 0 where
  pub room : holding m < m.most_wires
  pub time : m.made < m.most_operations
  pub wire : w < wire_count
  pub fresh : m.held w ≡ false
  pub becomes : n ≡ after (granted c w) (with_wire w m.held) m

-- What a grant for the constant c answers, by the meaning before and after.
abbrev pub Grants : Bool → Result Wire Full → Meaning → Meaning → Type 0
Grants c (Ok w) m n = Granted c w.number m n
Grants c (Err e) m n = GrantFull m × (n ≡ m)

-- A gate finds the machine full if it has made its most operations.
abbrev pub GateFull : Meaning → Type 0
GateFull m = m.most_operations ≤ m.made

-- The wires are as many as the gate's width, no two are the same, and all are held.
pub record WellNamed (m : Meaning) (g : Gate) (ws : List ℕ) : Type 0 where
  pub wide : length ws ≡ width g
  pub distinct : IsDistinct nat_eq ws
  pub held : AllByRecursion (λ w. m.held w ≡ true) ws

-- The gate g is accepted on the wires ws.
pub record AcceptedGate (g : Gate) (ws : List ℕ) (m n : Meaning) : Type 0 where
  pub time : m.made < m.most_operations
  pub named : WellNamed m g ws
  pub allowed : m.allowed g ws ≡ true
  pub becomes : n ≡ after (applied g ws) m.held m

-- The wires are not well named.
pub record MisnamedGate (g : Gate) (ws : List ℕ) (m : Meaning) : Type 0 where
  pub time : m.made < m.most_operations
  pub misnamed : WellNamed m g ws → ⊥

-- The wires are well named, and the machine does not allow the gate on them.
pub record ForbiddenGate (g : Gate) (ws : List ℕ) (m : Meaning) : Type 0 where
  pub time : m.made < m.most_operations
  pub named : WellNamed m g ws
  pub forbidden : m.allowed g ws ≡ false

-- What a gate on wires answers, by the meaning before and after.
abbrev pub Applies : Gate → List ℕ → Result (Unit {0}) GateRefusal → Meaning → Meaning → Type 0
Applies g ws (Ok u) m n = AcceptedGate g ws m n
Applies g ws (Err refusal.Full) m n = GateFull m × (n ≡ m)
Applies g ws (Err refusal.Misnamed) m n = MisnamedGate g ws m × (n ≡ m)
Applies g ws (Err refusal.Forbidden) m n = ForbiddenGate g ws m × (n ≡ m)

-- The operations that a call makes: one, or none if it is refused.
abbrev pub grant_made : Bool → Result Wire Full → List Operation
grant_made c (Ok w) = granted c w.number ∷ []
grant_made c (Err e) = []

abbrev pub gate_made : Gate → List ℕ → Result (Unit {0}) GateRefusal → List Operation
gate_made g ws (Ok u) = applied g ws ∷ []
gate_made g ws (Err e) = []

-- The wires as operands, if they are well named.
abbrev pub Names : Meaning → Gate → List ℕ → Option Operands → Type 0
Names m g ws (Some o) = WellNamed m g ws × (numbers o ≡ ws)
Names m g ws None = WellNamed m g ws → ⊥
