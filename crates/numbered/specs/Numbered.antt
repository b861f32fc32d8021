-- Wires that are numbered from 0 on.
use Rattle.std.specs.Prelude.{◌≡◌, ℕ, ◌+◌, ◌≤◌, min, Bool, true, List, length, None, nat_lt}
use Rattle.std.specs.List.{range_with_len}
use Rattle.terms.specs.declared.Gate.{Gate}
use Rattle.machines.specs.Machine.{Meaning, wire_count, operation_limit}
use Rattle.machines.specs.Wires.{Supply}
use Rattle.numbered.specs.declared.numbering.Numbering.{Numbering}

-- All gates are allowed on all wires.
abbrev pub every_gate : Gate → List ℕ → Bool
every_gate g ws = true

-- The wires held: those below the next number.
abbrev pub numbered : Numbering → ℕ → Bool
numbered n v = nat_lt v (min n.next wire_count)

-- The most wires.
abbrev pub room : Numbering → ℕ
room n = min n.most wire_count

abbrev pub supply_of : Numbering → Supply
supply_of n = record { held = numbered n; most = room n; allowed = every_gate }

-- The wires that are taken are the next numbers, one after another.
pub record Numbers (n : Numbering) (ws : List ℕ) (m : Numbering) : Type 0 where
  pub wires : ws ≡ range_with_len n.next (length ws)
  pub next : m.next ≡ n.next + length ws

-- The next numbers are taken. The most wires stay as many, and if no more were held than these, no more are.
pub record NumbersTaken (n : Numbering) (ws : List ℕ) (m : Numbering) : Type 0 where
  pub numbers : Numbers n ws m
  pub most : m.most ≡ n.most
  pub within : n.next ≤ n.most → m.next ≤ m.most

-- A machine just made, for s wires held, at most w wires and at most o operations: at most 4,096 wires, at most
-- 2,000,000 operations, and no more wires held than it takes.
abbrev pub fresh_numbered : ℕ → ℕ → ℕ → Meaning
fresh_numbered s w o = record { held = λ v. nat_lt v (min s (min w wire_count)); made = 0; last = None; most_wires = min w wire_count; most_operations = min o operation_limit; allowed = every_gate }
