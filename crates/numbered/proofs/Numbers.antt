-- Wires that are numbered from 0 on.
use Rattle.std.proofs.Common.{◌≡◌, ℕ, ◌+◌, ◌<◌, ◌≤◌, min, arith, le-ltb}
use mathlib.Core.Path.{fun_ext}
use Rattle.std.proofs.lemmas.Bool.Decides.{nat_tests}
use Rattle.machines.specs.Machine.{counted, with_wire}
use Rattle.machines.specs.Wires.{Taken}
use Rattle.numbered.specs.Numbered.{every_gate, numbered, room, supply_of}
use Rattle.numbered.specs.declared.numbering.Numbering.{Numbering}
use Rattle.machines.proofs.Counts.{counted_below}

-- As many wires are held as the next number says.
numbered_count : (n : Numbering) → counted (numbered n) 4096 ≡ min n.next 4096
numbered_count n = counted_below (min n.next 4096) 4096 (omega arith)

pub all_held : (n : Numbering) → room n ≤ n.next → room n ≤ counted (numbered n) 4096
all_held n full = omega (arith, numbered_count n)

pub next_taken : (n m : Numbering) (w : ℕ) → w ≡ n.next → n.next < room n → m.next ≡ n.next + 1 → m.most ≡ n.most → Taken w (supply_of n) (supply_of m)
next_taken n m w wire fits next most = record {
  room = omega (arith, numbered_count n);
  wire = omega arith;
  fresh = le-ltb w (min n.next 4096) (omega arith);
  becomes = λ i. record { held = held i; most = min (most i) 4096; allowed = every_gate };
}
  where
    held : numbered m ≡ with_wire w (numbered n)
    held = fun_ext (λ v. grind (arith, nat_tests))
