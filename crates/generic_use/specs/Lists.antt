-- What a lent list tells of the operations of a list machine.
use Rattle.std.specs.Prelude.{◌≡◌, List, map, length, take, drop}
use Rattle.std.specs.List.{range_with_len}
use Rattle.machines.specs.Operation.{Operation, granted_wires, told}
use Rattle.machines.specs.declared.listed.Listed.{Listed}
use Rattle.numbered.specs.declared.numbering.Numbering.{Numbering}

-- By the operations os the machine x, which had made none, became y. The wires granted are its next ones; the list has just
-- these operations at its front, in order, and behind them what it had before.
abbrev pub Told : Listed Numbering → List Operation → Listed Numbering → Type 0
Told x os y =
    (granted_wires os ≡ range_with_len x.wires.next (length (granted_wires os)))
    × (map told (take (length os) y.list.now) ≡ os)
    × (drop (length os) y.list.now ≡ drop (length os) x.list.now)
