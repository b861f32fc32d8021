use Rattle.std.proofs.Common.{◌≡◌, ◌++◌, map, vec_items, vec_capacity}
use Rattle.sheet.proofs.table.push_all.Given as goal

abbrev pub invariant-loop-number : goal.invariant-loop-number
invariant-loop-number l =
    (goal.iterator-loop-number).can_next l.number-iterator
    × (goal.iterator-loop-number).is_finite l.number-iterator
    × (vec_items l.stack ≡ vec_items l.initial.stack ++ map (λ n. n.now) l.yielded)
    × (vec_capacity l.stack ≡ vec_capacity l.initial.stack)
