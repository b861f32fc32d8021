use Rattle.std.proofs.Common.{ℕ, ◌≤◌, ◌∷◌, List, [], length, Option}
use Rattle.sheet.specs.Fields.{Collects}
use Rattle.sheet.proofs.Cutting.{fields_left}
use Rattle.sheet.proofs.parse.numbers_in.Given as goal

-- Whatever the fields that are left give after the numbers so far, the whole gives.
abbrev pub invariant-loop-field : goal.invariant-loop-field
invariant-loop-field l =
    (goal.iterator-loop-field).can_next l.field-iterator
    × (goal.iterator-loop-field).is_finite l.field-iterator
    × (length l.numbers ≤ 8)
    × ((r : Option (List ℕ)) → Collects l.numbers (fields_left l.field-iterator) r → Collects [] (9 ∷ l.bytes) r)
