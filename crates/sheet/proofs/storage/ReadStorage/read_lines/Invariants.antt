use Rattle.std.proofs.Common.{◌≡◌, ◌+◌, vec_items, vec_len}
use Rattle.sheet.specs.Reader.{left}
use Rattle.sheet.specs.Sheet.{used, Begins}
use Rattle.sheet.specs.Entries.{entries}
use Rattle.sheet.specs.Uses.{Marks}
use Rattle.sheet.proofs.storage.ReadStorage.read_lines.Given as goal

abbrev pub invariant-loop-number : goal.invariant-loop-number
invariant-loop-number l =
    (goal.iterator-loop-number).can_next l.number-iterator
    × (goal.iterator-loop-number).is_finite l.number-iterator
    × Begins l.sheet (entries (vec_items l.self.sheet_lines)) (left l.number-iterator)
    × Marks (vec_items l.self.used) (used (entries (vec_items l.self.sheet_lines)))
    × (vec_len l.self.used ≡ vec_len l.self.sheet_lines + 1)
    × (l.number-iterator.line ≡ vec_len l.self.sheet_lines)
