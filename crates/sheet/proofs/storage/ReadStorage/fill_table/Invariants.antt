use Rattle.std.proofs.Common.{◌≡◌, ◌-◌, ◌≤◌, vec_items, vec_len, vec_capacity}
use Rattle.sheet.specs.Entries.{entries}
use Rattle.sheet.proofs.Stacking.{Underway}
use Rattle.sheet.proofs.storage.ReadStorage.fill_table.Given as goal

abbrev pub invariant-loop-line : goal.invariant-loop-line
invariant-loop-line l =
    (l.self.sheet_lines ≡ l.fn.self.sheet_lines)
    × Underway (entries (vec_items l.fn.self.sheet_lines)) (vec_items l.self.pending) (vec_items l.table)
    × (4096 ≤ vec_capacity l.table)

abbrev pub decreases-loop-line : goal.decreases-loop-line
decreases-loop-line l = 4097 - vec_len l.table
