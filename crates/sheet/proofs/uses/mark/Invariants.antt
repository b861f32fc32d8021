use Rattle.std.proofs.Common.{ℕ, ◌≤◌, List, ◌++◌, length, take}
use Rattle.sheet.specs.Sheet.{times}
use Rattle.sheet.specs.Uses.{Marks, Fits}
use Rattle.sheet.proofs.uses.mark.Given as goal

abbrev pub invariant-loop-part : goal.invariant-loop-part
invariant-loop-part l =
    (ws : List ℕ) → Marks l.initial.used ws → ((p : ℕ) → times p ws ≤ 1)
    → Fits (length l.initial.used) ws (take l.part-index l.parts) × Marks l.used (ws ++ take l.part-index l.parts)
