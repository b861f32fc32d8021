-- What reading the lines of a sheet gives.
use Rattle.std.specs.Prelude.{ℕ, List, Ok, Err, Result}
use Rattle.sheet.specs.Entry.{Entry}
use Rattle.sheet.specs.Sheet.{Says}
use Rattle.sheet.specs.Reading.{Refuses}
use Rattle.sheet.specs.declared.refusal.Refusal.{Refusal}

-- The lines say es, or the sheet is refused.
abbrev pub Lined : List ℕ → Result (Unit {0}) Refusal → List Entry → Type 0
Lined bs (Ok _) es = Says bs es
Lined bs (Err f) es = Refuses bs f.rule f.line
