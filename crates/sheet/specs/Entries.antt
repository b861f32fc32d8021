-- What the code's lines stand for.
use Rattle.std.specs.Prelude.{◌≡◌, ℕ, List, map, Some, None, Option, ◌≢◌}
use Rattle.sheet.specs.Entry.{Entry, written, Proper}
use Rattle.sheet.specs.declared.line.Line.{Line}

abbrev pub entry : Line → Entry
entry l = (l.kind, l.parts)

abbrev pub entries : List Line → List Entry
entries ls = map entry ls

-- `r` is what the bytes of a line, without its line feed, say; none if they write no entry.
pub record Parsed (bs : List ℕ) (l : Line) : Type 0 where
  pub text : bs ≡ written (entry l)
  pub proper : Proper (entry l)

abbrev pub Parses : List ℕ → Option Line → Type 0
Parses bs (Some l) = Parsed bs l
Parses bs None = (e : Entry) → Proper e → bs ≢ written e
