-- Worked examples: short sheets and the verdict on each.
use Rattle.std.specs.Prelude.{◌≡◌, ℕ, cond, List, map, length, codes, ◌==◌}
use Rattle.terms.specs.Term.{Term}
use Rattle.theory.specs.Acceptance.{Accepted}
use Rattle.sheet.specs.Entry.{Entry}
use Rattle.sheet.specs.Sheet.{Says}
use Rattle.sheet.specs.Reading.{Writes}
use Rattle.sheet.specs.Refusal.{number}
use Rattle.sheet.specs.declared.refusal.Rule.{Rule}
use Rattle.checker.specs.Verdict.{Breaks}

-- A sheet, from a text that has a space for each tab and a semicolon for each line feed.
abbrev pub byte : ℕ → ℕ
byte b = cond (b == 32) 9 (cond (b == 59) 10 b)

abbrev pub sheet : List ℕ → List ℕ
sheet bs = map byte bs

-- The last line of the sheet writes the term t, whose nodes stand on these lines.
pub record ReadsAs (bs : List ℕ) (t : Term) (lines : List ℕ) : Type 0 where
  pub entries : List Entry
  pub says : Says bs entries
  pub writes : Writes entries (length entries) t lines

pub record AcceptedSheet (bs : List ℕ) : Type 0 where
  pub term : Term
  pub lines : List ℕ
  pub reads : ReadsAs bs term lines
  pub accepted : Accepted term

-- The refusal with the number n, at line l: the first rule that is broken, and the smallest line that breaks it.
pub record RefusedAt (bs : List ℕ) (n l : ℕ) : Type 0 where
  pub term : Term
  pub lines : List ℕ
  pub reads : ReadsAs bs term lines
  pub rule : Rule
  pub numbered : number rule ≡ n
  pub breaks : Breaks term lines rule l

pub record Table : Type 0 where
  -- A linear variable has to be used; that of a bang binder need not be.
  pub linear_unused : RefusedAt (sheet (codes "c 0;l 1 1;")) 15 2
  pub bang_unused : AcceptedSheet (sheet (codes "c 0;l 0 1;"))
  -- A variable needs a binder.
  pub no_binder : RefusedAt (sheet (codes "v 0 0;")) 14 1
  -- A linear variable must not stand in a bang inside its binder's body; the bang may stand outside the binder.
  pub bang_inside : RefusedAt (sheet (codes "v 0 0;b 1;l 1 2;")) 16 1
  pub bang_outside : AcceptedSheet (sheet (codes "v 0 0;l 1 1;b 2;"))
  -- A wire stands once.
  pub wire_twice : RefusedAt (sheet (codes "w 3;w 3;t 1 2;")) 17 2
