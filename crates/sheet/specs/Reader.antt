-- A sheet cut into its lines.
use Rattle.std.specs.Prelude.{◌≡◌, ℕ, ◌+◌, ◌<◌, List, [], ◌∷◌, ◌++◌, length, drop, Some, None, Option}
use Rattle.std.specs.Borrow.{Bor}
use Rattle.sheet.specs.Sheet.{times}
use Rattle.sheet.specs.declared.reader.Reader.{Reader}

-- A line feed ends the line, or no line feed is left and the text ends with it.
pub data Ending (l rest : List ℕ) : Type 0 where
  ended : (m : List ℕ) → l ≡ m ++ (10 ∷ []) → times 10 m ≡ 0 → Ending l rest
  unended : times 10 l ≡ 0 → rest ≡ [] → 0 < length l → Ending l rest

-- The line l comes first, with the line feed that ends it, and then the rest.
pub record Piece (text l rest : List ℕ) : Type 0 where
  pub cut : text ≡ l ++ rest
  pub ending : Ending l rest

-- What is left to read.
abbrev pub left : Reader → List ℕ
left r = drop r.place r.sheet.now

-- The line l comes next, and has the number n. The sheet stays.
pub record NextLine (s : Reader) (n : ℕ) (l : List ℕ) (t : Reader) : Type 0 where
  pub piece : Piece (left s) l (left t)
  pub number : n ≡ s.line + 1
  pub counted : t.line ≡ n
  pub sheet : t.sheet ≡ s.sheet

-- What a reader hands out next: nothing is left, and it stays as it is, or the next line.
abbrev pub Next : Reader → Option (ℕ × Bor (List ℕ)) → Reader → Type 0
Next s None t = (left s ≡ []) × (t ≡ s)
Next s (Some p) t = NextLine s p.0 p.1.now t
