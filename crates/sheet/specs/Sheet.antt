-- What a sheet says, line by line, and where it goes wrong.
use Rattle.std.specs.Prelude.{◌≡◌, ℕ, suc, ◌+◌, ◌<◌, ◌≤◌, cond, List, [], ◌∷◌, ◌++◌, length, ◌==◌, ◌≢◌}
use Rattle.sheet.specs.Entry.{Entry, written, Each, Proper}

-- The text of lines, each ended by a line feed.
abbrev pub text : List Entry → List ℕ
text [] = []
text (e ∷ es) = written e ++ (10 ∷ text es)

-- How often a number stands in a list.
abbrev pub times : ℕ → List ℕ → ℕ
times n [] = 0
times n (x ∷ xs) = cond (n == x) 1 0 + times n xs

-- The line ends of a text.
abbrev pub line_ends : List ℕ → ℕ
line_ends bs = times 10 bs

-- A sheet is not empty, and has at most 65,536 bytes and at most 4,096 line ends.
pub record Sized (bs : List ℕ) : Type 0 where
  pub some : 0 < length bs
  pub bytes : length bs ≤ 65536
  pub ends : line_ends bs ≤ 4096

-- The lines that these lines name as parts.
abbrev pub used : List Entry → List ℕ
used [] = []
used (e ∷ es) = e.1 ++ used es

-- Each part is an earlier line. The first of these lines has the number n.
abbrev pub Earlier : ℕ → List Entry → Type 0
Earlier n [] = Unit {0}
Earlier n (e ∷ es) = Each (λ p. p < n) e.1 × Earlier (suc n) es

-- Each part is an earlier line, and no line is used twice, in one line either.
pub record Placed (es : List Entry) : Type 0 where
  pub earlier : Earlier 1 es
  pub once : (p : ℕ) → times p (used es) ≤ 1

-- The sheet has the right size and begins with the lines es, whose parts are placed; `rest` stands after them.
pub record Begins (bs : List ℕ) (es : List Entry) (rest : List ℕ) : Type 0 where
  pub sized : Sized bs
  pub begin : bs ≡ text es ++ rest
  pub proper : Each Proper es
  pub placed : Placed es

-- After some lines comes something that is no line, since no entry is written so or no line feed ends it.
pub record Malformed (bs : List ℕ) (line : ℕ) : Type 0 where
  pub before : List Entry
  pub rest : List ℕ
  pub begins : Begins bs before rest
  pub some : 0 < length rest
  pub unwritten : (e : Entry) (more : List ℕ) → Proper e → rest ≢ written e ++ (10 ∷ more)
  pub number : line ≡ length before + 1

-- After some lines comes one that has a part that is not an earlier line or is already used.
pub record Misplaced (bs : List ℕ) (line : ℕ) : Type 0 where
  pub before : List Entry
  pub entry : Entry
  pub rest : List ℕ
  pub begins : Begins bs before (written entry ++ (10 ∷ rest))
  pub proper : Proper entry
  pub unplaced : Placed (before ++ (entry ∷ [])) → ⊥
  pub number : line ≡ length before + 1

-- All lines are good, and this is the smallest, the last excepted, that no line uses.
pub record Unused (bs : List ℕ) (line : ℕ) : Type 0 where
  pub entries : List Entry
  pub begins : Begins bs entries []
  pub low : 1 ≤ line
  pub high : line < length entries
  pub free : times line (used entries) ≡ 0
  pub first : (k : ℕ) → 1 ≤ k → k < line → times k (used entries) ≡ 1

-- The sheet says the entries es: all lines are good, and each but the last is used.
pub record Says (bs : List ℕ) (es : List Entry) : Type 0 where
  pub begins : Begins bs es []
  pub all_used : (k : ℕ) → 1 ≤ k → k < length es → times k (used es) ≡ 1
