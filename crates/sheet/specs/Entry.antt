-- How one node is written on one line.
use Rattle.std.specs.Prelude.{◌≡◌, ℕ, ◌<◌, ◌≤◌, cond, List, [], ◌∷◌, ◌++◌, map, length, codes, decimal}
use Rattle.terms.specs.Gate.{name}
use Rattle.terms.specs.Flat.{kind_parts}
use Rattle.terms.specs.declared.Kind.{Kind}
use Rattle.terms.specs.declared.Kind.TheVariants.{Variable, Wire, Constant, Gate, New, Bang, Application, Tuple, Binder}

-- What a line says: the kind of its node, and the numbers of the lines of its parts.
abbrev pub Entry : Type 0
Entry = Kind × List ℕ

abbrev pub letter : Kind → List ℕ
letter (Variable p u) = codes "v"
letter (Wire w) = codes "w"
letter (Constant c) = codes "c"
letter (Gate g) = codes "g"
letter New = codes "n"
letter Bang = codes "b"
letter Application = codes "a"
letter (Tuple n) = codes "t"
letter (Binder n) = codes "l"

-- The texts of a node's own fields: numbers in base ten with no sign and no leading zero, or a gate's name.
abbrev pub own : Kind → List (List ℕ)
own (Variable p u) = decimal u ∷ (decimal p ∷ [])
own (Wire w) = decimal w.number ∷ []
own (Constant c) = decimal (cond c 1 0) ∷ []
own (Gate g) = name g ∷ []
own New = []
own Bang = []
own Application = []
own (Tuple n) = []
own (Binder n) = decimal n ∷ []

-- Fields, each with a tab before it.
abbrev pub tabbed : List (List ℕ) → List ℕ
tabbed [] = []
tabbed (f ∷ fs) = 9 ∷ (f ++ tabbed fs)

-- The line that writes an entry: the letter, the node's own fields, the lines of its parts.
abbrev pub written : Entry → List ℕ
written e = letter e.0 ++ tabbed (own e.0 ++ map decimal e.1)

-- `up` is 0 to 4,095, `place` 0 to 7, a wire 0 to 4,095, a tuple has 2 to 8 parts, a pattern is 0 to 8.
abbrev pub InRange : Kind → Type 0
InRange (Variable p u) = (u < 4096) × (p < 8)
InRange (Wire w) = w.number < 4096
InRange (Constant c) = Unit {0}
InRange (Gate g) = Unit {0}
InRange New = Unit {0}
InRange Bang = Unit {0}
InRange Application = Unit {0}
InRange (Tuple n) = (2 ≤ n) × (n ≤ 8)
InRange (Binder n) = n ≤ 8

abbrev pub Each : {A : Type 0} → (A → Type 0) → List A → Type 0
Each P [] = Unit {0}
Each P (x ∷ xs) = P x × Each P xs

-- The numbers are in their ranges, there are as many parts as the kind has, and each part is a line number, 1 to 4,096.
pub record Proper (e : Entry) : Type 0 where
  pub own_range : InRange e.0
  pub part_count : length e.1 ≡ kind_parts e.0
  pub part_range : Each (λ p. (1 ≤ p) × (p ≤ 4096)) e.1
