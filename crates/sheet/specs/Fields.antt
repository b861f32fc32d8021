-- The numbers in the fields of a line, and the entry that they make with the line's letter.
use Rattle.std.specs.Prelude.{◌≡◌, ℕ, ◌+◌, ◌≤◌, Bool, true, false, cond, ◌&&◌, List, [], ◌∷◌, ◌++◌, map, length, Some, None, decimal, Option, ◌==◌, nat_le, nat_lt, slice_index}
use Rattle.std.specs.List.{list_all}
use Rattle.terms.specs.Flat.{wire_of}
use Rattle.terms.specs.declared.Kind.{Kind}
use Rattle.terms.specs.declared.Kind.TheVariants.{Variable, Wire, Constant, New, Bang, Application, Tuple, Binder}
use Rattle.sheet.specs.Entry.{Entry, tabbed, Each}
use Rattle.sheet.specs.Entries.{entry}
use Rattle.sheet.specs.declared.line.Line.{Line}

-- The bytes write these numbers, each at most 4,096, in fields, each with a tab before it.
pub record Fields (bs ns : List ℕ) : Type 0 where
  pub text : bs ≡ tabbed (map decimal ns)
  pub range : Each (λ n. n ≤ 4096) ns

-- The numbers `all`, at most eight, are those `before`, and after them those that the fields write.
pub record Collected (before bs all : List ℕ) : Type 0 where
  pub numbers : List ℕ
  pub fields : Fields bs numbers
  pub together : all ≡ before ++ numbers
  pub few : length all ≤ 8

abbrev pub Collects : List ℕ → List ℕ → Option (List ℕ) → Type 0
Collects before bs (Some all) = Collected before bs all
Collects before bs None = (ns : List ℕ) → Fields bs ns → length before + length ns ≤ 8 → ⊥

abbrev pub positive : List ℕ → Bool
positive ns = list_all (λ n. nat_lt 0 n) ns

abbrev pub given : Bool → Kind → List ℕ → Option Entry
given true k ps = Some (k, ps)
given false k ps = None

-- The entry that the letter makes of the numbers.
abbrev pub shape : ℕ → List ℕ → Option Entry
shape letter ns =
    cond (letter == 118) (given (length ns == 2 && nat_le (slice_index ns 0) 4095 && nat_le (slice_index ns 1) 7) (Variable (slice_index ns 1) (slice_index ns 0)) [])
    (cond (letter == 119) (given (length ns == 1 && nat_le (slice_index ns 0) 4095) (Wire (wire_of (slice_index ns 0))) [])
    (cond (letter == 99) (given (length ns == 1 && nat_le (slice_index ns 0) 1) (Constant (slice_index ns 0 == 1)) [])
    (cond (letter == 110) (given (length ns == 1 && positive ns) New ns)
    (cond (letter == 98) (given (length ns == 1 && positive ns) Bang ns)
    (cond (letter == 97) (given (length ns == 2 && positive ns) Application ns)
    (cond (letter == 116) (given (nat_le 2 (length ns) && positive ns) (Tuple (length ns)) ns)
    (cond (letter == 108) (given (length ns == 2 && nat_le (slice_index ns 0) 8 && nat_lt 0 (slice_index ns 1)) (Binder (slice_index ns 0)) (slice_index ns 1 ∷ [])) None)))))))

abbrev pub Shapes : Option Entry → Option Line → Type 0
Shapes o (Some l) = o ≡ Some (entry l)
Shapes o None = o ≡ None
