-- Numbers up to 4,096 in base ten, without a sign and without a leading zero.
use Rattle.std.specs.Prelude.{◌≡◌, ℕ, ◌+◌, ◌-◌, ◌*◌, ◌≤◌, cond, ◌&&◌, List, [], ◌∷◌, Some, None, decimal, Option, nat_le}
use Rattle.std.specs.Char.{is_ascii_digit}

-- The number that the digits ds make when they follow those of n.
abbrev pub digits_from : ℕ → List ℕ → Option ℕ
digits_from n [] = Some n
digits_from n (d ∷ ds) = let r = digits_from (n * 10 + (d - 48)) ds in cond (is_ascii_digit d && nat_le (n * 10 + (d - 48)) 4096) r None

pub record Numeral (bs : List ℕ) (n : ℕ) : Type 0 where
  pub range : n ≤ 4096
  pub text : bs ≡ decimal n

-- `r` is the number whose numeral `bs` is, and none if there is no such number.
abbrev pub Numbered : List ℕ → Option ℕ → Type 0
Numbered bs (Some n) = Numeral bs n
Numbered bs None = (n : ℕ) → Numeral bs n → ⊥
