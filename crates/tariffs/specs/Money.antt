-- The money tariff.
use Rattle.std.specs.Prelude.{[], ◌∷◌, ℕ, ◌+◌, ◌-◌, ◌^◌, ◌<◌, min}
use Rattle.std.proofs.Common.{lt_of_le_of_lt, lit<}
use Rattle.std.proofs.Math.Nat.{min-le_right}
use Rattle.terms.specs.declared.StepKind.{StepKind}
use Rattle.tariffs.specs.Prices.{listed}
use Rattle.tariffs.specs.Tariff.{Prices}
use Rattle.tariffs.specs.declared.cents.Cents.{Cents}

-- Classical steps are free, a grant is 300 cents, and a gate is 10, 40 or 150 by its width.
abbrev pub cents_of : StepKind → ℕ
cents_of = listed (record { classical = 0; grant = 300; gates = 10 ∷ (40 ∷ (150 ∷ [])) })

-- A number as an amount: one that passes 2^63 - 1 counts as that.
pub limited : (n : ℕ) → min n (2 ^ 63 - 1) < 2 ^ 63
limited n = lt_of_le_of_lt (min-le_right n (2 ^ 63 - 1)) (lit< tt)

abbrev pub amount : ℕ → Cents
amount n = record { value = min n (2 ^ 63 - 1); limit = limited n }

-- Amounts are added up.
abbrev pub sum : Cents → Cents → Cents
sum x y = amount (x.value + y.value)

abbrev pub money : Prices Cents
money = record { zero = amount 0; join = sum; charge = λ k. amount (cents_of k) }
