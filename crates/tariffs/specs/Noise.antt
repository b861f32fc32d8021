-- The tariff of noise grades.
use Rattle.std.specs.Prelude.{[], ◌∷◌, ℕ, ◌≤◌, max, min}
use Rattle.std.proofs.Math.Nat.{min-le_right, max-le}
use Rattle.terms.specs.declared.StepKind.{StepKind}
use Rattle.tariffs.specs.Prices.{listed}
use Rattle.tariffs.specs.Tariff.{Prices}
use Rattle.tariffs.specs.declared.grade.Grade.{Grade}

-- Classical steps and grants have grade 0, and a gate has 1, 4 or 9 by its width.
abbrev pub grade_of : StepKind → ℕ
grade_of = listed (record { classical = 0; grant = 0; gates = 1 ∷ (4 ∷ (9 ∷ [])) })

-- A number as a grade: one over 9 counts as 9.
pub limited : (n : ℕ) → min n 9 ≤ 9
limited n = min-le_right n 9

abbrev pub graded : ℕ → Grade
graded n = record { value = min n 9; limit = limited n }

-- Of two grades the greater counts.
pub greater-limited : (x y : Grade) → max x.value y.value ≤ 9
greater-limited x y = max-le x.limit y.limit

abbrev pub greater : Grade → Grade → Grade
greater x y = record { value = max x.value y.value; limit = greater-limited x y }

abbrev pub noise : Prices Grade
noise = record { zero = graded 0; join = greater; charge = λ k. graded (grade_of k) }
