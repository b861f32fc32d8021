-- Charges and their laws. These are proofs, for the prover and not for the reader; they stand here since the ghost members of
-- the tariffs name them.
use Rattle.std.specs.Prelude.{◌≡◌, ℕ, ◌+◌, ◌-◌, ◌≤◌, ◌<◌, ◌^◌, min, max}
use mathlib.Core.HLevel.{is_prop→PathP}
use Rattle.std.proofs.Math.Bridge.{le_prop}
use Rattle.std.proofs.Math.Nat.{min-eq_left, min-eq_right, max-le, le-max_left, le-max_right, max_comm, zero-max}
use Rattle.std.proofs.Common.{sym, ap, ◌∙◌, ⊎_elim, add_assoc, add_comm, zero-add, le_antisymm, le_trans, le_of_lt, le-add_right, le_of_suc-le-suc}
use Rattle.std.proofs.lemmas.Bool.{cases_lt}
use Rattle.terms.specs.declared.StepKind.{StepKind}
use Rattle.tariffs.specs.Money.{amount, sum}
use Rattle.tariffs.specs.Noise.{graded, greater}
use Rattle.tariffs.specs.Tariff.{Fair}
use Rattle.tariffs.specs.declared.cents.Cents.{Cents}
use Rattle.tariffs.specs.declared.grade.Grade.{Grade}

-- Charges are equal if their numbers are.
pub same_cents : (x y : Cents) → x.value ≡ y.value → x ≡ y
same_cents x y e = λ i. record { value = e i; limit = is_prop→PathP (λ j. e j < 2 ^ 63) (λ j. le_prop) x.limit y.limit i }

pub same_grade : (x y : Grade) → x.value ≡ y.value → x ≡ y
same_grade x y e = λ i. record { value = e i; limit = is_prop→PathP (λ j. e j ≤ 9) (λ j. le_prop) x.limit y.limit i }

-- A sum that stays at m once it would pass it does so too where a part of it stayed at m.
capped_left : (a b m : ℕ) → min (min a m + b) m ≡ min (a + b) m
capped_left a b m =
    ⊎_elim
    (λ (h : a < m). ap (λ n. min (n + b) m) (min-eq_left (le_of_lt h)))
    (λ (h : m ≤ a). ap (λ n. min (n + b) m) (min-eq_right h) ∙ min-eq_right (le-add_right m b) ∙ sym (min-eq_right (le_trans h (le-add_right a b))))
    (cases_lt a m)

capped_right : (a b m : ℕ) → min (a + min b m) m ≡ min (a + b) m
capped_right a b m = ap (λ n. min n m) (add_comm a (min b m)) ∙ capped_left b a m ∙ ap (λ n. min n m) (add_comm b a)

capped_assoc : (a b c m : ℕ) → min (min (a + b) m + c) m ≡ min (a + min (b + c) m) m
capped_assoc a b c m = capped_left (a + b) c m ∙ ap (λ n. min n m) (add_assoc a b c) ∙ sym (capped_right a (b + c) m)

max_assoc : (a b c : ℕ) → max (max a b) c ≡ max a (max b c)
max_assoc a b c =
    let under : b ≤ max a (max b c) = le_trans (le-max_left b c) (le-max_right a (max b c)) in
    let over : b ≤ max (max a b) c = le_trans (le-max_right a b) (le-max_left (max a b) c) in
    le_antisymm
    (max-le (max-le (le-max_left a (max b c)) under) (le_trans (le-max_right b c) (le-max_right a (max b c))))
    (max-le (le_trans (le-max_left a b) (le-max_left (max a b) c)) (max-le over (le-max_right (max a b) c)))

-- The laws hold of amounts that are added up, and of grades of which the greater counts, whatever is charged.
pub sum_fair : (charge : StepKind → Cents) → Fair (record { zero = amount 0; join = sum; charge = charge })
sum_fair charge = record {
  associative = λ x y z. same_cents _ _ (capped_assoc x.value y.value z.value (2 ^ 63 - 1));
  commutative = λ x y. same_cents _ _ (ap (λ n. min n (2 ^ 63 - 1)) (add_comm x.value y.value));
  neutral = λ x. same_cents _ _ (ap (λ n. min n (2 ^ 63 - 1)) (zero-add x.value) ∙ min-eq_left (le_of_suc-le-suc {n = x.value} {m = 2 ^ 63 - 1} x.limit));
}

pub greater_fair : (charge : StepKind → Grade) → Fair (record { zero = graded 0; join = greater; charge = charge })
greater_fair charge = record {
  associative = λ x y z. same_grade _ _ (max_assoc x.value y.value z.value);
  commutative = λ x y. same_grade _ _ (max_comm x.value y.value);
  neutral = λ x. same_grade _ _ (zero-max x.value);
}
