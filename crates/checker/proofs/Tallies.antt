-- Counting the roles that pass a test.
use Rattle.std.proofs.Common.{◌≡◌, ℕ, zero, suc, ◌+◌, ◌<◌, ◌≤◌, Bool, true, false, cond, List, [], ◌∷◌, ◌++◌, length, get_or, count_by, refl, ap, ◌∙◌, inl, inr, suc-le-suc, zero-le, arith}
use Rattle.std.proofs.lemmas.Bool.{cases_Bool}
use Rattle.std.proofs.lemmas.List.Sums.{sum_by-cons, sum_by-append, get_or-le-sum_by}
use Rattle.theory.specs.Acceptance.{one}
use Rattle.checker.specs.declared.role.Role.{Role}

one-cond : (b : Bool) → cond b 1 0 ≡ one b
one-cond true = refl
one-cond false = refl

module _ (p : Role → Bool) where
  pub count-cons : (x : Role) (xs : List Role) → count_by p (x ∷ xs) ≡ one (p x) + count_by p xs
  count-cons x xs = sum_by-cons (λ y. cond (p y) 1 0) x xs ∙ ap (λ (n : ℕ). n + count_by p xs) (one-cond (p x))

  pub count-append : (xs ys : List Role) → count_by p (xs ++ ys) ≡ count_by p xs + count_by p ys
  count-append xs ys = sum_by-append (λ y. cond (p y) 1 0) xs ys

  -- One that stands at a place, and two at two places.
  count_one : (xs : List Role) (n : ℕ) (d : Role) → n < length xs → p (get_or xs n d) ≡ true → 1 ≤ count_by p xs
  count_one xs n d lo h = omega (arith, get_or-le-sum_by (λ y. cond (p y) 1 0) xs n d lo, one-cond (p (get_or xs n d)), ap one h)

  pub count_two : (xs : List Role) (m n : ℕ) (d : Role) → m < n → n < length xs → p (get_or xs m d) ≡ true → p (get_or xs n d) ≡ true → 2 ≤ count_by p xs
  count_two [] m n d l lo g h = absurd (omega arith)
  count_two (x ∷ xs) m zero d l lo g h = absurd (omega arith)
  count_two (x ∷ xs) zero (suc n) d l lo g h = omega (arith, count-cons x xs, ap one g, count_one xs n d (omega arith) h)
  count_two (x ∷ xs) (suc m) (suc n) d l lo g h = omega (arith, count-cons x xs, count_two xs m n d (omega arith) (omega arith) g h)

-- What is counted stands somewhere.
record SomeAt (p : Role → Bool) (xs : List Role) (d : Role) : Type 0 where
  pub spot : ℕ
  pub low : spot < length xs
  pub passes : p (get_or xs spot d) ≡ true

pub record TwoAt (p : Role → Bool) (xs : List Role) (d : Role) : Type 0 where
  pub spot : ℕ
  pub other : ℕ
  pub order : spot < other
  pub low : other < length xs
  pub passes : p (get_or xs spot d) ≡ true
  pub other_passes : p (get_or xs other d) ≡ true

some_at : (p : Role → Bool) (xs : List Role) (d : Role) → 1 ≤ count_by p xs → SomeAt p xs d
some_at p [] d h = absurd (omega arith)
some_at p (x ∷ xs) d h = elim (cases_Bool (p x)) [
  | inl e ↦ record { spot = 0; low = suc-le-suc zero-le; passes = e }
  | inr e ↦ let r = some_at p xs d (omega (arith, count-cons p x xs, ap one e)) in record { spot = suc r.spot; low = suc-le-suc r.low; passes = r.passes }
]

pub two_at : (p : Role → Bool) (xs : List Role) (d : Role) → 2 ≤ count_by p xs → TwoAt p xs d
two_at p [] d h = absurd (omega arith)
two_at p (x ∷ xs) d h = elim (cases_Bool (p x)) [
  | inl e ↦ let r = some_at p xs d (omega (arith, count-cons p x xs, ap one e)) in record { spot = 0; other = suc r.spot; order = suc-le-suc zero-le; low = suc-le-suc r.low; passes = e; other_passes = r.passes }
  | inr e ↦ let r = two_at p xs d (omega (arith, count-cons p x xs, ap one e)) in record { spot = suc r.spot; other = suc r.other; order = suc-le-suc r.order; low = suc-le-suc r.low; passes = r.passes; other_passes = r.other_passes }
]
