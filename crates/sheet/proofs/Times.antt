-- How often numbers stand in lists, and sums over the numbers of a range.
use Rattle.std.proofs.Common.{◌≡◌, ℕ, zero, suc, ◌+◌, ◌*◌, ◌<◌, ◌≤◌, cond, eqb, ◌⊎◌, List, [], ◌∷◌, ◌++◌, length, filter, sym, refl, ap, ◌∙◌, subst, inl, inr, mul-le-mul_left, mul-zero, zero-add, zero-mul, mul-add, arith}
use Rattle.std.proofs.lemmas.Bool.{eq-eqb, ne_eqb, cases_eq}
use Rattle.sheet.specs.Entry.{Each}
use Rattle.sheet.specs.Sheet.{times}

-- 1 where the numbers are the same.
abbrev pub mark : ℕ → ℕ → ℕ
mark k x = cond (eqb k x) 1 0

pub mark_same : (k x : ℕ) → k ≡ x → mark k x ≡ 1
mark_same k x e = rw (eq-eqb k x e) refl

pub mark_other : (k x : ℕ) → (k ≡ x → ⊥) → mark k x ≡ 0
mark_other k x h = rw (ne_eqb k x h) refl

pub times-append : (n : ℕ) (xs ys : List ℕ) → times n (xs ++ ys) ≡ times n xs + times n ys
times-append n [] ys = omega arith
times-append n (x ∷ xs) ys = omega (arith, times-append n xs ys)

pub times_here : (n : ℕ) (xs : List ℕ) → times n (n ∷ xs) ≡ 1 + times n xs
times_here n xs = rw (eq-eqb n n refl) refl

pub times_other : (n x : ℕ) (xs : List ℕ) → (n ≡ x → ⊥) → times n (x ∷ xs) ≡ times n xs
times_other n x xs h = rw (ne_eqb n x h) (zero-add (times n xs))

pub times_none : (n x : ℕ) (xs : List ℕ) → times n (x ∷ xs) ≡ 0 → n ≡ x → ⊥
times_none n x xs h e = let k : times n (x ∷ xs) ≡ 1 + times n xs = subst (λ y. times n (y ∷ xs) ≡ 1 + times n xs) e (times_here n xs) in omega arith

pub length-filter : (stop : ℕ) (xs : List ℕ) → length (filter (λ x. eqb x stop) xs) ≡ times stop xs
length-filter stop [] = refl
length-filter stop (x ∷ xs) = elim (cases_eq x stop) [
  | inl e ↦ rw (eq-eqb x stop e, eq-eqb stop x (sym e)) (omega (arith, length-filter stop xs))
  | inr n ↦ rw (ne_eqb x stop n, ne_eqb stop x (λ e. n (sym e))) (omega (arith, length-filter stop xs))
]

-- The sum of f over the n numbers from s on, and over the numbers of a list.
abbrev pub span : ℕ → ℕ → (ℕ → ℕ) → ℕ
span s zero f = 0
span s (suc n) f = f s + span (suc s) n f

abbrev pub over : (ℕ → ℕ) → List ℕ → ℕ
over f [] = 0
over f (x ∷ xs) = f x + over f xs

pub span_same : (s n : ℕ) (f g : ℕ → ℕ) → ((k : ℕ) → s ≤ k → f k ≡ g k) → span s n f ≡ span s n g
span_same s zero f g h = refl
span_same s (suc n) f g h = omega (arith, h s (omega arith), span_same (suc s) n f g (λ k l. h k (omega arith)))

span_le : (s n : ℕ) (f g : ℕ → ℕ) → ((k : ℕ) → f k ≤ g k) → span s n f ≤ span s n g
span_le s zero f g h = omega arith
span_le s (suc n) f g h = omega (arith, h s, span_le (suc s) n f g h)

span_plus : (s n : ℕ) (f g : ℕ → ℕ) → span s n (λ k. f k + g k) ≡ span s n f + span s n g
span_plus s zero f g = refl
span_plus s (suc n) f g = omega (arith, span_plus (suc s) n f g)

span_none : (s n : ℕ) (f : ℕ → ℕ) → ((k : ℕ) → s ≤ k → f k ≡ 0) → span s n f ≡ 0
span_none s zero f h = refl
span_none s (suc n) f h = omega (arith, h s (omega arith), span_none (suc s) n f (λ k l. h k (omega arith)))

span_ones : (s n : ℕ) → span s n (λ _. 1) ≡ n
span_ones s zero = refl
span_ones s (suc n) = omega (arith, span_ones (suc s) n)

over_ones : (xs : List ℕ) → over (λ _. 1) xs ≡ length xs
over_ones [] = refl
over_ones (x ∷ xs) = omega (arith, over_ones xs)

-- Of a sum over a range, one number's share.
pick : (c : ℕ → ℕ) (x s n : ℕ) → s ≤ x → x < s + n → span s n (λ k. c k * mark k x) ≡ c x
pick c x s zero h l = absurd (omega arith)
pick c x s (suc n) h l = elim (cases_eq s x) [
  | inl e ↦
      let a : c s * mark s x ≡ c s * 1 = ap (λ m. c s * m) (mark_same s x e) in
      let b : span (suc s) n (λ k. c k * mark k x) ≡ 0 =
      span_none (suc s) n _ (λ k g. ap (λ m. c k * m) (mark_other k x (λ d. omega arith)) ∙ mul-zero (c k)) in
      let d : c s ≡ c x = ap c e in
      omega arith
  | inr e ↦
      let a : c s * mark s x ≡ c s * 0 = ap (λ m. c s * m) (mark_other s x e) in
      omega (arith, pick c x (suc s) n (omega arith) (omega arith))
]

-- A sum over a list within a range is the sum over the range by how often each number stands in the list.
exchange : (c : ℕ → ℕ) (s n : ℕ) (xs : List ℕ) → Each (λ x. (s ≤ x) × (x < s + n)) xs → over c xs ≡ span s n (λ k. c k * times k xs)
exchange c s n [] h = sym (span_none s n _ (λ k _. mul-zero (c k)))
exchange c s n (x ∷ xs) h =
    let a = pick c x s n h.0.0 h.0.1 in
    let b = exchange c s n xs h.1 in
    let d = span_plus s n (λ k. c k * mark k x) (λ k. c k * times k xs) in
    let e = span_same s n (λ k. c k * (mark k x + times k xs)) (λ k. c k * mark k x + c k * times k xs) (λ k _. mul-add (c k) (mark k x) (times k xs)) in
    omega arith

share : (c m : ℕ) → (c ≡ 0) ⊎ (m ≤ 1) → c * m ≤ c
share c m (inl e) = let a : c * m ≡ 0 = ap (λ x. x * m) e ∙ zero-mul m in omega arith
share c m (inr h) = omega (arith, mul-le-mul_left {m = m} {n = 1} c h)

-- A list in which each number that counts stands once adds up to no more than the whole range.
pub over_le : (c : ℕ → ℕ) (s n : ℕ) (xs : List ℕ) → Each (λ x. (s ≤ x) × (x < s + n)) xs → ((k : ℕ) → (c k ≡ 0) ⊎ (times k xs ≤ 1)) → over c xs ≤ span s n c
over_le c s n xs h g =
    let a = span_le s n (λ k. c k * times k xs) c (λ k. share (c k) (times k xs) (g k)) in
    omega (arith, exchange c s n xs h)

-- Different numbers of a range are no more than the range has.
pub few : (s n : ℕ) (xs : List ℕ) → Each (λ x. (s ≤ x) × (x < s + n)) xs → ((k : ℕ) → times k xs ≤ 1) → length xs ≤ n
few s n xs h g = omega (arith, over_le (λ _. 1) s n xs h (λ k. inr (g k)), over_ones xs, span_ones s n)
