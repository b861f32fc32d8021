-- The laws of `weigh`.
use Rattle.std.proofs.Common.{◌≡◌, ℕ, zero, suc, ◌+◌, ◌*◌, ◌<◌, ◌≤◌, Bool, true, false, cond, eqb, ltb, ◌∷◌, sym, refl, ap, ◌∙◌, suc-le-suc, zero-le, le_refl, mul-zero, mul-add, arith}
use mathlib.Core.Path.{fun_ext}
use lib.Dec.{leb-zero, leb-suc-zero, leb-suc-suc, eqb-zero-suc, eqb-suc-zero, eqb-suc-suc}
use Rattle.terms.specs.Term.{Term, var, wire, bit, gate, new, bang, app, tuple, abs, Terms, none, part}
use Rattle.theory.specs.Acceptance.{equal, below, Item, slot, lead, same, Patterns, inner, weigh, weighs, one, linear}

pub equal_refl : (n : ℕ) → equal n n ≡ true
equal_refl zero = refl
equal_refl (suc n) = equal_refl n

pub equal_eq : (m n : ℕ) → equal m n ≡ true → m ≡ n
equal_eq zero zero e = refl
equal_eq zero (suc n) e = let z : ◌≡◌ {A = ℕ} 0 1 = cc in omega arith
equal_eq (suc m) zero e = let z : ◌≡◌ {A = ℕ} 0 1 = cc in omega arith
equal_eq (suc m) (suc n) e = ap suc (equal_eq m n e)

pub same_refl : (i : Item) → same i i ≡ true
same_refl (slot u p) = rw (equal_refl u, equal_refl p)
same_refl (lead k) = equal_refl k

pub below_lt : (m n : ℕ) → below m n ≡ true → m < n
below_lt m zero e = let z : ◌≡◌ {A = ℕ} 0 1 = cc in omega arith
below_lt zero (suc n) e = suc-le-suc zero-le
below_lt (suc m) (suc n) e = suc-le-suc (below_lt m n e)

pub lt_below : (m n : ℕ) → m < n → below m n ≡ true
lt_below m zero h = absurd (omega arith)
lt_below zero (suc n) h = refl
lt_below (suc m) (suc n) h = lt_below m n (omega arith)

pub ge_below : (m n : ℕ) → n ≤ m → below m n ≡ false
ge_below m zero h = refl
ge_below zero (suc n) h = absurd (omega arith)
ge_below (suc m) (suc n) h = ge_below m n (omega arith)

pub below_ge : (m n : ℕ) → below m n ≡ false → n ≤ m
below_ge m zero e = zero-le
below_ge zero (suc n) e = let z : ◌≡◌ {A = ℕ} 0 1 = cc in absurd (omega arith)
below_ge (suc m) (suc n) e = suc-le-suc (below_ge m n e)

-- f at one item, and 0 elsewhere
abbrev pub at : (Item → ℕ) → Item → Item → ℕ
at f i j = cond (same i j) (f j) 0

pub at_le : (f : Item → ℕ) (i j : Item) → at f i j ≤ f j
at_le f i j = go (same i j)
  where
    go : (b : Bool) → cond b (f j) 0 ≤ f j
    go true = le_refl _
    go false = zero-le

pub inner_plus : (c : ℕ) (f g : Item → ℕ) (i : Item) → inner (λ j. f j + c * g j) i ≡ inner f i + c * inner g i
inner_plus c f g (slot zero p) = rw mul-zero
inner_plus c f g (slot (suc u) p) = refl
inner_plus c f g (lead k) = refl

pub inner-zero : (i : Item) → inner (λ _. 0) i ≡ 0
inner-zero (slot zero p) = refl
inner-zero (slot (suc u) p) = refl
inner-zero (lead k) = refl

pub inner_le : (f g : Item → ℕ) → ((i : Item) → f i ≤ g i) → (i : Item) → inner f i ≤ inner g i
inner_le f g h (slot zero p) = le_refl _
inner_le f g h (slot (suc u) p) = h (slot u p)
inner_le f g h (lead k) = h (lead k)

pub weigh_same : (f g : Item → ℕ) (t : Term) → ((i : Item) → f i ≡ g i) → weigh f t ≡ weigh g t
weigh_same f g t h = ap (λ k. weigh k t) (fun_ext h)

mutual
  pub weigh_plus : (c : ℕ) (f g : Item → ℕ) (t : Term) → weigh (λ j. f j + c * g j) t ≡ weigh f t + c * weigh g t
  weigh_plus c f g (var u p) = refl
  weigh_plus c f g (wire w) = refl
  weigh_plus c f g (bit b) = rw mul-zero
  weigh_plus c f g (gate b) = rw mul-zero
  weigh_plus c f g (new t) = weigh_plus c f g t
  weigh_plus c f g (bang t) = weigh_plus c f g t
  weigh_plus c f g (app a b) = rw mul-add (omega (arith, weigh_plus c f g a, weigh_plus c f g b))
  weigh_plus c f g (tuple ts) = weighs_plus c f g ts
  weigh_plus c f g (abs n t) = weigh_same _ _ t (inner_plus c f g) ∙ weigh_plus c (inner f) (inner g) t

  pub weighs_plus : (c : ℕ) (f g : Item → ℕ) (ts : Terms) → weighs (λ j. f j + c * g j) ts ≡ weighs f ts + c * weighs g ts
  weighs_plus c f g none = rw mul-zero
  weighs_plus c f g (part a b) = rw mul-add (omega (arith, weigh_plus c f g a, weighs_plus c f g b))

mutual
  pub weigh-zero : (t : Term) → weigh (λ _. 0) t ≡ 0
  weigh-zero (var u p) = refl
  weigh-zero (wire w) = refl
  weigh-zero (bit b) = refl
  weigh-zero (gate b) = refl
  weigh-zero (new t) = weigh-zero t
  weigh-zero (bang t) = weigh-zero t
  weigh-zero (app a b) = omega (arith, weigh-zero a, weigh-zero b)
  weigh-zero (tuple ts) = weighs-zero ts
  weigh-zero (abs n t) = weigh_same _ _ t inner-zero ∙ weigh-zero t

  pub weighs-zero : (ts : Terms) → weighs (λ _. 0) ts ≡ 0
  weighs-zero none = refl
  weighs-zero (part a b) = omega (arith, weigh-zero a, weighs-zero b)

mutual
  pub weigh_le : (f g : Item → ℕ) (t : Term) → ((i : Item) → f i ≤ g i) → weigh f t ≤ weigh g t
  weigh_le f g (var u p) h = h (slot u p)
  weigh_le f g (wire w) h = h (lead w)
  weigh_le f g (bit b) h = le_refl _
  weigh_le f g (gate b) h = le_refl _
  weigh_le f g (new t) h = weigh_le f g t h
  weigh_le f g (bang t) h = weigh_le f g t h
  weigh_le f g (app a b) h = omega (arith, weigh_le f g a h, weigh_le f g b h)
  weigh_le f g (tuple ts) h = weighs_le f g ts h
  weigh_le f g (abs n t) h = weigh_le (inner f) (inner g) t (inner_le f g h)

  pub weighs_le : (f g : Item → ℕ) (ts : Terms) → ((i : Item) → f i ≤ g i) → weighs f ts ≤ weighs g ts
  weighs_le f g none h = le_refl _
  weighs_le f g (part a b) h = omega (arith, weigh_le f g a h, weighs_le f g b h)

pub cond_none : (b : Bool) → ◌≡◌ {A = ℕ} (cond b 0 0) 0
cond_none true = refl
cond_none false = refl

pub cond_one : (b : Bool) → cond b 1 0 ≡ one b
cond_one true = refl
cond_one false = refl

-- What weighs nothing at each single item weighs nothing.
pub at_own : (f : Item → ℕ) (p : ℕ) (j : Item) → at (inner f) (slot 0 p) j ≡ 0
at_own f p (slot zero q) = cond_none (equal p q)
at_own f p (slot (suc u) q) = refl
at_own f p (lead k) = refl

pub at_slot : (f : Item → ℕ) (u p : ℕ) (j : Item) → at (inner f) (slot (suc u) p) j ≡ inner (at f (slot u p)) j
at_slot f u p (slot zero q) = refl
at_slot f u p (slot (suc v) q) = refl
at_slot f u p (lead k) = refl

pub at_lead : (f : Item → ℕ) (k : ℕ) (j : Item) → at (inner f) (lead k) j ≡ inner (at f (lead k)) j
at_lead f k (slot zero q) = refl
at_lead f k (slot (suc v) q) = refl
at_lead f k (lead m) = refl

pub none_inner : (f : Item → ℕ) (t : Term) → ((i : Item) → weigh (inner (at f i)) t ≡ 0) → (i : Item) → weigh (at (inner f) i) t ≡ 0
none_inner f t h (slot zero p) = weigh_same _ _ t (at_own f p) ∙ weigh-zero t
none_inner f t h (slot (suc u) p) = weigh_same _ _ t (at_slot f u p) ∙ h (slot u p)
none_inner f t h (lead k) = weigh_same _ _ t (at_lead f k) ∙ h (lead k)

pub at_self : (f : Item → ℕ) (i : Item) → at f i i ≡ f i
at_self f i = rw (same_refl i)

mutual
  pub weigh_none : (f : Item → ℕ) (t : Term) → ((i : Item) → weigh (at f i) t ≡ 0) → weigh f t ≡ 0
  weigh_none f (var u p) h = sym (at_self f (slot u p)) ∙ h (slot u p)
  weigh_none f (wire w) h = sym (at_self f (lead w)) ∙ h (lead w)
  weigh_none f (bit b) h = refl
  weigh_none f (gate b) h = refl
  weigh_none f (new t) h = weigh_none f t h
  weigh_none f (bang t) h = weigh_none f t h
  weigh_none f (app a b) h = omega (arith, weigh_none f a (λ i. omega (arith, h i)), weigh_none f b (λ i. omega (arith, h i)))
  weigh_none f (tuple ts) h = weighs_none f ts h
  weigh_none f (abs n t) h = weigh_none (inner f) t (none_inner f t h)

  pub weighs_none : (f : Item → ℕ) (ts : Terms) → ((i : Item) → weighs (at f i) ts ≡ 0) → weighs f ts ≡ 0
  weighs_none f none h = refl
  weighs_none f (part a b) h = omega (arith, weigh_none f a (λ i. omega (arith, h i)), weighs_none f b (λ i. omega (arith, h i)))

pub weigh_at_none : (f : Item → ℕ) (t : Term) → weigh f t ≡ 0 → (i : Item) → weigh (at f i) t ≡ 0
weigh_at_none f t e i = omega (arith, weigh_le (at f i) f t (at_le f i))

-- What is linear within a binder.
pub linear-slot : (n : ℕ) (G : Patterns) (u p : ℕ) (j : Item) → at (linear (n ∷ G)) (slot (suc u) p) j ≡ inner (at (linear G) (slot u p)) j
linear-slot n G u p (slot zero q) = refl
linear-slot n G u p (slot (suc v) q) = refl
linear-slot n G u p (lead k) = refl

pub linear-lead : (n : ℕ) (G : Patterns) (k : ℕ) (j : Item) → at (linear (n ∷ G)) (lead k) j ≡ inner (at (linear G) (lead k)) j
linear-lead n G k (slot zero q) = refl
linear-lead n G k (slot (suc v) q) = refl
linear-lead n G k (lead m) = refl

pub linear_own : (n : ℕ) (G : Patterns) (p : ℕ) → p < n → (j : Item) → at (linear (n ∷ G)) (slot 0 p) j ≡ one (same (slot 0 p) j)
linear_own n G p h (slot zero q) = go (equal p q) refl
  where
    go : (b : Bool) → equal p q ≡ b → cond b (one (below q n)) 0 ≡ one b
    go true e = let lt : q < n = omega (arith, equal_eq p q e) in rw (lt_below q n lt)
    go false e = refl
linear_own n G p h (slot (suc v) q) = refl
linear_own n G p h (lead k) = refl

pub linear-past : (n : ℕ) (G : Patterns) (p : ℕ) → n ≤ p → (j : Item) → at (linear (n ∷ G)) (slot 0 p) j ≡ 0
linear-past n G p h (slot zero q) = go (equal p q) refl
  where
    go : (b : Bool) → equal p q ≡ b → cond b (one (below q n)) 0 ≡ 0
    go true e = let le : n ≤ q = omega (arith, equal_eq p q e) in rw (ge_below q n le)
    go false e = refl
linear-past n G p h (slot (suc v) q) = refl
linear-past n G p h (lead k) = refl

-- The tests of the library, which a program's `==` and `<` give.
pub equal_eqb : (m n : ℕ) → equal m n ≡ eqb m n
equal_eqb zero zero = refl
equal_eqb zero (suc n) = sym (eqb-zero-suc n)
equal_eqb (suc m) zero = sym (eqb-suc-zero m)
equal_eqb (suc m) (suc n) = equal_eqb m n ∙ sym (eqb-suc-suc m n)

pub below_ltb : (m n : ℕ) → below m n ≡ ltb m n
below_ltb m zero = sym (leb-suc-zero m)
below_ltb zero (suc n) = sym (leb-suc-suc 0 n ∙ leb-zero n)
below_ltb (suc m) (suc n) = below_ltb m n ∙ sym (leb-suc-suc (suc m) n)
