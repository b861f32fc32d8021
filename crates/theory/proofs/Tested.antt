-- Acceptance as four properties, and as a test.
use Rattle.std.proofs.Common.{◌≡◌, ℕ, zero, suc, ◌+◌, ◌<◌, ◌≤◌, Bool, true, false, ◌&&◌, ◌||◌, ◌⊎◌, [], ◌∷◌, Decides, sym, refl, ap, ◌∙◌, inl, inr, le_refl, suc-add, zero-add, arith}
use Rattle.std.proofs.lemmas.Bool.{and_parts, and_from}
use Rattle.std.proofs.lemmas.Bool.Decides.{Decides-and, Decides-below_and}
use Rattle.terms.specs.Term.{Term, var, wire, bit, gate, new, bang, app, tuple, abs, Terms, none, part}
use Rattle.theory.specs.Acceptance.{equal, below, Item, slot, lead, same, Patterns, stands, stand, own_wires, Accepted, inner, weigh, weighs, one, uses, linear, arity, Bound, Fine, Fines, Bounded, Boundeds, Once, Onces, Clear, Clears, Apart, Proper, each, bound, is_fine, are_fine, single_in, singles_in, accepted, AcceptedIsProper, AcceptedIsTested}
use Rattle.theory.proofs.Weigh.{equal_refl, equal_eq, at, cond_none, cond_one, below_lt, lt_below, weigh_same, weigh-zero}
use Rattle.theory.proofs.Equivalence.{counted, fine, holds, pos, pos_one, one_le}

-- The wires of a closed term.
pub at_lead : (k : ℕ) (j : Item) → at (linear []) (lead k) j ≡ one (same (lead k) j)
at_lead k (slot v q) = refl
at_lead k (lead m) = cond_one (equal k m)

pub at_slot : (u p : ℕ) (j : Item) → at (linear []) (slot u p) j ≡ 0
at_slot u p (slot v q) = cond_none (equal u v && equal p q)
at_slot u p (lead m) = refl

pub inner-lead : (k : ℕ) (j : Item) → inner (λ i. one (same (lead k) i)) j ≡ one (same (lead k) j)
inner-lead k (slot zero q) = refl
inner-lead k (slot (suc u) q) = refl
inner-lead k (lead m) = refl

pub or_pos : (a b : ℕ) → (pos a || pos b) ≡ pos (a + b)
or_pos zero b = rw (zero-add b)
or_pos (suc a) b = rw (suc-add a b)

pub pos_one_of : (b : Bool) → b ≡ pos (one b)
pos_one_of true = refl
pos_one_of false = refl

mutual
  pub stands-uses : (k : ℕ) (t : Term) → stands k t ≡ pos (uses (lead k) t)
  stands-uses k (var u p) = refl
  stands-uses k (wire w) = pos_one_of (equal k w)
  stands-uses k (bit c) = refl
  stands-uses k (gate g) = refl
  stands-uses k (new t) = stands-uses k t
  stands-uses k (bang t) = stands-uses k t
  stands-uses k (app f a) = rw (stands-uses k f, stands-uses k a) (or_pos _ _)
  stands-uses k (tuple ts) = stand-uses k ts
  stands-uses k (abs n t) = stands-uses k t ∙ ap pos (sym (weigh_same _ _ t (inner-lead k)))

  pub stand-uses : (k : ℕ) (ts : Terms) → stand k ts ≡ pos (weighs (λ j. one (same (lead k) j)) ts)
  stand-uses k none = refl
  stand-uses k (part t ts) = rw (stands-uses k t, stand-uses k ts) (or_pos _ _)

pub own_counted : (t : Term) → Apart t → (i : Item) → weigh (at (linear []) i) t ≡ one (own_wires t i)
own_counted t a (slot u p) = weigh_same _ _ t (at_slot u p) ∙ weigh-zero t
own_counted t a (lead k) = weigh_same _ _ t (at_lead k) ∙ pos_one (uses (lead k) t) (a k) ∙ ap one (sym (stands-uses k t))

pub accepted-fine : (t : Term) → Accepted t → Fine [] t × Apart t
accepted-fine t d = (fine d, λ k. omega (arith, weigh_same _ _ t (at_lead k), counted d (lead k), one_le (stands k t)))

pub fine-accepted : (t : Term) → Fine [] t → Apart t → Accepted t
fine-accepted t f a = holds [] (own_wires t) t f (own_counted t a)

-- The three parts of `Fine`.
mutual
  pub fine-parts : (G : Patterns) (t : Term) → Fine G t → Bounded G t × Once t × Clear G t
  fine-parts G (var u p) f = (f, tt, tt)
  fine-parts G (wire w) f = (tt, tt, tt)
  fine-parts G (bit c) f = (tt, tt, tt)
  fine-parts G (gate g) f = (tt, tt, tt)
  fine-parts G (new t) f = fine-parts G t f
  fine-parts G (bang t) f = let r = fine-parts G t f.0 in (r.0, r.1, (r.2, f.1))
  fine-parts G (app a b) f = let r = fine-parts G a f.0 in let s = fine-parts G b f.1 in ((r.0, s.0), (r.1, s.1), (r.2, s.2))
  fine-parts G (tuple ts) f = fines-parts G ts f
  fine-parts G (abs n t) f = let r = fine-parts (n ∷ G) t f.0 in (r.0, (r.1, f.1), r.2)

  pub fines-parts : (G : Patterns) (ts : Terms) → Fines G ts → Boundeds G ts × Onces ts × Clears G ts
  fines-parts G none f = (tt, tt, tt)
  fines-parts G (part a b) f = let r = fine-parts G a f.0 in let s = fines-parts G b f.1 in ((r.0, s.0), (r.1, s.1), (r.2, s.2))

mutual
  pub parts-fine : (G : Patterns) (t : Term) → Bounded G t → Once t → Clear G t → Fine G t
  parts-fine G (var u p) b o c = b
  parts-fine G (wire w) b o c = tt
  parts-fine G (bit x) b o c = tt
  parts-fine G (gate g) b o c = tt
  parts-fine G (new t) b o c = parts-fine G t b o c
  parts-fine G (bang t) b o c = (parts-fine G t b o c.0, c.1)
  parts-fine G (app f a) b o c = (parts-fine G f b.0 o.0 c.0, parts-fine G a b.1 o.1 c.1)
  parts-fine G (tuple ts) b o c = parts-fines G ts b o c
  parts-fine G (abs n t) b o c = (parts-fine (n ∷ G) t b o.0 c, o.1)

  pub parts-fines : (G : Patterns) (ts : Terms) → Boundeds G ts → Onces ts → Clears G ts → Fines G ts
  parts-fines G none b o c = tt
  parts-fines G (part f a) b o c = (parts-fine G f b.0 o.0 c.0, parts-fines G a b.1 o.1 c.1)

pub accepted_is_proper : AcceptedIsProper
accepted_is_proper t = (there, back)
  where
    there : Accepted t → Proper t
    there d =
        let r = accepted-fine t d in
        let s = fine-parts [] t r.0 in
        record { bounded = s.0; once = s.1; clear = s.2; apart = r.1 }

    back : Proper t → Accepted t
    back h = fine-accepted t (parts-fine [] t h.bounded h.once h.clear) h.apart

-- The test.
pub decides_equal : (m n : ℕ) → Decides (equal m n) (m ≡ n)
decides_equal m n = (equal_eq m n, λ e. rw (e) (equal_refl n))

pub decides_below : (m n : ℕ) → Decides (below m n) (m < n)
decides_below m n = (below_lt m n, lt_below m n)

pub decides_yes : Decides true (Unit {0})
decides_yes = (λ _. tt, λ _. refl)

pub decides_each : (n : ℕ) (q : ℕ → Bool) (Q : ℕ → Type 0) → ((k : ℕ) → Decides (q k) (Q k)) → Decides (each n q) ((k : ℕ) → k < n → Q k)
decides_each n q Q d = Decides-below_and q Q (λ m. each m q) d refl (λ _. refl) n

pub decides_bound : (G : Patterns) (u p : ℕ) → Decides (bound G u p) (Bound G u p)
decides_bound [] u p = (λ e. let z : ◌≡◌ {A = ℕ} 0 1 = cc in omega arith, λ h. absurd h)
decides_bound (n ∷ G) zero p = decides_below p (arity n)
decides_bound (n ∷ G) (suc u) p = decides_bound G u p

mutual
  pub decides_is_fine : (G : Patterns) (t : Term) → Decides (is_fine G t) (Fine G t)
  decides_is_fine G (var u p) = decides_bound G u p
  decides_is_fine G (wire w) = decides_yes
  decides_is_fine G (bit c) = decides_yes
  decides_is_fine G (gate g) = decides_yes
  decides_is_fine G (new t) = decides_is_fine G t
  decides_is_fine G (bang t) = Decides-and _ _ (decides_is_fine G t) (decides_equal _ _)
  decides_is_fine G (app a b) = Decides-and _ _ (decides_is_fine G a) (decides_is_fine G b)
  decides_is_fine G (tuple ts) = decides_are_fine G ts
  decides_is_fine G (abs n t) = Decides-and _ _ (decides_is_fine (n ∷ G) t) (decides_each n _ _ (λ p. decides_equal (uses (slot 0 p) t) 1))

  pub decides_are_fine : (G : Patterns) (ts : Terms) → Decides (are_fine G ts) (Fines G ts)
  decides_are_fine G none = decides_yes
  decides_are_fine G (part a b) = Decides-and _ _ (decides_is_fine G a) (decides_are_fine G b)

pub wire-once : (whole : Term) (k w : ℕ) (b : Bool) → equal k w ≡ b → uses (lead w) whole ≡ 1 → (one b ≡ 0) ⊎ (uses (lead k) whole ≡ 1)
wire-once whole k w true e h = inr (rw (equal_eq k w e) h)
wire-once whole k w false e h = inl refl

pub sum-once : (a b : ℕ) (C : Type 0) → (a ≡ 0) ⊎ C → (b ≡ 0) ⊎ C → (a + b ≡ 0) ⊎ C
sum-once a b C (inl p) (inl q) = inl (omega arith)
sum-once a b C (inl p) (inr q) = inr q
sum-once a b C (inr p) q = inr p

mutual
  pub single_once : (whole t : Term) (k : ℕ) → single_in whole t ≡ true → (uses (lead k) t ≡ 0) ⊎ (uses (lead k) whole ≡ 1)
  single_once whole (var u p) k e = inl refl
  single_once whole (wire w) k e = wire-once whole k w (equal k w) refl (equal_eq _ _ e)
  single_once whole (bit c) k e = inl refl
  single_once whole (gate g) k e = inl refl
  single_once whole (new t) k e = single_once whole t k e
  single_once whole (bang t) k e = single_once whole t k e
  single_once whole (app a b) k e =
      let h = and_parts _ _ e in sum-once _ _ _ (single_once whole a k h.0) (single_once whole b k h.1)
  single_once whole (tuple ts) k e = singles_once whole ts k e
  single_once whole (abs n t) k e = rw (weigh_same _ _ t (inner-lead k)) (single_once whole t k e)

  pub singles_once : (whole : Term) (ts : Terms) (k : ℕ) → singles_in whole ts ≡ true → (weighs (λ j. one (same (lead k) j)) ts ≡ 0) ⊎ (uses (lead k) whole ≡ 1)
  singles_once whole none k e = inl refl
  singles_once whole (part a b) k e =
      let h = and_parts _ _ e in sum-once _ _ _ (single_once whole a k h.0) (singles_once whole b k h.1)

mutual
  pub once_single : (whole t : Term) → Apart whole → ((k : ℕ) → uses (lead k) t ≤ uses (lead k) whole) → single_in whole t ≡ true
  once_single whole (var u p) a h = refl
  once_single whole (wire w) a h =
      let e : uses (lead w) whole ≡ 1 = omega (arith, a w, h w, ap one (equal_refl w)) in rw e
  once_single whole (bit c) a h = refl
  once_single whole (gate g) a h = refl
  once_single whole (new t) a h = once_single whole t a h
  once_single whole (bang t) a h = once_single whole t a h
  once_single whole (app f b) a h =
      and_from _ _ (once_single whole f a (λ k. omega (arith, h k))) (once_single whole b a (λ k. omega (arith, h k)))
  once_single whole (tuple ts) a h = once_singles whole ts a h
  once_single whole (abs n t) a h = once_single whole t a (λ k. omega (arith, h k, weigh_same _ _ t (inner-lead k)))

  pub once_singles : (whole : Term) (ts : Terms) → Apart whole → ((k : ℕ) → weighs (λ j. one (same (lead k) j)) ts ≤ uses (lead k) whole) → singles_in whole ts ≡ true
  once_singles whole none a h = refl
  once_singles whole (part f b) a h =
      and_from _ _ (once_single whole f a (λ k. omega (arith, h k))) (once_singles whole b a (λ k. omega (arith, h k)))

pub apart-once : (m : ℕ) → (m ≡ 0) ⊎ (m ≡ 1) → m ≤ 1
apart-once m h = omega arith

pub decides_apart : (t : Term) → Decides (single_in t t) (Apart t)
decides_apart t = (λ e k. apart-once _ (single_once t t k e), λ a. once_single t t a (λ k. le_refl _))

pub accepted_is_tested : AcceptedIsTested
accepted_is_tested t = (there, back)
  where
    d : Decides (accepted t) (Fine [] t × Apart t)
    d = Decides-and _ _ (decides_is_fine [] t) (decides_apart t)

    there : Accepted t → accepted t ≡ true
    there h = d.1 (accepted-fine t h)

    back : accepted t ≡ true → Accepted t
    back e = let r = d.0 e in fine-accepted t r.0 r.1
