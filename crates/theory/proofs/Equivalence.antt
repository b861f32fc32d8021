-- The rules and the counting say the same.
use Rattle.std.proofs.Common.{◌≡◌, ℕ, zero, suc, ◌+◌, ◌<◌, ◌≤◌, Bool, true, false, [], ◌∷◌, sym, refl, ap, ◌∙◌, suc-le-suc, zero-le, le_refl, arith}
use Rattle.terms.specs.Term.{Term, var, wire, bit, gate, new, bang, app, tuple, abs, Terms, none, part}
use Rattle.theory.specs.Acceptance.{below, Item, slot, lead, same, Patterns, Binder, nearest, further, Items, Empty, Only, Dealt, neither, left, right, within, Holds, Hold, bit_holds, gate_holds, shared_holds, linear_holds, wire_holds, new_holds, bang_holds, app_holds, tuple_holds, abs_holds, none_hold, part_hold, inner, weigh, weighs, one, uses, pattern, linear, arity, Bound, Fine, Fines, NeedsDetermined}
use Rattle.theory.proofs.Weigh.{at, cond_none, cond_one, below_lt, lt_below, below_ge, weigh_same, weigh-zero, weigh_none, weigh_at_none, linear-slot, linear-lead, linear_own, linear-past}

pub binder_pattern : {G : Patterns} {u n : ℕ} → Binder G u n → pattern G u ≡ n
binder_pattern nearest = refl
binder_pattern (further b) = binder_pattern b

pub binder_bound : {G : Patterns} {u n : ℕ} (p : ℕ) → Binder G u n → p < arity n → Bound G u p
binder_bound p nearest h = h
binder_bound p (further b) h = binder_bound p b h

pub bound_binder : (G : Patterns) (u p : ℕ) → Bound G u p → (n : ℕ) × Binder G u n × (p < arity n)
bound_binder [] u p h = absurd h
bound_binder (n ∷ G) zero p h = (n, nearest, h)
bound_binder (n ∷ G) (suc u) p h = let r = bound_binder G u p h in (r.0, further r.1, r.2)

pub lt_arity : (p n : ℕ) → p < n → p < arity n
lt_arity p zero h = absurd (omega arith)
lt_arity p (suc n) h = h

pub dealt_sum : {a b c : Bool} → Dealt a b c → one a ≡ one b + one c
dealt_sum neither = refl
dealt_sum left = refl
dealt_sum right = refl

pub one_le : (b : Bool) → one b ≤ 1
one_le true = le_refl _
one_le false = zero-le

pub one_same : (a b : Bool) → one a ≡ one b → a ≡ b
one_same true true e = refl
one_same true false e = absurd (omega arith)
one_same false true e = absurd (omega arith)
one_same false false e = refl

pub abs-counted : (G : Patterns) (n : ℕ) (L : Items) (t : Term) → ((j : Item) → weigh (at (linear (n ∷ G)) j) t ≡ one (within n L j)) → (i : Item) → weigh (inner (at (linear G) i)) t ≡ one (L i)
abs-counted G n L t h (slot u p) = sym (weigh_same _ _ t (linear-slot n G u p)) ∙ h (slot (suc u) p)
abs-counted G n L t h (lead k) = sym (weigh_same _ _ t (linear-lead n G k)) ∙ h (lead k)

mutual
  pub counted : {G : Patterns} {L : Items} {t : Term} → Holds G L t → (i : Item) → weigh (at (linear G) i) t ≡ one (L i)
  counted (bit_holds e) i = rw (e i)
  counted (gate_holds e) i = rw (e i)
  counted (shared_holds {u = u} b e) i = rw (binder_pattern b, e i) (cond_none (same i (slot u 0)))
  counted (linear_holds {u = u} {p = p} {n = n} b h e) i = rw (binder_pattern b, lt_below p n h, e i) (cond_one (same i (slot u p)))
  counted (wire_holds {k = k} e) i = rw (e i) (cond_one (same i (lead k)))
  counted (new_holds d) i = counted d i
  counted (bang_holds e d) i = counted d i
  counted (app_holds s d e) i = omega (arith, counted d i, counted e i, dealt_sum (s i))
  counted (tuple_holds d) i = counteds d i
  counted (abs_holds {G = G} {L = L} {n = n} {t = t} d) i = abs-counted G n L t (counted d) i

  pub counteds : {G : Patterns} {L : Items} {ts : Terms} → Hold G L ts → (i : Item) → weighs (at (linear G) i) ts ≡ one (L i)
  counteds (none_hold e) i = rw (e i)
  counteds (part_hold s d e) i = omega (arith, counted d i, counteds e i, dealt_sum (s i))

mutual
  pub fine : {G : Patterns} {L : Items} {t : Term} → Holds G L t → Fine G t
  fine (bit_holds e) = tt
  fine (gate_holds e) = tt
  fine (shared_holds b e) = binder_bound 0 b (suc-le-suc zero-le)
  fine (linear_holds {p = p} {n = n} b h e) = binder_bound p b (lt_arity p n h)
  fine (wire_holds e) = tt
  fine (new_holds d) = fine d
  fine (bang_holds {G = G} {t = t} e d) = (fine d, weigh_none (linear G) t (λ i. counted d i ∙ ap one (e i)))
  fine (app_holds s d e) = (fine d, fine e)
  fine (tuple_holds d) = fines d
  fine (abs_holds {G = G} {n = n} {t = t} d) = (fine d, λ p h. sym (weigh_same _ _ t (linear_own n G p h)) ∙ counted d (slot 0 p) ∙ ap one (lt_below p n h))

  pub fines : {G : Patterns} {L : Items} {ts : Terms} → Hold G L ts → Fines G ts
  fines (none_hold e) = tt
  fines (part_hold s d e) = (fine d, fines e)

-- The other way.
abbrev pub pos : ℕ → Bool
pos zero = false
pos (suc n) = true

pub pos_one : (a : ℕ) → a ≤ 1 → a ≡ one (pos a)
pos_one zero h = refl
pos_one (suc a) h = omega arith

pub deal : (a b : ℕ) (c : Bool) → a + b ≡ one c → Dealt c (pos a) (pos b)
deal zero zero false e = neither
deal zero zero true e = absurd (omega arith)
deal zero (suc b) true e = right
deal zero (suc b) false e = absurd (omega arith)
deal (suc a) zero true e = left
deal (suc a) zero false e = absurd (omega arith)
deal (suc a) (suc b) true e = absurd (omega arith)
deal (suc a) (suc b) false e = absurd (omega arith)

pub var-linear : (G : Patterns) (L : Items) (u p n : ℕ) → Binder G u n → p < n → ((i : Item) → at (linear G) i (slot u p) ≡ one (L i)) → Only (slot u p) L
var-linear G L u p n b h c i = one_same _ _ (sym (c i) ∙ rw (binder_pattern b, lt_below p n h) (cond_one (same i (slot u p))))

pub var_shared : (G : Patterns) (L : Items) (u p : ℕ) → Binder G u 0 → ((i : Item) → at (linear G) i (slot u p) ≡ one (L i)) → Empty L
var_shared G L u p b c i = one_same _ _ (sym (c i) ∙ rw (binder_pattern b) (cond_none (same i (slot u p))))

pub var-holds : (G : Patterns) (L : Items) (u p n : ℕ) → Binder G u n → p < arity n → ((i : Item) → at (linear G) i (slot u p) ≡ one (L i)) → Holds G L (var u p)
var-holds G L u zero zero b h c = shared_holds b (var_shared G L u 0 b c)
var-holds G L u (suc p) zero b h c = absurd (omega arith)
var-holds G L u p (suc n) b h c = linear_holds b h (var-linear G L u p (suc n) b h c)

pub within-counted : (G : Patterns) (L : Items) (n : ℕ) (t : Term) → ((p : ℕ) → p < n → uses (slot 0 p) t ≡ 1) → ((i : Item) → weigh (inner (at (linear G) i)) t ≡ one (L i)) → (j : Item) → weigh (at (linear (n ∷ G)) j) t ≡ one (within n L j)
within-counted G L n t o c (slot zero p) = go (below p n) refl
  where
    go : (b : Bool) → below p n ≡ b → weigh (at (linear (n ∷ G)) (slot 0 p)) t ≡ one b
    go true e = let h = below_lt p n e in weigh_same _ _ t (linear_own n G p h) ∙ o p h
    go false e = weigh_same _ _ t (linear-past n G p (below_ge p n e)) ∙ weigh-zero t
within-counted G L n t o c (slot (suc u) p) = weigh_same _ _ t (linear-slot n G u p) ∙ c (slot u p)
within-counted G L n t o c (lead k) = weigh_same _ _ t (linear-lead n G k) ∙ c (lead k)

mutual
  pub holds : (G : Patterns) (L : Items) (t : Term) → Fine G t → ((i : Item) → weigh (at (linear G) i) t ≡ one (L i)) → Holds G L t
  holds G L (var u p) f c = let r = bound_binder G u p f in var-holds G L u p r.0 r.1 r.2 c
  holds G L (wire w) f c = wire_holds (λ i. one_same _ _ (sym (c i) ∙ cond_one (same i (lead w))))
  holds G L (bit b) f c = bit_holds (λ i. one_same _ _ (sym (c i)))
  holds G L (gate b) f c = gate_holds (λ i. one_same _ _ (sym (c i)))
  holds G L (new t) f c = new_holds (holds G L t f c)
  holds G L (bang t) f c = bang_holds (λ i. one_same _ _ (sym (c i) ∙ weigh_at_none (linear G) t f.1 i)) (holds G L t f.0 c)
  holds G L (app a b) f c =
      app_holds (λ i. deal (weigh (at (linear G) i) a) (weigh (at (linear G) i) b) (L i) (c i))
      (holds G (λ i. pos (weigh (at (linear G) i) a)) a f.0 (λ i. pos_one _ (omega (arith, c i, one_le (L i)))))
      (holds G (λ i. pos (weigh (at (linear G) i) b)) b f.1 (λ i. pos_one _ (omega (arith, c i, one_le (L i)))))
  holds G L (tuple ts) f c = tuple_holds (hold G L ts f c)
  holds G L (abs n t) f c = abs_holds (holds (n ∷ G) (within n L) t f.0 (within-counted G L n t f.1 c))

  pub hold : (G : Patterns) (L : Items) (ts : Terms) → Fines G ts → ((i : Item) → weighs (at (linear G) i) ts ≡ one (L i)) → Hold G L ts
  hold G L none f c = none_hold (λ i. one_same _ _ (sym (c i)))
  hold G L (part a b) f c =
      part_hold (λ i. deal (weigh (at (linear G) i) a) (weighs (at (linear G) i) b) (L i) (c i))
      (holds G (λ i. pos (weigh (at (linear G) i) a)) a f.0 (λ i. pos_one _ (omega (arith, c i, one_le (L i)))))
      (hold G (λ i. pos (weighs (at (linear G) i) b)) b f.1 (λ i. pos_one _ (omega (arith, c i, one_le (L i)))))

pub needs_determined : NeedsDetermined
needs_determined G L M t d e i = one_same (L i) (M i) (sym (counted d i) ∙ counted e i)
