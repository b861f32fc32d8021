-- No fault at any node: the properties of an accepted term.
use Rattle.std.proofs.Common.{◌≡◌, ℕ, zero, suc, ◌+◌, ◌<◌, ◌≤◌, Bool, true, false, ◌&&◌, ltb, [], ◌∷◌, sym, refl, ap, ◌∙◌, inl, inr, zero-le, le_refl, arith, le-ltb, lt-ltb}
use Rattle.std.proofs.lemmas.Bool.{cases_Bool, cases_eq, false_from_ne_true}
use Rattle.terms.specs.Term.{Term, var, wire, bit, gate, new, bang, app, tuple, abs, Terms, none, part, size}
use Rattle.theory.specs.Acceptance.{Item, slot, lead, below, inner, weigh, weighs, one, uses, linear, Patterns, Bound, bound, pattern, Bounded, Boundeds, Once, Onces, Clear, Clears}
use Rattle.theory.proofs.Weigh.{below_ltb, weigh_same, weigh-zero, weigh_le}
use Rattle.theory.proofs.Equivalence.{one_le}
use Rattle.theory.proofs.Tested.{decides_bound}
use Rattle.checker.specs.Faults.{Scope, patterns, frame, At, Ats, here, in_new, in_bang, in_fun, in_arg, in_tuple, in_abs, in_part, in_rest, Unbound, unbound, Misused, misused, Shut, shut_variable, shut_wire, Nowhere}
use Rattle.checker.specs.Sites.{resolve, role_of}
use Rattle.checker.specs.Roles.{shut_role}
use Rattle.checker.proofs.Showing.{shut_of, shut_resolve}

-- Variables.
bound_stable : (G : Patterns) (u p : ℕ) → ((Bound G u p → ⊥) → ⊥) → Bound G u p
bound_stable G u p h = elim (cases_Bool (bound G u p)) [ inl e ↦ (decides_bound G u p).0 e | inr e ↦ absurd (h (λ k. cc (e, (decides_bound G u p).1 k))) ]

mutual
  bounded : (G : Scope) (b m : ℕ) (t : Term) → ((n : ℕ) (H : Scope) (c u p : ℕ) → At G b m t n H c (var u p) → Bound (patterns H) u p) → Bounded (patterns G) t
  bounded G b m (var u p) h = h m G b u p here
  bounded G b m (wire w) h = tt
  bounded G b m (bit x) h = tt
  bounded G b m (gate g) h = tt
  bounded G b m (new t) h = bounded G b (m + 1) t (λ n H c u p a. h n H c u p (in_new a))
  bounded G b m (bang t) h = bounded G (b + 1) (m + 1) t (λ n H c u p a. h n H c u p (in_bang a))
  bounded G b m (app f x) h = (bounded G b (m + 1) f (λ n H c u p a. h n H c u p (in_fun a)), bounded G b (m + 1 + size f) x (λ n H c u p a. h n H c u p (in_arg a)))
  bounded G b m (tuple ts) h = boundeds G b (m + 1) ts (λ n H c u p a. h n H c u p (in_tuple a))
  bounded G b m (abs k t) h = bounded (frame m k b ∷ G) b (m + 1) t (λ n H c u p a. h n H c u p (in_abs a))

  boundeds : (G : Scope) (b m : ℕ) (ts : Terms) → ((n : ℕ) (H : Scope) (c u p : ℕ) → Ats G b m ts n H c (var u p) → Bound (patterns H) u p) → Boundeds (patterns G) ts
  boundeds G b m none h = tt
  boundeds G b m (part t ts) h = (bounded G b m t (λ n H c u p a. h n H c u p (in_part a)), boundeds G b (m + size t) ts (λ n H c u p a. h n H c u p (in_rest a)))

mutual
  at_bounded : {G : Scope} {b m : ℕ} {t : Term} {n : ℕ} {H : Scope} {c : ℕ} {s : Term} → At G b m t n H c s → Bounded (patterns G) t → Bounded (patterns H) s
  at_bounded here h = h
  at_bounded (in_new a) h = at_bounded a h
  at_bounded (in_bang a) h = at_bounded a h
  at_bounded (in_fun a) h = at_bounded a h.0
  at_bounded (in_arg a) h = at_bounded a h.1
  at_bounded (in_tuple a) h = ats_bounded a h
  at_bounded (in_abs a) h = at_bounded a h

  ats_bounded : {G : Scope} {b m : ℕ} {ts : Terms} {n : ℕ} {H : Scope} {c : ℕ} {s : Term} → Ats G b m ts n H c s → Boundeds (patterns G) ts → Bounded (patterns H) s
  ats_bounded (in_part a) h = at_bounded a h.0
  ats_bounded (in_rest a) h = ats_bounded a h.1

pub no_unbound : (t : Term) → Nowhere (Unbound t) → Bounded [] t
no_unbound t h = bounded [] 0 0 t (λ n H c u p a. bound_stable (patterns H) u p (λ k. h n (unbound a k)))

pub bounded_none : (t : Term) → Bounded [] t → Nowhere (Unbound t)
bounded_none t b n (unbound a k) = k (at_bounded a b)

-- Uses.
mutual
  once : (G : Scope) (b m : ℕ) (t : Term) → ((n : ℕ) (H : Scope) (c k : ℕ) (s : Term) → At G b m t n H c (abs k s) → (p : ℕ) → p < k → uses (slot 0 p) s ≡ 1) → Once t
  once G b m (var u p) h = tt
  once G b m (wire w) h = tt
  once G b m (bit x) h = tt
  once G b m (gate g) h = tt
  once G b m (new t) h = once G b (m + 1) t (λ n H c k s a. h n H c k s (in_new a))
  once G b m (bang t) h = once G (b + 1) (m + 1) t (λ n H c k s a. h n H c k s (in_bang a))
  once G b m (app f x) h = (once G b (m + 1) f (λ n H c k s a. h n H c k s (in_fun a)), once G b (m + 1 + size f) x (λ n H c k s a. h n H c k s (in_arg a)))
  once G b m (tuple ts) h = onces G b (m + 1) ts (λ n H c k s a. h n H c k s (in_tuple a))
  once G b m (abs k t) h = (once (frame m k b ∷ G) b (m + 1) t (λ n H c j s a. h n H c j s (in_abs a)), h m G b k t here)

  onces : (G : Scope) (b m : ℕ) (ts : Terms) → ((n : ℕ) (H : Scope) (c k : ℕ) (s : Term) → Ats G b m ts n H c (abs k s) → (p : ℕ) → p < k → uses (slot 0 p) s ≡ 1) → Onces ts
  onces G b m none h = tt
  onces G b m (part t ts) h = (once G b m t (λ n H c k s a. h n H c k s (in_part a)), onces G b (m + size t) ts (λ n H c k s a. h n H c k s (in_rest a)))

mutual
  at_once : {G : Scope} {b m : ℕ} {t : Term} {n : ℕ} {H : Scope} {c : ℕ} {s : Term} → At G b m t n H c s → Once t → Once s
  at_once here h = h
  at_once (in_new a) h = at_once a h
  at_once (in_bang a) h = at_once a h
  at_once (in_fun a) h = at_once a h.0
  at_once (in_arg a) h = at_once a h.1
  at_once (in_tuple a) h = ats_once a h
  at_once (in_abs a) h = at_once a h.0

  ats_once : {G : Scope} {b m : ℕ} {ts : Terms} {n : ℕ} {H : Scope} {c : ℕ} {s : Term} → Ats G b m ts n H c s → Onces ts → Once s
  ats_once (in_part a) h = at_once a h.0
  ats_once (in_rest a) h = ats_once a h.1

number_stable : (a b : ℕ) → ((a ≡ b → ⊥) → ⊥) → a ≡ b
number_stable a b h = elim (cases_eq a b) [ inl e ↦ e | inr k ↦ absurd (h k) ]

pub no_misuse : (t : Term) → Nowhere (Misused t) → Once t
no_misuse t h = once [] 0 0 t (λ n H c k s a p lt. number_stable (uses (slot 0 p) s) 1 (λ e. h n (misused a lt e)))

pub once_none : (t : Term) → Once t → Nowhere (Misused t)
once_none t o n (misused {p = p} a lt k) = k ((at_once a o).1 p lt)

-- Bangs. What breaks the rule at a place within the binders G and b bangs.
abbrev strained : Scope → ℕ → Item → ℕ
strained G b (slot u p) = one (shut_role (resolve G b u p))
strained G b (lead k) = one (ltb 0 b)

abbrev Shallow : Scope → ℕ → Type 0
Shallow [] b = Unit {0}
Shallow (f ∷ G) b = (f.depth ≤ b) × Shallow G b

shallow_more : (G : Scope) (b : ℕ) → Shallow G b → Shallow G (b + 1)
shallow_more [] b h = tt
shallow_more (f ∷ G) b h = (omega (arith, h.0), shallow_more G b h.1)

linear-slot : (G : Scope) (b u p : ℕ) → Shallow G b → one (shut_role (resolve G (b + 1) u p)) ≡ one (below p (pattern (patterns G) u))
linear-slot [] b u p h = refl
linear-slot (f ∷ G) b zero p h = let l : f.depth < b + 1 = omega (arith, h.0) in rw (lt-ltb f.depth (b + 1) l, below_ltb p f.pattern) refl
linear-slot (f ∷ G) b (suc u) p h = linear-slot G b u p h.1

strained-linear : (G : Scope) (b : ℕ) → Shallow G b → (i : Item) → strained G (b + 1) i ≡ linear (patterns G) i
strained-linear G b h (slot u p) = linear-slot G b u p h
strained-linear G b h (lead k) = let l : 0 < b + 1 = omega arith in rw (lt-ltb 0 (b + 1) l) refl

one_and : (x y z : Bool) → (x ≡ true → y ≡ true) → one (x && z) ≤ one (y && z)
one_and true true z h = le_refl _
one_and true false z h = absurd (cc (h refl))
one_and false true z h = zero-le
one_and false false z h = le_refl _

more_slot : (G : Scope) (b u p : ℕ) → Shallow G b → one (shut_role (resolve G b u p)) ≤ one (shut_role (resolve G (b + 1) u p))
more_slot [] b u p h = le_refl _
more_slot (f ∷ G) b zero p h = let l : f.depth < b + 1 = omega (arith, h.0) in one_and (ltb f.depth b) (ltb f.depth (b + 1)) (ltb p f.pattern) (λ _. lt-ltb f.depth (b + 1) l)
more_slot (f ∷ G) b (suc u) p h = more_slot G b u p h.1

strained_more : (G : Scope) (b : ℕ) → Shallow G b → (i : Item) → strained G b i ≤ strained G (b + 1) i
strained_more G b h (slot u p) = more_slot G b u p h
strained_more G b h (lead k) = let l : 0 < b + 1 = omega arith in rw (lt-ltb 0 (b + 1) l) (one_le (ltb 0 b))

strained-inner : (G : Scope) (b m k : ℕ) (i : Item) → strained (frame m k b ∷ G) b i ≡ inner (strained G b) i
strained-inner G b m k (slot zero p) = let l : b ≤ b = omega arith in rw (le-ltb b b l) refl
strained-inner G b m k (slot (suc u) p) = refl
strained-inner G b m k (lead w) = refl

one_false : (x : Bool) → x ≡ false → one x ≡ 0
one_false x e = rw e refl

mutual
  clear : (G : Scope) (b m : ℕ) (t : Term) → Shallow G b → ((n : ℕ) (H : Scope) (c : ℕ) (s : Term) → At G b m t n H c s → shut_role (role_of H c n s) ≡ false) → Clear (patterns G) t × (weigh (strained G b) t ≡ 0)
  clear G b m (var u p) d h = (tt, one_false _ (h m G b (var u p) here))
  clear G b m (wire w) d h = (tt, one_false _ (h m G b (wire w) here))
  clear G b m (bit x) d h = (tt, refl)
  clear G b m (gate g) d h = (tt, refl)
  clear G b m (new t) d h = clear G b (m + 1) t d (λ n H c s a. h n H c s (in_new a))
  clear G b m (bang t) d h =
      let r = clear G (b + 1) (m + 1) t (shallow_more G b d) (λ n H c s a. h n H c s (in_bang a)) in
      ((r.0, sym (weigh_same _ _ t (strained-linear G b d)) ∙ r.1), omega (arith, weigh_le (strained G b) (strained G (b + 1)) t (strained_more G b d), r.1))
  clear G b m (app f x) d h =
      let r = clear G b (m + 1) f d (λ n H c s a. h n H c s (in_fun a)) in
      let q = clear G b (m + 1 + size f) x d (λ n H c s a. h n H c s (in_arg a)) in
      ((r.0, q.0), omega (arith, r.1, q.1))
  clear G b m (tuple ts) d h = clears G b (m + 1) ts d (λ n H c s a. h n H c s (in_tuple a))
  clear G b m (abs k t) d h =
      let r = clear (frame m k b ∷ G) b (m + 1) t (le_refl _, d) (λ n H c s a. h n H c s (in_abs a)) in
      (r.0, sym (weigh_same _ _ t (strained-inner G b m k)) ∙ r.1)

  clears : (G : Scope) (b m : ℕ) (ts : Terms) → Shallow G b → ((n : ℕ) (H : Scope) (c : ℕ) (s : Term) → Ats G b m ts n H c s → shut_role (role_of H c n s) ≡ false) → Clears (patterns G) ts × (weighs (strained G b) ts ≡ 0)
  clears G b m none d h = (tt, refl)
  clears G b m (part t ts) d h =
      let r = clear G b m t d (λ n H c s a. h n H c s (in_part a)) in
      let q = clears G b (m + size t) ts d (λ n H c s a. h n H c s (in_rest a)) in
      ((r.0, q.0), omega (arith, r.1, q.1))

mutual
  at_clear : {G : Scope} {b m : ℕ} {t : Term} {n : ℕ} {H : Scope} {c : ℕ} {s : Term} → At G b m t n H c s → Shallow G b → Clear (patterns G) t → weigh (strained G b) t ≡ 0 → weigh (strained H c) s ≡ 0
  at_clear here d h w = w
  at_clear (in_new a) d h w = at_clear a d h w
  at_clear (in_bang {G = G} {b = b} {t = t} a) d h w = at_clear a (shallow_more G b d) h.0 (weigh_same _ _ t (strained-linear G b d) ∙ h.1)
  at_clear (in_fun a) d h w = at_clear a d h.0 (omega arith)
  at_clear (in_arg a) d h w = at_clear a d h.1 (omega arith)
  at_clear (in_tuple a) d h w = ats_clear a d h w
  at_clear (in_abs {G = G} {b = b} {m = m} {k = k} {t = t} a) d h w = at_clear a (le_refl _, d) h (weigh_same _ _ t (strained-inner G b m k) ∙ w)

  ats_clear : {G : Scope} {b m : ℕ} {ts : Terms} {n : ℕ} {H : Scope} {c : ℕ} {s : Term} → Ats G b m ts n H c s → Shallow G b → Clears (patterns G) ts → weighs (strained G b) ts ≡ 0 → weigh (strained H c) s ≡ 0
  ats_clear (in_part a) d h w = at_clear a d h.0 (omega arith)
  ats_clear (in_rest a) d h w = ats_clear a d h.1 (omega arith)

pub no_shut : (t : Term) → Nowhere (Shut t) → Clear [] t
no_shut t h = (clear [] 0 0 t tt (λ n H c s a. false_from_ne_true _ (λ e. h n (shut_of t n H c s a e)))).0

top : (i : Item) → strained [] 0 i ≡ 0
top (slot u p) = refl
top (lead k) = refl

-- A node that breaks the rule weighs.
pub clear_none : (t : Term) → Clear [] t → Nowhere (Shut t)
clear_none t k n (shut_variable {H = H} {c = c} {u = u} {p = p} a h d) =
    let w = at_clear a tt k (weigh_same _ _ t top ∙ weigh-zero t) in
    omega (arith, w, ap one (shut_resolve H c u p h d))
clear_none t k n (shut_wire {c = c} a h) =
    let w = at_clear a tt k (weigh_same _ _ t top ∙ weigh-zero t) in
    omega (arith, w, ap one (lt-ltb 0 c h))
