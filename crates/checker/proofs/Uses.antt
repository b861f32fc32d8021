-- The uses of a binder's variables, counted over the sites.
use Rattle.std.proofs.Common.{◌≡◌, ℕ, zero, suc, ◌+◌, ◌<◌, ◌≤◌, Bool, false, ◌&&◌, eqb, ◌⊎◌, [], ◌∷◌, ◌++◌, count_by, sym, refl, ap, ◌∙◌, inl, inr, arith, eq-eqb, ne_eqb}
use Rattle.terms.specs.Term.{Term, var, wire, bit, gate, new, bang, app, tuple, abs, Terms, none, part, size, sizes}
use Rattle.theory.specs.Acceptance.{Item, slot, lead, same, inner, weigh, weighs, one, uses}
use Rattle.theory.proofs.Weigh.{weigh_same, weigh-zero, equal_eqb}
use Rattle.checker.specs.declared.role.Role.TheVariants.{Other, Opening}
use Rattle.checker.specs.Faults.{Scope, frame, At, Ats, here, in_new, in_bang, in_fun, in_arg, in_tuple, in_abs, in_part, in_rest, NodeAt, Misused, misused}
use Rattle.checker.specs.Sites.{resolve, role_of, sites, sitess}
use Rattle.checker.specs.Roles.{is_use}
use Rattle.checker.specs.Counts.{MisuseSite}
use Rattle.checker.proofs.Located.{at_range, ats_range}
use Rattle.checker.proofs.Showing.{site_is, within-size, located}
use Rattle.checker.proofs.Tallies.{count-cons, count-append}
use Rattle.checker.proofs.Finding.{Shown}

-- Whether the variable (u, q) is the variable p of the binder j.
abbrev refers : Scope → ℕ → ℕ → ℕ → ℕ → Bool
refers [] j p u q = false
refers (f ∷ G) j p zero q = eqb j f.number && eqb p q
refers (f ∷ G) j p (suc u) q = refers G j p u q

abbrev referred : Scope → ℕ → ℕ → Item → ℕ
referred G j p (slot u q) = one (refers G j p u q)
referred G j p (lead k) = 0

resolve_use : (G : Scope) (j p c u q : ℕ) → is_use j p (resolve G c u q) ≡ refers G j p u q
resolve_use [] j p c u q = refl
resolve_use (f ∷ G) j p c zero q = refl
resolve_use (f ∷ G) j p c (suc u) q = resolve_use G j p c u q

abbrev Outside : ℕ → ℕ → ℕ → Type 0
Outside j m n = (j < m) ⊎ (m + n ≤ j)

and_left : (x y : Bool) → x ≡ false → (x && y) ≡ false
and_left x y e = rw e refl

own_inner : (G : Scope) (j p m k b : ℕ) → (j ≡ m → ⊥) → (i : Item) → referred (frame m k b ∷ G) j p i ≡ inner (referred G j p) i
own_inner G j p m k b h (slot zero q) = ap one (and_left (eqb j m) (eqb p q) (ne_eqb j m h))
own_inner G j p m k b h (slot (suc u) q) = refl
own_inner G j p m k b h (lead w) = refl

shrink : (j m n : ℕ) → Outside j m (1 + n) → Outside j (m + 1) n
shrink j m n (inl x) = inl (omega arith)
shrink j m n (inr x) = inr (omega arith)

-- The binder j lies outside the term.
mutual
  count_outside : (G : Scope) (b m : ℕ) (t : Term) (j p : ℕ) → Outside j m (size t) → count_by (is_use j p) (sites G b m t) ≡ weigh (referred G j p) t
  count_outside G b m (var u q) j p h = omega (arith, count-cons (is_use j p) (resolve G b u q) [], ap one (resolve_use G j p b u q))
  count_outside G b m (wire w) j p h = refl
  count_outside G b m (bit c) j p h = refl
  count_outside G b m (gate g) j p h = refl
  count_outside G b m (new t) j p h = count-cons (is_use j p) Other (sites G b (m + 1) t) ∙ omega (arith, count_outside G b (m + 1) t j p (shrink j m (size t) h))
  count_outside G b m (bang t) j p h = count-cons (is_use j p) Other (sites G (b + 1) (m + 1) t) ∙ omega (arith, count_outside G (b + 1) (m + 1) t j p (shrink j m (size t) h))
  count_outside G b m (app f a) j p h =
      let o : Outside j (m + 1) (size f) = elim h [ inl x ↦ inl (omega arith) | inr x ↦ inr (omega arith) ] in
      let r : Outside j (m + 1 + size f) (size a) = elim h [ inl x ↦ inl (omega arith) | inr x ↦ inr (omega arith) ] in
      let xs = sites G b (m + 1) f in
      let ys = sites G b (m + 1 + size f) a in
      count-cons (is_use j p) Other (xs ++ ys) ∙ omega (arith, count-append (is_use j p) xs ys, count_outside G b (m + 1) f j p o, count_outside G b (m + 1 + size f) a j p r)
  count_outside G b m (tuple ts) j p h = count-cons (is_use j p) Other (sitess G b (m + 1) ts) ∙ omega (arith, count_outsides G b (m + 1) ts j p (shrink j m (sizes ts) h))
  count_outside G b m (abs k t) j p h =
      let d : j ≡ m → ⊥ = λ e. elim h [ inl x ↦ omega arith | inr x ↦ omega arith ] in
      count-cons (is_use j p) (Opening m k) (sites (frame m k b ∷ G) b (m + 1) t) ∙ omega (arith, count_outside (frame m k b ∷ G) b (m + 1) t j p (shrink j m (size t) h), weigh_same _ _ t (own_inner G j p m k b d))

  count_outsides : (G : Scope) (b m : ℕ) (ts : Terms) (j p : ℕ) → Outside j m (sizes ts) → count_by (is_use j p) (sitess G b m ts) ≡ weighs (referred G j p) ts
  count_outsides G b m none j p h = refl
  count_outsides G b m (part t ts) j p h =
      let o : Outside j m (size t) = elim h [ inl x ↦ inl x | inr x ↦ inr (omega arith) ] in
      let r : Outside j (m + size t) (sizes ts) = elim h [ inl x ↦ inl (omega arith) | inr x ↦ inr (omega arith) ] in
      omega (arith, count-append (is_use j p) (sites G b m t) (sitess G b (m + size t) ts), count_outside G b m t j p o, count_outsides G b (m + size t) ts j p r)

-- The binders of a scope have numbers below m.
abbrev pub Lower : Scope → ℕ → Type 0
Lower [] m = Unit {0}
Lower (f ∷ G) m = (f.number < m) × Lower G m

pub lower_more : (G : Scope) (m n : ℕ) → m ≤ n → Lower G m → Lower G n
lower_more [] m n h l = tt
lower_more (f ∷ G) m n h l = (omega (arith, l.0), lower_more G m n h l.1)

refers_none : (G : Scope) (j p u q : ℕ) → Lower G j → refers G j p u q ≡ false
refers_none [] j p u q l = refl
refers_none (f ∷ G) j p zero q l = and_left (eqb j f.number) (eqb p q) (ne_eqb j f.number (λ e. omega (arith, l.0)))
refers_none (f ∷ G) j p (suc u) q l = refers_none G j p u q l.1

referred_none : (G : Scope) (j p : ℕ) → Lower G j → (i : Item) → referred G j p i ≡ 0
referred_none G j p l (slot u q) = ap one (refers_none G j p u q l)
referred_none G j p l (lead k) = refl

none_outside : (G : Scope) (b m : ℕ) (t : Term) (j p : ℕ) → Outside j m (size t) → Lower G j → count_by (is_use j p) (sites G b m t) ≡ 0
none_outside G b m t j p o l = count_outside G b m t j p o ∙ weigh_same _ _ t (referred_none G j p l) ∙ weigh-zero t

none_outsides : (G : Scope) (b m : ℕ) (ts : Terms) (j p : ℕ) → Outside j m (sizes ts) → Lower G j → count_by (is_use j p) (sitess G b m ts) ≡ 0
none_outsides G b m none j p o l = refl
none_outsides G b m (part t ts) j p h l =
    let o : Outside j m (size t) = elim h [ inl x ↦ inl x | inr x ↦ inr (omega arith) ] in
    let r : Outside j (m + size t) (sizes ts) = elim h [ inl x ↦ inl (omega arith) | inr x ↦ inr (omega arith) ] in
    omega (arith, count-append (is_use j p) (sites G b m t) (sitess G b (m + size t) ts), none_outside G b m t j p o l, none_outsides G b (m + size t) ts j p r l)

own_item : (G : Scope) (m k b p : ℕ) → Lower G m → (i : Item) → referred (frame m k b ∷ G) m p i ≡ one (same (slot 0 p) i)
own_item G m k b p l (slot zero q) = rw (eq-eqb m m refl) (ap one (sym (equal_eqb p q)))
own_item G m k b p l (slot (suc u) q) = ap one (refers_none G m p u q l)
own_item G m k b p l (lead w) = refl

own_here : (G : Scope) (b m k : ℕ) (s : Term) (p : ℕ) → Lower G m → count_by (is_use m p) (sites G b m (abs k s)) ≡ uses (slot 0 p) s
own_here G b m k s p l =
    let o : Outside m (m + 1) (size s) = inl (omega arith) in
    count-cons (is_use m p) (Opening m k) (sites (frame m k b ∷ G) b (m + 1) s) ∙ omega (arith, count_outside (frame m k b ∷ G) b (m + 1) s m p o, weigh_same _ _ s (own_item G m k b p l))

mutual
  count_own : {G : Scope} {b m : ℕ} {t : Term} {n : ℕ} {H : Scope} {c : ℕ} {r : Term} (k : ℕ) (s : Term) (p : ℕ) → At G b m t n H c r → r ≡ abs k s → Lower G m → count_by (is_use n p) (sites G b m t) ≡ uses (slot 0 p) s
  count_own k s p (here {G = G} {b = b} {m = m} {t = t}) e l = rw e (own_here G b m k s p l)
  count_own k s p (in_new {G = G} {b = b} {m = m} {t = t} {n = n} a) e l = count-cons (is_use n p) Other (sites G b (m + 1) t) ∙ omega (arith, count_own k s p a e (lower_more G m (m + 1) (omega arith) l))
  count_own k s p (in_bang {G = G} {b = b} {m = m} {t = t} {n = n} a) e l = count-cons (is_use n p) Other (sites G (b + 1) (m + 1) t) ∙ omega (arith, count_own k s p a e (lower_more G m (m + 1) (omega arith) l))
  count_own k s p (in_fun {G = G} {b = b} {m = m} {f = f} {a = x} {n = n} a) e l =
      let r = at_range a in
      let o : Outside n (m + 1 + size f) (size x) = inl r.1 in
      count-cons (is_use n p) Other (sites G b (m + 1) f ++ sites G b (m + 1 + size f) x) ∙ omega (arith, count-append (is_use n p) (sites G b (m + 1) f) (sites G b (m + 1 + size f) x), count_own k s p a e (lower_more G m (m + 1) (omega arith) l), none_outside G b (m + 1 + size f) x n p o (lower_more G m n (omega arith) l))
  count_own k s p (in_arg {G = G} {b = b} {m = m} {f = f} {a = x} {n = n} a) e l =
      let r = at_range a in
      let o : Outside n (m + 1) (size f) = inr r.0 in
      count-cons (is_use n p) Other (sites G b (m + 1) f ++ sites G b (m + 1 + size f) x) ∙ omega (arith, count-append (is_use n p) (sites G b (m + 1) f) (sites G b (m + 1 + size f) x), count_own k s p a e (lower_more G m (m + 1 + size f) (omega arith) l), none_outside G b (m + 1) f n p o (lower_more G m n (omega arith) l))
  count_own k s p (in_tuple {G = G} {b = b} {m = m} {ts = ts} {n = n} a) e l = count-cons (is_use n p) Other (sitess G b (m + 1) ts) ∙ omega (arith, count_owns k s p a e (lower_more G m (m + 1) (omega arith) l))
  count_own k s p (in_abs {G = G} {b = b} {m = m} {k = j} {t = t} {n = n} a) e l = count-cons (is_use n p) (Opening m j) (sites (frame m j b ∷ G) b (m + 1) t) ∙ omega (arith, count_own k s p a e (omega arith, lower_more G m (m + 1) (omega arith) l))

  count_owns : {G : Scope} {b m : ℕ} {ts : Terms} {n : ℕ} {H : Scope} {c : ℕ} {r : Term} (k : ℕ) (s : Term) (p : ℕ) → Ats G b m ts n H c r → r ≡ abs k s → Lower G m → count_by (is_use n p) (sitess G b m ts) ≡ uses (slot 0 p) s
  count_owns k s p (in_part {G = G} {b = b} {m = m} {t = t} {ts = ts} {n = n} a) e l =
      let r = at_range a in
      let o : Outside n (m + size t) (sizes ts) = inl r.1 in
      omega (arith, count-append (is_use n p) (sites G b m t) (sitess G b (m + size t) ts), count_own k s p a e l, none_outsides G b (m + size t) ts n p o (lower_more G m n r.0 l))
  count_owns k s p (in_rest {G = G} {b = b} {m = m} {t = t} {ts = ts} {n = n} a) e l =
      let r = ats_range a in
      let o : Outside n m (size t) = inr r.0 in
      omega (arith, count-append (is_use n p) (sites G b m t) (sitess G b (m + size t) ts), count_owns k s p a e (lower_more G m (m + size t) (omega arith) l), none_outside G b m t n p o (lower_more G m n (omega arith) l))

uses-count : (t : Term) (n : ℕ) (H : Scope) (c k : ℕ) (s : Term) (p : ℕ) → NodeAt t n H c (abs k s) → count_by (is_use n p) (sites [] 0 0 t) ≡ uses (slot 0 p) s
uses-count t n H c k s p a = count_own k s p a refl tt

-- Variables that are not used once.
misuse_low : (t : Term) (n : ℕ) → Misused t n → n < size t
misuse_low t n (misused a l h) = within-size t n _ _ _ a

misuse_to : (t : Term) (n : ℕ) → Misused t n → MisuseSite (sites [] 0 0 t) n
misuse_to t n (misused {H = H} {c = c} {k = k} {p = p} {s = s} a l h) =
    record { binder = n; pattern = k; place = p; low = l; here = site_is t n H c (abs k s) a; off = λ e. h (sym (uses-count t n H c k s p a) ∙ e) }

resolve_open : (H : Scope) (c u p m k : ℕ) → resolve H c u p ≡ Opening m k → ⊥
resolve_open [] c u p m k e = cc
resolve_open (f ∷ H) c zero p m k e = cc
resolve_open (f ∷ H) c (suc u) p m k e = resolve_open H c u p m k e

misuse_of : (t : Term) (n : ℕ) (H : Scope) (c : ℕ) (r : Term) → NodeAt t n H c r → (m k p : ℕ) → p < k → role_of H c n r ≡ Opening m k → (count_by (is_use m p) (sites [] 0 0 t) ≡ 1 → ⊥) → Misused t n
misuse_of t n H c (var u q) a m k p l e h = absurd (resolve_open H c u q m k e)
misuse_of t n H c (wire w) a m k p l e h = absurd cc
misuse_of t n H c (bit x) a m k p l e h = absurd cc
misuse_of t n H c (gate g) a m k p l e h = absurd cc
misuse_of t n H c (new s) a m k p l e h = absurd cc
misuse_of t n H c (bang s) a m k p l e h = absurd cc
misuse_of t n H c (app f x) a m k p l e h = absurd cc
misuse_of t n H c (tuple ts) a m k p l e h = absurd cc
misuse_of t n H c (abs j s) a m k p l e h =
    let z : j ≡ k = cc in
    let y : n ≡ m = cc in
    misused {p = p} a (omega arith) (λ q. h (rw (← y) (uses-count t n H c j s p a ∙ q)))

misuse_from : (t : Term) (n : ℕ) → n < size t → MisuseSite (sites [] 0 0 t) n → Misused t n
misuse_from t n lo m =
    let r = located t n lo in
    misuse_of t n r.scope r.bangs r.term r.place m.binder m.pattern m.place m.low (sym (site_is t n r.scope r.bangs r.term r.place) ∙ m.here) m.off

pub misuse_shown : (t : Term) → Shown (Misused t) (MisuseSite (sites [] 0 0 t)) (size t)
misuse_shown t = record { low = misuse_low t; to = misuse_to t; from = misuse_from t }
