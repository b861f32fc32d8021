-- No rule is broken just if the term is accepted.
use Rattle.std.proofs.Common.{◌≡◌, ℕ, zero, suc, ◌+◌, ◌<◌, true, false, ltb, ◌↔◌, List, [], ◌∷◌, ◌++◌, length, get_or, count_by, sym, refl, ap, ◌∙◌, inl, inr, arith, eq-eqb, eqb-true}
use Rattle.std.proofs.lemmas.Bool.{cases_lt, cases_order}
use Rattle.terms.specs.Term.{Term, var, wire, bit, gate, new, bang, app, tuple, abs, Terms, none, part, size}
use Rattle.theory.specs.Acceptance.{lead, same, weighs, one, uses, Apart, Accepted}
use Rattle.theory.proofs.Weigh.{weigh_same, equal_eqb}
use Rattle.theory.proofs.Tested.{inner-lead, accepted_is_proper}
use Rattle.checker.specs.declared.role.Role.TheVariants.{Other, Lead, Opening}
use Rattle.checker.specs.Faults.{Scope, frame, NodeAt, Unbound, Misused, Shut, Repeated, repeated, Nowhere}
use Rattle.checker.specs.Sites.{resolve, role_of, sites, sitess}
use Rattle.checker.specs.Roles.{is_lead}
use Rattle.checker.proofs.Tallies.{count-cons, count-append, count_two, two_at}
use Rattle.checker.proofs.Walks.{length-sites}
use Rattle.checker.proofs.Showing.{site_is, within-size, located}
use Rattle.checker.proofs.Faultless.{no_unbound, bounded_none, no_misuse, once_none, no_shut, clear_none}

-- Each node has a line of its own.
abbrev pub Distinct : List ℕ → Type 0
Distinct lines = (m n : ℕ) → m < length lines → n < length lines → get_or lines m 0 ≡ get_or lines n 0 → m ≡ n

-- Wires.
resolve-lead : (k : ℕ) (G : Scope) (c u p : ℕ) → is_lead k (resolve G c u p) ≡ false
resolve-lead k [] c u p = refl
resolve-lead k (f ∷ G) c zero p = refl
resolve-lead k (f ∷ G) c (suc u) p = resolve-lead k G c u p

mutual
  count-wires : (k : ℕ) (G : Scope) (b m : ℕ) (t : Term) → count_by (is_lead k) (sites G b m t) ≡ uses (lead k) t
  count-wires k G b m (var u p) = omega (arith, count-cons (is_lead k) (resolve G b u p) [], ap one (resolve-lead k G b u p))
  count-wires k G b m (wire w) = omega (arith, count-cons (is_lead k) (Lead w (ltb 0 b)) [], ap one (equal_eqb k w))
  count-wires k G b m (bit c) = refl
  count-wires k G b m (gate g) = refl
  count-wires k G b m (new t) = count-cons (is_lead k) Other (sites G b (m + 1) t) ∙ omega (arith, count-wires k G b (m + 1) t)
  count-wires k G b m (bang t) = count-cons (is_lead k) Other (sites G (b + 1) (m + 1) t) ∙ omega (arith, count-wires k G (b + 1) (m + 1) t)
  count-wires k G b m (app f a) =
      let xs = sites G b (m + 1) f in
      let ys = sites G b (m + 1 + size f) a in
      count-cons (is_lead k) Other (xs ++ ys) ∙ omega (arith, count-append (is_lead k) xs ys, count-wires k G b (m + 1) f, count-wires k G b (m + 1 + size f) a)
  count-wires k G b m (tuple ts) = count-cons (is_lead k) Other (sitess G b (m + 1) ts) ∙ omega (arith, count_wiress k G b (m + 1) ts)
  count-wires k G b m (abs n t) = count-cons (is_lead k) (Opening m n) (sites (frame m n b ∷ G) b (m + 1) t) ∙ omega (arith, count-wires k (frame m n b ∷ G) b (m + 1) t, weigh_same _ _ t (inner-lead k))

  count_wiress : (k : ℕ) (G : Scope) (b m : ℕ) (ts : Terms) → count_by (is_lead k) (sitess G b m ts) ≡ weighs (λ j. one (same (lead k) j)) ts
  count_wiress k G b m none = refl
  count_wiress k G b m (part t ts) = omega (arith, count-append (is_lead k) (sites G b m t) (sitess G b (m + size t) ts), count-wires k G b m t, count_wiress k G b (m + size t) ts)

-- The wire k stands at the node n.
pub record Wired (t : Term) (n k : ℕ) : Type 0 where
  pub scope : Scope
  pub bangs : ℕ
  pub place : NodeAt t n scope bangs (wire k)

wired_of : (t : Term) (n k : ℕ) (H : Scope) (c : ℕ) (s : Term) → NodeAt t n H c s → is_lead k (role_of H c n s) ≡ true → Wired t n k
wired_of t n k H c (var u p) a h = absurd (cc (resolve-lead k H c u p, h))
wired_of t n k H c (wire w) a h = let e : k ≡ w = eqb-true k w h in rw e (record { scope = H; bangs = c; place = a })
wired_of t n k H c (bit x) a h = absurd (cc h)
wired_of t n k H c (gate g) a h = absurd (cc h)
wired_of t n k H c (new s) a h = absurd (cc h)
wired_of t n k H c (bang s) a h = absurd (cc h)
wired_of t n k H c (app f x) a h = absurd (cc h)
wired_of t n k H c (tuple ts) a h = absurd (cc h)
wired_of t n k H c (abs j s) a h = absurd (cc h)

pub wired : (t : Term) (n k : ℕ) → n < size t → is_lead k (get_or (sites [] 0 0 t) n Other) ≡ true → Wired t n k
wired t n k lo h =
    let r = located t n lo in
    wired_of t n k r.scope r.bangs r.term r.place (sym (ap (is_lead k) (site_is t n r.scope r.bangs r.term r.place)) ∙ h)

-- The wire k stands on an earlier line too.
pub wired_twice : (t : Term) (lines : List ℕ) (n m k : ℕ) → Wired t n k → Wired t m k → get_or lines m 0 < get_or lines n 0 → Repeated t lines n
wired_twice t lines n m k p q l = repeated {H = p.scope} {K = q.scope} {c = p.bangs} {d = q.bangs} p.place q.place l

pub wire_site : (t : Term) (n k : ℕ) (H : Scope) (c : ℕ) → NodeAt t n H c (wire k) → is_lead k (get_or (sites [] 0 0 t) n Other) ≡ true
wire_site t n k H c a = ap (is_lead k) (site_is t n H c (wire k) a) ∙ eq-eqb k k refl

no_repeat : (t : Term) (lines : List ℕ) → Distinct lines → length lines ≡ size t → Nowhere (Repeated t lines) → Apart t
no_repeat t lines d e h k = elim (cases_lt 1 (uses (lead k) t)) [
  | inl g ↦ let r = two_at (is_lead k) (sites [] 0 0 t) Other (omega (arith, count-wires k [] 0 0 t)) in
      let hi : r.other < size t = omega (arith, r.low, length-sites [] 0 0 t) in
      let lo : r.spot < size t = omega (arith, r.order) in
      let p = wired t r.spot k lo r.passes in
      let q = wired t r.other k hi r.other_passes in
      absurd (elim (cases_order (get_or lines r.spot 0) (get_or lines r.other 0)) [
        | inl z ↦ omega (arith, r.order, d r.spot r.other (omega arith) (omega arith) z)
        | inr (inl z) ↦ h r.other (wired_twice t lines r.other r.spot k q p z)
        | inr (inr z) ↦ h r.spot (wired_twice t lines r.spot r.other k p q z)
      ])
  | inr g ↦ g
]

apart_none : (t : Term) (lines : List ℕ) → Apart t → Nowhere (Repeated t lines)
apart_none t lines a n (repeated {H = H} {K = K} {c = c} {d = d} {m = m} {w = w} x y l) =
    let i = wire_site t n w H c x in
    let j = wire_site t m w K d y in
    let hn = within-size t n H c (wire w) x in
    let hm = within-size t m K d (wire w) y in
    elim (cases_order m n) [
      | inl e ↦ omega (arith, ap (λ z. get_or lines z 0) e)
      | inr (inl z) ↦ omega (arith, a w, count-wires w [] 0 0 t, count_two (is_lead w) (sites [] 0 0 t) m n Other z (omega (arith, length-sites [] 0 0 t)) j i)
      | inr (inr z) ↦ omega (arith, a w, count-wires w [] 0 0 t, count_two (is_lead w) (sites [] 0 0 t) n m Other z (omega (arith, length-sites [] 0 0 t)) i j)
    ]

-- No rule is broken.
abbrev pub Faultless : Term → List ℕ → Type 0
Faultless t lines = Nowhere (Unbound t) × Nowhere (Misused t) × Nowhere (Shut t) × Nowhere (Repeated t lines)

-- That is so just if the term is accepted.
pub faultless_is_accepted : (t : Term) (lines : List ℕ) → Distinct lines → length lines ≡ size t → Faultless t lines ↔ Accepted t
faultless_is_accepted t lines d l =
    let r = accepted_is_proper t in (
      (λ f. r.1 (record { bounded = no_unbound t f.0; once = no_misuse t f.1; clear = no_shut t f.2; apart = no_repeat t lines d l f.3 })),
      (λ a. let p = r.0 a in (bounded_none t p.bounded, once_none t p.once, clear_none t p.clear, apart_none t lines p.apart)),
    )
