-- The uses of the variables of each binder.
use Rattle.std.proofs.Common.{◌≡◌, ℕ, ◌+◌, ◌<◌, ◌≤◌, Bool, true, false, not, ◌&&◌, eqb, List, [], length, get_or, take, replicate, set, count_by, sym, refl, ap, ◌∙◌, subst, inl, inr, arith, eq-eqb, ne_eqb, length-set, below_more}
use Rattle.std.proofs.lemmas.List.{get_or-set_same, get_or-set_other, get_or-replicate, length-take-le, get_or-take, get_or_default}
use Rattle.std.proofs.lemmas.List.Folds.{Any-from_list_any, list_any_at}
use Rattle.std.proofs.lemmas.List.Sums.{count_by-le-length, count_by_more_yes, count_by_more_no}
use Rattle.std.proofs.lemmas.Bool.{cases_eq}
use Rattle.checker.specs.declared.role.Role.{Role}
use Rattle.checker.specs.declared.role.Role.TheVariants.{Other, Free, Use, Lead, Opening}
use Rattle.checker.specs.declared.site.Site.{Site}
use Rattle.checker.specs.Roles.{Ranged, is_use}
use Rattle.checker.specs.Found.{roles, site_lines, Found, least_line}
use Rattle.checker.specs.Counts.{MisuseSite, Names, Uses, Counts, Counted, cleared, count_of, counted_in, Countable, misused_role}
use Rattle.checker.proofs.Finding.{Passes, least_found, found_same}
use Rattle.checker.proofs.Sited.{ranged_at, as_many}

-- Clearing: one site more.
blank : (m : ℕ) → Uses [] m (replicate 8 0)
blank m = record { long = refl; each = λ p h. get_or-replicate 8 p 0 0 h }

module _ (xs : List Role) (C : List (List ℕ)) (k : ℕ) (c : Counts [] xs C k) where
  unnamed : ((m : ℕ) → Names m (get_or xs k Other) → ⊥) → Counts [] xs C (k + 1)
  unnamed h n m lo s = below_more (λ n. Names m (get_or xs n Other) → Uses [] m (get_or C m [])) k (λ n lo s. c n m lo s) (λ s. absurd (h m s)) n lo s

  named : (j : ℕ) → j < length C → ((m : ℕ) → Names m (get_or xs k Other) → m ≡ j) → Counts [] xs (set C j (replicate 8 0)) (k + 1)
  named j r h n m lo s = elim (cases_eq m j) [
    | inl e ↦ rw (e, get_or-set_same C j (replicate 8 0) [] r) (blank j)
    | inr d ↦ rw (get_or-set_other C j m (replicate 8 0) [] d) (below_more (λ n. Names m (get_or xs n Other) → Uses [] m (get_or C m [])) k (λ n lo s. c n m lo s) (λ s. absurd (d (h m s))) n lo s)
  ]

  pub cleared_more : (x : Role) → get_or xs k Other ≡ x → 4096 ≤ length C → Ranged x → Counts [] xs (cleared x C) (k + 1)
  cleared_more Other e l g = unnamed (λ m s. subst (Names m) e s)
  cleared_more Free e l g = unnamed (λ m s. subst (Names m) e s)
  cleared_more (Use j i q y) e l g = named j (omega (arith, g.0)) (λ m s. subst (Names m) e s)
  cleared_more (Lead w y) e l g = unnamed (λ m s. subst (Names m) e s)
  cleared_more (Opening j i) e l g = named j (omega (arith, g.0)) (λ m s. subst (Names m) e s)

-- Counting: one site more.
use_same : (m p : ℕ) → (eqb m m && eqb p p) ≡ true
use_same m p = rw (eq-eqb m m refl, eq-eqb p p refl) refl

use_other : (m p n q : ℕ) → (m ≡ n → p ≡ q → ⊥) → (eqb m n && eqb p q) ≡ false
use_other m p n q h = elim (cases_eq m n) [
  | inl e ↦ rw (eq-eqb m n e, ne_eqb p q (h e)) refl
  | inr d ↦ rw (ne_eqb m n d) refl
]

module _ (xs : List Role) (C : List (List ℕ)) (k : ℕ) (h : k < length xs) (c : Counts (take k xs) xs C (length xs)) where
  uncounted : ((m p : ℕ) → is_use m p (get_or xs k Other) ≡ false) → Counts (take (k + 1) xs) xs C (length xs)
  uncounted z n m lo s =
      let u = c n m lo s in
      record { long = u.long; each = λ p r. u.each p r ∙ sym (count_by_more_no (is_use m p) xs k Other h (z m p)) }

  module _ (j i q : ℕ) (y : Bool) (e : get_or xs k Other ≡ Use j i q y) where
    counts_same : count_by (is_use j q) (take (k + 1) xs) ≡ count_by (is_use j q) (take k xs) + 1
    counts_same = count_by_more_yes (is_use j q) xs k Other h (ap (is_use j q) e ∙ use_same j q)

    counts_other : (m p : ℕ) → (m ≡ j → p ≡ q → ⊥) → count_by (is_use m p) (take (k + 1) xs) ≡ count_by (is_use m p) (take k xs)
    counts_other m p d = count_by_more_no (is_use m p) xs k Other h (ap (is_use m p) e ∙ use_other m p j q d)

    own : q < 8 → Uses (take k xs) j (get_or C j []) → Uses (take (k + 1) xs) j (set (get_or C j []) q (count_of C j q + 1))
    own low u = record {
      long = length-set (get_or C j []) q (count_of C j q + 1) ∙ u.long;
      each = λ p r. elim (cases_eq p q) [
        | inl f ↦ rw (f, get_or-set_same (get_or C j []) q (count_of C j q + 1) 0 (omega (arith, u.long))) (omega (arith, u.each q low, counts_same))
        | inr f ↦ rw (get_or-set_other (get_or C j []) q p (count_of C j q + 1) 0 f) (u.each p r ∙ sym (counts_other j p (λ a b. f b)))
      ];
    }

    counted : q < 8 → j < length C → Counts (take (k + 1) xs) xs (counted_in (Use j i q y) C) (length xs)
    counted low room n m lo s = elim (cases_eq m j) [
      | inl z ↦ rw (z, get_or-set_same C j (set (get_or C j []) q (count_of C j q + 1)) [] room) (own low (subst (λ (i : ℕ). Uses (take k xs) i (get_or C i [])) z (c n m lo s)))
      | inr d ↦ rw (get_or-set_other C j m (set (get_or C j []) q (count_of C j q + 1)) [] d) (let u = c n m lo s in record {
        long = u.long;
        each = λ p r. u.each p r ∙ sym (counts_other m p (λ a b. d a));
      })
    ]

  pub counted_more : (x : Role) → get_or xs k Other ≡ x → 4096 ≤ length C → Ranged x → Counts (take (k + 1) xs) xs (counted_in x C) (length xs)
  counted_more Other e l g = uncounted (λ m p. ap (is_use m p) e)
  counted_more Free e l g = uncounted (λ m p. ap (is_use m p) e)
  counted_more (Use j i q y) e l g = counted j i q y e g.1 (omega (arith, g.0))
  counted_more (Lead w y) e l g = uncounted (λ m p. ap (is_use m p) e)
  counted_more (Opening j i) e l g = uncounted (λ m p. ap (is_use m p) e)

  pub countable : (x : Role) → get_or xs k Other ≡ x → length xs ≤ 4096 → Ranged x → Countable C x
  countable Other e s g = tt
  countable Free e s g = tt
  countable (Use j i q y) e s g =
      let z : Names j (get_or xs k Other) = rw e refl in
      omega (arith, (c k j h z).each q g.1, count_by-le-length (is_use j q) (take k xs), length-take-le k xs (omega arith))
  countable (Lead w y) e s g = tt
  countable (Opening j i) e s g = tt

-- What the counts tell of a binder.
not_one : (n : ℕ) → not (eqb n 1) ≡ true → n ≡ 1 → ⊥
not_one n h e = absurd (cc (ap not (eq-eqb n 1 e), h))

one_not : (n : ℕ) → (n ≡ 1 → ⊥) → not (eqb n 1) ≡ true
one_not n h = rw (ne_eqb n 1 h) refl

module _ (xs : List Role) (C : List (List ℕ)) (n : ℕ) (lo : n < length xs) (c : Counted xs C) where
  pub misused_told : (x : Role) → get_or xs n Other ≡ x → Ranged x → misused_role C x ≡ true → MisuseSite xs n
  misused_told Other e g t = absurd (cc t)
  misused_told Free e g t = absurd (cc t)
  misused_told (Use j i q y) e g t = absurd (cc t)
  misused_told (Lead w y) e g t = absurd (cc t)
  misused_told (Opening j i) e g t =
      let a = Any-from_list_any (λ u. not (eqb u 1)) (take i (get_or C j [])) t in
      let z : Names j (get_or xs n Other) = rw e refl in
      let u = c n j lo z in
      let low : a.0 < i = omega (arith, a.2, length-take-le i (get_or C j []) (omega (arith, u.long, g.1))) in
      record { binder = j; pattern = i; place = a.0; low = low; here = e; off = λ o. not_one a.1 a.4 (sym a.3 ∙ get_or-take i (get_or C j []) a.0 a.1 low ∙ get_or_default (get_or C j []) a.0 a.1 0 (omega (arith, u.long, g.1)) ∙ u.each a.0 (omega (arith, g.1)) ∙ o) }

  pub misused_shown : (x : Role) → get_or xs n Other ≡ x → Ranged x → MisuseSite xs n → misused_role C x ≡ true
  misused_shown Other e g m = absurd (cc (m.here, e))
  misused_shown Free e g m = absurd (cc (m.here, e))
  misused_shown (Use j i q y) e g m = absurd (cc (m.here, e))
  misused_shown (Lead w y) e g m = absurd (cc (m.here, e))
  misused_shown (Opening j i) e g m =
      let b : j ≡ m.binder = cc (m.here, e) in
      let k : i ≡ m.pattern = cc (m.here, e) in
      let z : Names j (get_or xs n Other) = rw e refl in
      let u = c n j lo z in
      let low : m.place < i = omega (arith, m.low) in
      list_any_at (λ u. not (eqb u 1)) (take i (get_or C j [])) m.place 0 (omega (arith, length-take-le i (get_or C j []) (omega (arith, u.long, g.1)))) (rw (get_or-take i (get_or C j []) m.place 0 low) (one_not _ (λ o. m.off (rw (← b) (sym (u.each m.place (omega (arith, low, g.1))) ∙ o)))))

pub misused_found : (xs : List Site) (C : List (List ℕ)) → Counted (roles xs) C → Found (MisuseSite (roles xs)) (site_lines xs) (least_line (λ x. misused_role C x.role) xs)
misused_found xs C c =
    found_same (Passes (λ r _. misused_role C r) xs) _ (site_lines xs) _
    (λ n lo p. misused_told (roles xs) C n (omega (arith, as_many xs)) c (get_or (roles xs) n Other) refl (ranged_at xs n) p)
    (λ n lo p. misused_shown (roles xs) C n (omega (arith, as_many xs)) c (get_or (roles xs) n Other) refl (ranged_at xs n) p)
    (least_found (λ r _. misused_role C r) xs)
