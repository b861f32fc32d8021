-- Each node of a term stands somewhere, and its site says where.
use Rattle.std.proofs.Common.{◌≡◌, ℕ, suc, ◌+◌, ◌-◌, ◌<◌, ◌≤◌, List, ◌∷◌, ◌++◌, length, get_or, refl, ◌∙◌, subst, inl, inr, eq-or-lt_of_le, arith}
use Rattle.std.proofs.lemmas.Bool.{cases_lt}
use Rattle.std.proofs.lemmas.List.{get_or_append_left, get_or-append_right}
use Rattle.terms.specs.Term.{Term, var, wire, bit, gate, new, bang, app, tuple, abs, Terms, none, part, size, sizes}
use Rattle.checker.specs.declared.role.Role.{Role}
use Rattle.checker.specs.declared.role.Role.TheVariants.{Other}
use Rattle.checker.specs.Faults.{Scope, frame, At, Ats, here, in_new, in_bang, in_fun, in_arg, in_tuple, in_abs, in_part, in_rest}
use Rattle.checker.specs.Sites.{role_of, sites, sitess}
use Rattle.checker.proofs.Walks.{length-sites}
use Rattle.terms.proofs.Forests.{size-parts}

mutual
  pub at_range : {G : Scope} {b m : ℕ} {t : Term} {n : ℕ} {H : Scope} {c : ℕ} {s : Term} → At G b m t n H c s → (m ≤ n) × (n < m + size t)
  at_range (here {t = t}) = (omega arith, omega (arith, size-parts t))
  at_range (in_new a) = let r = at_range a in (omega arith, omega arith)
  at_range (in_bang a) = let r = at_range a in (omega arith, omega arith)
  at_range (in_fun a) = let r = at_range a in (omega arith, omega arith)
  at_range (in_arg a) = let r = at_range a in (omega arith, omega arith)
  at_range (in_tuple a) = let r = ats_range a in (omega arith, omega arith)
  at_range (in_abs a) = let r = at_range a in (omega arith, omega arith)

  pub ats_range : {G : Scope} {b m : ℕ} {ts : Terms} {n : ℕ} {H : Scope} {c : ℕ} {s : Term} → Ats G b m ts n H c s → (m ≤ n) × (n < m + sizes ts)
  ats_range (in_part a) = let r = at_range a in (omega arith, omega arith)
  ats_range (in_rest a) = let r = ats_range a in (omega arith, omega arith)

head : (G : Scope) (b m : ℕ) (t : Term) (d : Role) → get_or (sites G b m t) 0 d ≡ role_of G b m t
head G b m (var u p) d = refl
head G b m (wire w) d = refl
head G b m (bit c) d = refl
head G b m (gate g) d = refl
head G b m (new t) d = refl
head G b m (bang t) d = refl
head G b m (app f a) d = refl
head G b m (tuple ts) d = refl
head G b m (abs k t) d = refl

tail : (x : Role) (xs : List Role) (m n : ℕ) (d : Role) → m + 1 ≤ n → get_or (x ∷ xs) (n - m) d ≡ get_or xs (n - (m + 1)) d
tail x xs m n d h = let e : n - m ≡ suc (n - (m + 1)) = omega arith in rw e refl

left_of : (xs ys : List Role) (m n k : ℕ) (d : Role) → length xs ≡ k → m ≤ n → n < m + k → get_or (xs ++ ys) (n - m) d ≡ get_or xs (n - m) d
left_of xs ys m n k d e lo hi = get_or_append_left xs ys d (n - m) (omega arith)

right_of : (xs ys : List Role) (m n k : ℕ) (d : Role) → length xs ≡ k → m + k ≤ n → get_or (xs ++ ys) (n - m) d ≡ get_or ys (n - (m + k)) d
right_of xs ys m n k d e lo =
    let z : n - m - k ≡ n - (m + k) = omega arith in
    get_or-append_right xs ys k (n - m) d e (omega arith) ∙ rw z refl

mutual
  pub at_site : {G : Scope} {b m : ℕ} {t : Term} {n : ℕ} {H : Scope} {c : ℕ} {s : Term} (d : Role) → At G b m t n H c s → get_or (sites G b m t) (n - m) d ≡ role_of H c n s
  at_site d (here {G = G} {b = b} {m = m} {t = t}) = let e : m - m ≡ 0 = omega arith in rw e (head G b m t d)
  at_site d (in_new a) = tail _ _ _ _ d (at_range a).0 ∙ at_site d a
  at_site d (in_bang a) = tail _ _ _ _ d (at_range a).0 ∙ at_site d a
  at_site d (in_fun {G = G} {b = b} {m = m} {f = f} {a = x} {n = n} a) =
      let r = at_range a in
      tail Other (sites G b (m + 1) f ++ sites G b (m + 1 + size f) x) m n d r.0 ∙ left_of _ _ (m + 1) n (size f) d (length-sites G b (m + 1) f) r.0 r.1 ∙ at_site d a
  at_site d (in_arg {G = G} {b = b} {m = m} {f = f} {a = x} {n = n} a) =
      let r = at_range a in
      let l : m + 1 ≤ n = omega arith in
      tail Other (sites G b (m + 1) f ++ sites G b (m + 1 + size f) x) m n d l ∙ right_of _ _ (m + 1) n (size f) d (length-sites G b (m + 1) f) r.0 ∙ at_site d a
  at_site d (in_tuple a) = tail _ _ _ _ d (ats_range a).0 ∙ ats_site d a
  at_site d (in_abs a) = tail _ _ _ _ d (at_range a).0 ∙ at_site d a

  pub ats_site : {G : Scope} {b m : ℕ} {ts : Terms} {n : ℕ} {H : Scope} {c : ℕ} {s : Term} (d : Role) → Ats G b m ts n H c s → get_or (sitess G b m ts) (n - m) d ≡ role_of H c n s
  ats_site d (in_part {G = G} {b = b} {m = m} {t = t} {n = n} a) =
      let r = at_range a in
      left_of _ _ m n (size t) d (length-sites G b m t) r.0 r.1 ∙ at_site d a
  ats_site d (in_rest {G = G} {b = b} {m = m} {t = t} {n = n} a) =
      right_of _ _ m n (size t) d (length-sites G b m t) (ats_range a).0 ∙ ats_site d a

-- What stands at a number.
pub record Located (G : Scope) (b m : ℕ) (t : Term) (n : ℕ) : Type 0 where
  pub scope : Scope
  pub bangs : ℕ
  pub term : Term
  pub place : At G b m t n scope bangs term

pub record Locateds (G : Scope) (b m : ℕ) (ts : Terms) (n : ℕ) : Type 0 where
  pub scope : Scope
  pub bangs : ℕ
  pub term : Term
  pub place : Ats G b m ts n scope bangs term

first : (G : Scope) (b m : ℕ) (t : Term) (n : ℕ) → m ≡ n → Located G b m t n
first G b m t n e = subst (λ (k : ℕ). Located G b m t k) e (record { scope = G; bangs = b; term = t; place = here })

mutual
  pub locate : (G : Scope) (b m : ℕ) (t : Term) (n : ℕ) → m ≤ n → n < m + size t → Located G b m t n
  locate G b m (var u p) n lo hi = first G b m (var u p) n (omega arith)
  locate G b m (wire w) n lo hi = first G b m (wire w) n (omega arith)
  locate G b m (bit c) n lo hi = first G b m (bit c) n (omega arith)
  locate G b m (gate g) n lo hi = first G b m (gate g) n (omega arith)
  locate G b m (new t) n lo hi = elim (eq-or-lt_of_le lo) [
    | inl e ↦ first G b m (new t) n e
    | inr h ↦ let r = locate G b (m + 1) t n (omega arith) (omega arith) in record { scope = r.scope; bangs = r.bangs; term = r.term; place = in_new r.place }
  ]
  locate G b m (bang t) n lo hi = elim (eq-or-lt_of_le lo) [
    | inl e ↦ first G b m (bang t) n e
    | inr h ↦ let r = locate G (b + 1) (m + 1) t n (omega arith) (omega arith) in record { scope = r.scope; bangs = r.bangs; term = r.term; place = in_bang r.place }
  ]
  locate G b m (app f a) n lo hi = elim (eq-or-lt_of_le lo) [
    | inl e ↦ first G b m (app f a) n e
    | inr h ↦ elim (cases_lt n (m + 1 + size f)) [
      | inl k ↦ let r = locate G b (m + 1) f n (omega arith) (omega arith) in record { scope = r.scope; bangs = r.bangs; term = r.term; place = in_fun r.place }
      | inr k ↦ let r = locate G b (m + 1 + size f) a n (omega arith) (omega arith) in record { scope = r.scope; bangs = r.bangs; term = r.term; place = in_arg r.place }
    ]
  ]
  locate G b m (tuple ts) n lo hi = elim (eq-or-lt_of_le lo) [
    | inl e ↦ first G b m (tuple ts) n e
    | inr h ↦ let r = locates G b (m + 1) ts n (omega arith) (omega arith) in record { scope = r.scope; bangs = r.bangs; term = r.term; place = in_tuple r.place }
  ]
  locate G b m (abs k t) n lo hi = elim (eq-or-lt_of_le lo) [
    | inl e ↦ first G b m (abs k t) n e
    | inr h ↦ let r = locate (frame m k b ∷ G) b (m + 1) t n (omega arith) (omega arith) in record { scope = r.scope; bangs = r.bangs; term = r.term; place = in_abs r.place }
  ]

  pub locates : (G : Scope) (b m : ℕ) (ts : Terms) (n : ℕ) → m ≤ n → n < m + sizes ts → Locateds G b m ts n
  locates G b m none n lo hi = absurd (omega arith)
  locates G b m (part t ts) n lo hi = elim (cases_lt n (m + size t)) [
    | inl k ↦ let r = locate G b m t n lo k in record { scope = r.scope; bangs = r.bangs; term = r.term; place = in_part r.place }
    | inr k ↦ let r = locates G b (m + size t) ts n k (omega arith) in record { scope = r.scope; bangs = r.bangs; term = r.term; place = in_rest r.place }
  ]
