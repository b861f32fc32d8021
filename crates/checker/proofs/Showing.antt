-- The sites show the faults of variables, and of what stands in a bang.
use Rattle.std.proofs.Common.{◌≡◌, ℕ, zero, suc, ◌<◌, true, [], ◌∷◌, get_or, sym, refl, ap, ◌∙◌, inl, inr, zero-le, arith, ltb-true, lt-ltb, le-leb, leb-true}
use native.Mathlib.Nat.{sub-zero}
use Rattle.std.proofs.lemmas.Bool.{cases_lt, and_parts}
use Rattle.terms.specs.Term.{Term, var, wire, bit, gate, new, bang, app, tuple, abs, size}
use Rattle.theory.specs.Acceptance.{Bound, pattern, arity}
use Rattle.checker.specs.declared.role.Role.TheVariants.{Other}
use Rattle.checker.specs.Faults.{Scope, patterns, NodeAt, Deeper, Unbound, unbound, Shut, shut_variable, shut_wire}
use Rattle.checker.specs.Sites.{resolve, role_of, sites}
use Rattle.checker.specs.Roles.{unbound_role, shut_role}
use Rattle.checker.specs.Found.{UnboundSite, ShutSite}
use Rattle.checker.proofs.Located.{at_range, at_site, Located, locate}
use Rattle.checker.proofs.Finding.{Shown}

-- The site of a node of the whole.
pub site_is : (t : Term) (n : ℕ) (H : Scope) (c : ℕ) (s : Term) → NodeAt t n H c s → get_or (sites [] 0 0 t) n Other ≡ role_of H c n s
site_is t n H c s a = rw sub-zero at (at_site Other a)

pub within-size : (t : Term) (n : ℕ) (H : Scope) (c : ℕ) (s : Term) → NodeAt t n H c s → n < size t
within-size t n H c s a = omega (arith, (at_range a).1)

pub located : (t : Term) (n : ℕ) → n < size t → Located [] 0 0 t n
located t n h = locate [] 0 0 t n zero-le (omega arith)

-- Variables with no binder.
unbound-resolve : (H : Scope) (c u p : ℕ) → (Bound (patterns H) u p → ⊥) → unbound_role (resolve H c u p) ≡ true
unbound-resolve [] c u p h = refl
unbound-resolve (f ∷ H) c zero p h = elim (cases_lt p (arity f.pattern)) [ inl k ↦ absurd (h k) | inr k ↦ le-leb (arity f.pattern) p k ]
unbound-resolve (f ∷ H) c (suc u) p h = unbound-resolve H c u p h

resolve-unbound : (H : Scope) (c u p : ℕ) → unbound_role (resolve H c u p) ≡ true → Bound (patterns H) u p → ⊥
resolve-unbound [] c u p e h = h
resolve-unbound (f ∷ H) c zero p e h = omega (arith, leb-true (arity f.pattern) p e)
resolve-unbound (f ∷ H) c (suc u) p e h = resolve-unbound H c u p e h

unbound_of : (t : Term) (n : ℕ) (H : Scope) (c : ℕ) (s : Term) → NodeAt t n H c s → unbound_role (role_of H c n s) ≡ true → Unbound t n
unbound_of t n H c (var u p) a e = unbound a (resolve-unbound H c u p e)
unbound_of t n H c (wire w) a e = absurd cc
unbound_of t n H c (bit x) a e = absurd cc
unbound_of t n H c (gate g) a e = absurd cc
unbound_of t n H c (new s) a e = absurd cc
unbound_of t n H c (bang s) a e = absurd cc
unbound_of t n H c (app f x) a e = absurd cc
unbound_of t n H c (tuple ts) a e = absurd cc
unbound_of t n H c (abs k s) a e = absurd cc

unbound-low : (t : Term) (n : ℕ) → Unbound t n → n < size t
unbound-low t n (unbound a h) = within-size t n _ _ _ a

unbound-to : (t : Term) (n : ℕ) → Unbound t n → UnboundSite (sites [] 0 0 t) n
unbound-to t n (unbound {H = H} {c = c} {u = u} {p = p} a h) = ap unbound_role (site_is t n H c (var u p) a) ∙ unbound-resolve H c u p h

unbound-from : (t : Term) (n : ℕ) → n < size t → UnboundSite (sites [] 0 0 t) n → Unbound t n
unbound-from t n lo e =
    let r = located t n lo in
    unbound_of t n r.scope r.bangs r.term r.place (sym (ap unbound_role (site_is t n r.scope r.bangs r.term r.place)) ∙ e)

pub unbound-shown : (t : Term) → Shown (Unbound t) (UnboundSite (sites [] 0 0 t)) (size t)
unbound-shown t = record { low = unbound-low t; to = unbound-to t; from = unbound-from t }

-- What stands in a bang.
pub shut_resolve : (H : Scope) (c u p : ℕ) → p < pattern (patterns H) u → Deeper H u c → shut_role (resolve H c u p) ≡ true
shut_resolve [] c u p h k = absurd k
shut_resolve (f ∷ H) c zero p h k = rw (lt-ltb f.depth c k) (lt-ltb p f.pattern h)
shut_resolve (f ∷ H) c (suc u) p h k = shut_resolve H c u p h k

resolve_shut : (H : Scope) (c u p : ℕ) → shut_role (resolve H c u p) ≡ true → (p < pattern (patterns H) u) × Deeper H u c
resolve_shut [] c u p e = absurd cc
resolve_shut (f ∷ H) c zero p e = let r = and_parts _ _ e in (ltb-true p f.pattern r.1, ltb-true f.depth c r.0)
resolve_shut (f ∷ H) c (suc u) p e = resolve_shut H c u p e

pub shut_of : (t : Term) (n : ℕ) (H : Scope) (c : ℕ) (s : Term) → NodeAt t n H c s → shut_role (role_of H c n s) ≡ true → Shut t n
shut_of t n H c (var u p) a e = let r = resolve_shut H c u p e in shut_variable a r.0 r.1
shut_of t n H c (wire w) a e = shut_wire a (ltb-true 0 c e)
shut_of t n H c (bit x) a e = absurd cc
shut_of t n H c (gate g) a e = absurd cc
shut_of t n H c (new s) a e = absurd cc
shut_of t n H c (bang s) a e = absurd cc
shut_of t n H c (app f x) a e = absurd cc
shut_of t n H c (tuple ts) a e = absurd cc
shut_of t n H c (abs k s) a e = absurd cc

shut_low : (t : Term) (n : ℕ) → Shut t n → n < size t
shut_low t n (shut_variable a h k) = within-size t n _ _ _ a
shut_low t n (shut_wire a h) = within-size t n _ _ _ a

shut_to : (t : Term) (n : ℕ) → Shut t n → ShutSite (sites [] 0 0 t) n
shut_to t n (shut_variable {H = H} {c = c} {u = u} {p = p} a h k) = ap shut_role (site_is t n H c (var u p) a) ∙ shut_resolve H c u p h k
shut_to t n (shut_wire {H = H} {c = c} {w = w} a h) = ap shut_role (site_is t n H c (wire w) a) ∙ lt-ltb 0 c h

shut_from : (t : Term) (n : ℕ) → n < size t → ShutSite (sites [] 0 0 t) n → Shut t n
shut_from t n lo e =
    let r = located t n lo in
    shut_of t n r.scope r.bangs r.term r.place (sym (ap shut_role (site_is t n r.scope r.bangs r.term r.place)) ∙ e)

pub shut_shown : (t : Term) → Shown (Shut t) (ShutSite (sites [] 0 0 t)) (size t)
shut_shown t = record { low = shut_low t; to = shut_to t; from = shut_from t }
