-- Where the nodes of a term stand, and what breaks a rule there.
use Rattle.std.specs.Prelude.{◌≡◌, ℕ, zero, suc, ◌+◌, ◌<◌, ◌≤◌, List, [], ◌∷◌, ◌≢◌, slice_index}
use Rattle.terms.specs.Term.{Term, var, wire, new, bang, app, tuple, abs, Terms, part, size}
use Rattle.theory.specs.Acceptance.{Patterns, Bound, pattern, uses, slot}
use Rattle.checker.specs.declared.role.Frame.{Frame}

-- The enclosing binders, nearest first: each with its number, its pattern, and the bangs that it stands in.
abbrev pub Scope : Type 0
Scope = List Frame

abbrev pub patterns : Scope → Patterns
patterns [] = []
patterns (f ∷ G) = f.pattern ∷ patterns G

abbrev pub frame : ℕ → ℕ → ℕ → Frame
frame m k b = record { number = m; pattern = k; depth = b }

-- `At G b m t n H c s`: where the term t has the number m and stands within the binders G and b bangs,
-- the node with the number n is the subterm s, and stands within the binders H and c bangs.
mutual
  pub data At : Scope → ℕ → ℕ → Term → ℕ → Scope → ℕ → Term → Type 0 where
    here : {G : Scope} {b m : ℕ} {t : Term} → At G b m t m G b t
    in_new : {G : Scope} {b m : ℕ} {t : Term} {n : ℕ} {H : Scope} {c : ℕ} {s : Term} → At G b (m + 1) t n H c s → At G b m (new t) n H c s
    in_bang : {G : Scope} {b m : ℕ} {t : Term} {n : ℕ} {H : Scope} {c : ℕ} {s : Term} → At G (b + 1) (m + 1) t n H c s → At G b m (bang t) n H c s
    in_fun : {G : Scope} {b m : ℕ} {f a : Term} {n : ℕ} {H : Scope} {c : ℕ} {s : Term} → At G b (m + 1) f n H c s → At G b m (app f a) n H c s
    in_arg : {G : Scope} {b m : ℕ} {f a : Term} {n : ℕ} {H : Scope} {c : ℕ} {s : Term} → At G b (m + 1 + size f) a n H c s → At G b m (app f a) n H c s
    in_tuple : {G : Scope} {b m : ℕ} {ts : Terms} {n : ℕ} {H : Scope} {c : ℕ} {s : Term} → Ats G b (m + 1) ts n H c s → At G b m (tuple ts) n H c s
    in_abs : {G : Scope} {b m k : ℕ} {t : Term} {n : ℕ} {H : Scope} {c : ℕ} {s : Term} → At (frame m k b ∷ G) b (m + 1) t n H c s → At G b m (abs k t) n H c s

  pub data Ats : Scope → ℕ → ℕ → Terms → ℕ → Scope → ℕ → Term → Type 0 where
    in_part : {G : Scope} {b m : ℕ} {t : Term} {ts : Terms} {n : ℕ} {H : Scope} {c : ℕ} {s : Term} → At G b m t n H c s → Ats G b m (part t ts) n H c s
    in_rest : {G : Scope} {b m : ℕ} {t : Term} {ts : Terms} {n : ℕ} {H : Scope} {c : ℕ} {s : Term} → Ats G b (m + size t) ts n H c s → Ats G b m (part t ts) n H c s

-- The node n of the whole term t.
abbrev pub NodeAt : Term → ℕ → Scope → ℕ → Term → Type 0
NodeAt t n H c s = At [] 0 0 t n H c s

-- The binder `u` binders away stands in fewer than c bangs: a bang lies between.
abbrev pub Deeper : Scope → ℕ → ℕ → Type 0
Deeper [] u c = ⊥
Deeper (f ∷ G) zero c = f.depth < c
Deeper (f ∷ G) (suc u) c = Deeper G u c

-- The faults at the node n. A variable has no binder, or a place outside its pattern;
pub data Unbound (t : Term) (n : ℕ) : Type 0 where
  unbound : {H : Scope} {c u p : ℕ} → NodeAt t n H c (var u p) → (Bound (patterns H) u p → ⊥) → Unbound t n

-- a variable of a linear pattern is used never or more than once;
pub data Misused (t : Term) (n : ℕ) : Type 0 where
  misused : {H : Scope} {c k p : ℕ} {s : Term} → NodeAt t n H c (abs k s) → p < k → (uses (slot 0 p) s ≢ 1) → Misused t n

-- a linear variable stands in a bang inside its binder's body, or a wire in any bang;
pub data Shut (t : Term) (n : ℕ) : Type 0 where
  shut_variable : {H : Scope} {c u p : ℕ} → NodeAt t n H c (var u p) → p < pattern (patterns H) u → Deeper H u c → Shut t n
  shut_wire : {H : Scope} {c w : ℕ} → NodeAt t n H c (wire w) → 0 < c → Shut t n

-- a wire stands on an earlier line too.
pub data Repeated (t : Term) (lines : List ℕ) (n : ℕ) : Type 0 where
  repeated : {H K : Scope} {c d m w : ℕ} → NodeAt t n H c (wire w) → NodeAt t m K d (wire w) → slice_index lines m < slice_index lines n → Repeated t lines n

-- No node breaks the rule P; the smallest line that breaks it is l.
abbrev pub Nowhere : (ℕ → Type 0) → Type 0
Nowhere P = (n : ℕ) → P n → ⊥

pub record Least (P : ℕ → Type 0) (lines : List ℕ) (l : ℕ) : Type 0 where
  pub node : ℕ
  pub breaks : P node
  pub line : slice_index lines node ≡ l
  pub first : (n : ℕ) → P n → l ≤ slice_index lines n
