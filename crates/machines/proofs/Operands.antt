-- Wires as operands.
use Rattle.std.proofs.Common.{ℕ, true, not, ◌&&◌, nat_eq, [], ◌∷◌, Decides, refl, ap}
use Rattle.std.specs.List.{IsDistinct}
use Rattle.std.proofs.lemmas.Bool.{not-true, and_parts}

-- One wire is distinct, two are if they differ, three are if each two differ.
pub one_distinct : (x : ℕ) → Decides true (IsDistinct nat_eq (x ∷ []))
unfolding IsDistinct
one_distinct x = (λ e. (tt, tt), λ d. refl)

pub two_distinct : (x y : ℕ) → Decides (not (nat_eq x y)) (IsDistinct nat_eq (x ∷ y ∷ []))
unfolding IsDistinct
two_distinct x y = (λ e. ((not-true _ e, tt), (tt, tt)), λ d. ap not d.0.0)

pub three_distinct : (x y z : ℕ) → Decides ((not (nat_eq x y) && not (nat_eq x z)) && not (nat_eq y z)) (IsDistinct nat_eq (x ∷ y ∷ z ∷ []))
unfolding IsDistinct
three_distinct x y z = (
  λ e.
      let all = and_parts _ _ e in
      let first = and_parts _ _ all.0 in
      ((not-true _ first.0, (not-true _ first.1, tt)), ((not-true _ all.1, tt), (tt, tt))),
  λ d. rw (d.0.0, d.0.1.0, d.1.0.0),
)
