-- What follows from the interface of machines.
use Rattle.std.proofs.Common.{◌≡◌, ℕ, Bool, ◌||◌, [], ◌∷◌, Err, Result, refl, ap, ◌∙◌, subst, eq-eqb}
use Rattle.std.specs.List.{IsDistinct}
use Rattle.terms.specs.declared.Gate.TheVariants.{H}
use Rattle.machines.specs.Machine.{Meaning, Granted, Applies, WellNamed}
use Rattle.machines.specs.declared.operation.GateRefusal.{GateRefusal}
use Rattle.machines.specs.declared.operation.GateRefusal.TheVariants.{Misnamed}

-- A wire that was just granted is well named.
granted-named : (c : Bool) (w : ℕ) (m k : Meaning) → Granted c w m k → WellNamed k H (w ∷ [])
unfolding IsDistinct
granted-named c w m k g = record {
  wide = refl;
  distinct = (tt, tt);
  held = (ap (λ x. x.held w) g.becomes ∙ ap (λ b. b || m.held w) (eq-eqb w w refl), tt);
}

pub never_misnamed : (c : Bool) (w : ℕ) (r : Result (Unit {0}) GateRefusal) (m k n : Meaning) → Granted c w m k → Applies H (w ∷ []) r k n → r ≡ Err Misnamed → ⊥
never_misnamed c w r m k n g a e = (subst (λ x. Applies H (w ∷ []) x k n) e a).0.misnamed (granted-named c w m k g)
