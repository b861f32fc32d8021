-- What a tariff means.
use Rattle.std.specs.Prelude.{◌≡◌}
use Rattle.terms.specs.declared.StepKind.{StepKind}

-- The zero, the joining of two charges, and the charge for a step of each kind.
pub record Prices (C : Type 0) : Type 0 where
  pub zero : C
  pub join : C → C → C
  pub charge : StepKind → C

-- The laws: joining is associative and commutative, and zero joined with a charge is that charge.
pub record Fair {C : Type 0} (p : Prices C) : Type 0 where
  pub associative : (x y z : C) → p.join (p.join x y) z ≡ p.join x (p.join y z)
  pub commutative : (x y : C) → p.join x y ≡ p.join y x
  pub neutral : (x : C) → p.join p.zero x ≡ x
