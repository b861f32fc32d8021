-- What the role of a node says by itself.
use Rattle.std.specs.Prelude.{ℕ, ◌<◌, ◌≤◌, Bool, true, false, ◌&&◌, ◌==◌, nat_le, nat_lt}
use Rattle.std.specs.Coded.{×_prop, Unit-prop, le_prop}
use Rattle.theory.specs.Acceptance.{arity}
use Rattle.checker.specs.declared.role.Role.{Role}
use Rattle.checker.specs.declared.role.Role.TheVariants.{Other, Free, Use, Lead, Opening}

-- A binder's number and a wire's are below 4,096, a place is below 8, and a pattern at most 8.
abbrev pub Ranged : Role → Type 0
Ranged (Use m k p x) = (m < 4096) × (p < 8)
Ranged (Lead w x) = w < 4096
Ranged (Opening m k) = (m < 4096) × (k ≤ 8)
Ranged _ = Unit {0}

pub Ranged-prop : (r : Role) → IsProp (Ranged r)
Ranged-prop Other = Unit-prop
Ranged-prop Free = Unit-prop
Ranged-prop (Use m k p x) = ×_prop le_prop le_prop
Ranged-prop (Lead w x) = le_prop
Ranged-prop (Opening m k) = ×_prop le_prop le_prop

-- Whether the role breaks a rule.
abbrev pub unbound_role : Role → Bool
unbound_role Free = true
unbound_role (Use m k p x) = nat_le (arity k) p
unbound_role _ = false

abbrev pub shut_role : Role → Bool
shut_role (Use m k p x) = x && nat_lt p k
shut_role (Lead w x) = x
shut_role _ = false

-- Whether it is the wire k.
abbrev pub is_lead : ℕ → Role → Bool
is_lead k (Lead w x) = k == w
is_lead k _ = false

-- Whether it is the variable p of the binder m.
abbrev pub is_use : ℕ → ℕ → Role → Bool
is_use m p (Use n k q x) = m == n && p == q
is_use m p _ = false
