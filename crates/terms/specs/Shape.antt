-- The ranges of what a term's nodes hold.
use Rattle.std.specs.Prelude.{◌<◌, ◌≤◌, Bool, true, ◌&&◌, nat_le, nat_lt}
use Rattle.terms.specs.Term.{Term, var, wire, bit, gate, new, bang, app, tuple, abs, Terms, none, part, count}

-- `up` is 0 to 4,095 and `place` 0 to 7, a wire's number is 0 to 4,095, a tuple has 2 to 8 parts, and a pattern is 0 to 8.
abbrev mutual
  pub Shaped : Term → Type 0
  Shaped (var u p) = (u < 4096) × (p < 8)
  Shaped (wire w) = w < 4096
  Shaped (bit c) = Unit {0}
  Shaped (gate g) = Unit {0}
  Shaped (new t) = Shaped t
  Shaped (bang t) = Shaped t
  Shaped (app f a) = Shaped f × Shaped a
  Shaped (tuple ts) = Shapeds ts × (2 ≤ count ts) × (count ts ≤ 8)
  Shaped (abs n t) = (n ≤ 8) × Shaped t

  pub Shapeds : Terms → Type 0
  Shapeds none = Unit {0}
  Shapeds (part t ts) = Shaped t × Shapeds ts

-- The same as a test.
abbrev mutual
  pub shaped : Term → Bool
  shaped (var u p) = nat_lt u 4096 && nat_lt p 8
  shaped (wire w) = nat_lt w 4096
  shaped (bit c) = true
  shaped (gate g) = true
  shaped (new t) = shaped t
  shaped (bang t) = shaped t
  shaped (app f a) = shaped f && shaped a
  shaped (tuple ts) = shapeds ts && (nat_le 2 (count ts) && nat_le (count ts) 8)
  shaped (abs n t) = nat_le n 8 && shaped t

  pub shapeds : Terms → Bool
  shapeds none = true
  shapeds (part t ts) = shaped t && shapeds ts
