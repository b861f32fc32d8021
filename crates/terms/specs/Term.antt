-- Terms of the calculus, as trees.
use Rattle.std.specs.Prelude.{ℕ, suc, ◌+◌, Bool}
use Rattle.terms.specs.declared.Gate.{Gate}

mutual
  -- `var up place`: `up` binders lie between the variable and its own, and `place` is its place in that binder's pattern.
  -- `bit c` is the constant 0 (false) or 1 (true). `app f a` applies the function f to the argument a.
  -- `abs n t` is the binder of pattern n with the body t.
  pub data Term : Type 0 where
    var : ℕ → ℕ → Term
    wire : ℕ → Term
    bit : Bool → Term
    gate : Gate → Term
    new : Term → Term
    bang : Term → Term
    app : Term → Term → Term
    tuple : Terms → Term
    abs : ℕ → Term → Term

  -- Terms in a row, as the parts of a tuple.
  pub data Terms : Type 0 where
    none : Terms
    part : Term → Terms → Terms

abbrev pub count : Terms → ℕ
count none = 0
count (part t ts) = suc (count ts)

-- The size of a term is its number of nodes.
abbrev mutual
  pub size : Term → ℕ
  size (var u p) = 1
  size (wire w) = 1
  size (bit c) = 1
  size (gate g) = 1
  size (new t) = 1 + size t
  size (bang t) = 1 + size t
  size (app f a) = 1 + size f + size a
  size (tuple ts) = 1 + sizes ts
  size (abs n t) = 1 + size t

  pub sizes : Terms → ℕ
  sizes none = 0
  sizes (part t ts) = size t + sizes ts
