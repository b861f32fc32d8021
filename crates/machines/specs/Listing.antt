-- A list of records that was lent, into which operations are written.
use Rattle.std.specs.Prelude.{◌≡◌, ℕ, ◌+◌, min, List, ◌++◌, map, length, take, drop, None, Option}
use Rattle.std.specs.Borrow.{MutBor}
use Rattle.std.specs.List.{last_or}
use Rattle.machines.specs.Machine.{operation_limit}
use Rattle.machines.specs.Operation.{Operation, told}
use Rattle.machines.specs.declared.operation.Operation.{Operation as Record}

-- The first n operations that stand in the list, and the records behind them.
abbrev pub written : MutBor (List Record) → ℕ → List Operation
written l n = map told (take n l.now)

abbrev pub unwritten : MutBor (List Record) → ℕ → List Record
unwritten l n = drop n l.now

-- The most operations are as many as the list has records, but at most 2,000,000.
abbrev pub list_most : MutBor (List Record) → ℕ
list_most l = min (length l.now) operation_limit

abbrev pub list_last : MutBor (List Record) → ℕ → Option Operation
list_last l n = last_or None (written l n)

-- The operations are written behind the n that stand in the list. The records behind them are as they were, and the list is
-- still the one that was lent.
pub record Writes (x : MutBor (List Record)) (n : ℕ) (os : List Operation) (y : MutBor (List Record)) : Type 0 where
  pub adds : written y (n + length os) ≡ written x n ++ os
  pub leaves : unwritten y (n + length os) ≡ drop (length os) (unwritten x n)
  pub loan : y.ghost_name ≡ x.ghost_name
