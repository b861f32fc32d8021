-- The last operation, where nothing else is kept.
use Rattle.std.specs.Prelude.{ℕ, zero, suc, None, Option}

-- After n operations it is the one that is kept, and after none there is none.
abbrev pub kept : {A : Type 0} → ℕ → Option A → Option A
kept zero o = None
kept (suc n) o = o
