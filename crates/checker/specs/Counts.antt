-- How often each binder's variables are used.
use Rattle.std.specs.Prelude.{◌≡◌, ℕ, ◌+◌, ◌<◌, Bool, false, not, List, [], length, take, replicate, count_by, ◌==◌, ◌≢◌, slice_index, slice_index_or, slice_set}
use Rattle.std.specs.List.{list_any}
use Rattle.checker.specs.declared.role.Role.{Role}
use Rattle.checker.specs.declared.role.Role.TheVariants.{Other, Use, Opening}
use Rattle.checker.specs.Roles.{is_use}

-- The site n is a binder that has a linear variable that is not used once.
pub record MisuseSite (xs : List Role) (n : ℕ) : Type 0 where
  pub binder : ℕ
  pub pattern : ℕ
  pub place : ℕ
  pub low : place < pattern
  pub here : slice_index_or xs n Other ≡ Opening binder pattern
  pub off : count_by (is_use binder place) xs ≢ 1

-- The role speaks of the binder m.
abbrev pub Names : ℕ → Role → Type 0
Names m (Use n k p x) = m ≡ n
Names m (Opening n k) = m ≡ n
Names m _ = ⊥

-- The row has, for each of the eight places of the binder m, its uses among the sites xs.
pub record Uses (xs : List Role) (m : ℕ) (row : List ℕ) : Type 0 where
  pub long : length row ≡ 8
  pub each : (p : ℕ) → p < 8 → slice_index row p ≡ count_by (is_use m p) xs

-- The uses among the sites `seen`, for each binder that one of the first k sites names.
abbrev pub Counts : List Role → List Role → List (List ℕ) → ℕ → Type 0
Counts seen xs C k = (n m : ℕ) → n < k → Names m (slice_index_or xs n Other) → Uses seen m (slice_index_or C m [])

abbrev pub Counted : List Role → List (List ℕ) → Type 0
Counted xs C = Counts xs xs C (length xs)

-- How often the place p of the binder m was counted.
abbrev pub count_of : List (List ℕ) → ℕ → ℕ → ℕ
count_of C m p = slice_index (slice_index_or C m []) p

-- The counts without those of the binder that the role names.
abbrev pub cleared : Role → List (List ℕ) → List (List ℕ)
cleared (Use m k p x) C = slice_set C m (replicate 8 0)
cleared (Opening m k) C = slice_set C m (replicate 8 0)
cleared _ C = C

-- The counts with one use more.
abbrev pub counted_in : Role → List (List ℕ) → List (List ℕ)
counted_in (Use m k p x) C = slice_set C m (slice_set (slice_index_or C m []) p (count_of C m p + 1))
counted_in _ C = C

-- There is room to count the role.
abbrev pub Countable : List (List ℕ) → Role → Type 0
Countable C (Use m k p x) = count_of C m p < 65535
Countable C _ = Unit {0}

-- Whether one of the binder's variables was not counted once.
abbrev pub misused_role : List (List ℕ) → Role → Bool
misused_role C (Opening m k) = list_any (λ u. not (u == 1)) (take k (slice_index_or C m []))
misused_role C _ = false
