-- The first line of each wire.
use Rattle.std.specs.Prelude.{◌≡◌, ℕ, ◌<◌, min, Bool, true, false, List, length, Some, None, Option, nat_lt, slice_index, slice_index_or, slice_set}
use Rattle.checker.specs.declared.role.Role.{Role}
use Rattle.checker.specs.declared.role.Role.TheVariants.{Other, Lead}
use Rattle.checker.specs.Roles.{is_lead}

-- The site n has a wire that another site has on an earlier line.
pub record RepeatSite (xs : List Role) (lines : List ℕ) (n : ℕ) : Type 0 where
  pub wire : ℕ
  pub other : ℕ
  pub low : other < length xs
  pub here : is_lead wire (slice_index_or xs n Other) ≡ true
  pub there : is_lead wire (slice_index_or xs other Other) ≡ true
  pub less : slice_index lines other < slice_index lines n

-- The smaller of the line that is noted and of another.
abbrev pub earlier : Option ℕ → ℕ → ℕ
earlier None line = line
earlier (Some l) line = min l line

-- What is noted after a site of this role on the line.
abbrev pub noted : Role → ℕ → List (Option ℕ) → List (Option ℕ)
noted (Lead w x) line F = slice_set F w (Some (earlier (slice_index_or F w None) line))
noted _ line F = F

-- Whether an earlier line is noted.
abbrev pub is_before : Option ℕ → ℕ → Bool
is_before None line = false
is_before (Some l) line = nat_lt l line

abbrev pub repeated_role : List (Option ℕ) → Role → ℕ → Bool
repeated_role F (Lead w x) line = is_before (slice_index_or F w None) line
repeated_role F _ line = false

-- No wire has a line.
abbrev pub Blank : List (Option ℕ) → Type 0
Blank F = (w : ℕ) → w < length F → slice_index_or F w None ≡ None

-- What is noted without the wire of this role.
abbrev pub wiped : Role → List (Option ℕ) → List (Option ℕ)
wiped (Lead w x) F = slice_set F w None
wiped _ F = F
