-- The smallest line of the sites that break a rule.
use Rattle.std.specs.Prelude.{◌≡◌, ℕ, ◌<◌, ◌≤◌, min, Bool, true, List, length, map, filter, Some, None, Option, slice_index, slice_index_or}
use Rattle.std.specs.List.{reduce}
use Rattle.std.specs.Fn.{Shared, FnReturnsAt}
use Rattle.std.specs.Borrow.{Bor}
use Rattle.checker.specs.declared.role.Role.{Role}
use Rattle.checker.specs.declared.role.Role.TheVariants.{Other}
use Rattle.checker.specs.declared.site.Site.{Site}
use Rattle.checker.specs.Roles.{unbound_role, shut_role}

abbrev pub roles : List Site → List Role
roles xs = map (λ x. x.role) xs

abbrev pub site_lines : List Site → List ℕ
site_lines xs = map (λ x. x.line) xs

-- f answers at each site what the test says.
abbrev pub Tells : {F : Type 0} → Shared F (Bor Site × Unit {0}) Bool → F → (Site → Bool) → Type 0
Tells g f test = (x : Site) (told : Bool) → FnReturnsAt g f x told → told ≡ test x

-- The smallest line of the sites that pass the test.
abbrev pub least_line : (Site → Bool) → List Site → Option ℕ
least_line test xs = reduce min (site_lines (filter test xs))

-- The smallest line at which P holds.
pub record Earliest (P : ℕ → Type 0) (lines : List ℕ) (l : ℕ) : Type 0 where
  pub node : ℕ
  pub low : node < length lines
  pub breaks : P node
  pub line : slice_index lines node ≡ l
  pub first : (n : ℕ) → n < length lines → P n → l ≤ slice_index lines n

abbrev pub Found : (ℕ → Type 0) → List ℕ → Option ℕ → Type 0
Found P lines None = (n : ℕ) → n < length lines → P n → ⊥
Found P lines (Some l) = Earliest P lines l

-- What a site breaks by its role alone.
abbrev pub UnboundSite : List Role → ℕ → Type 0
UnboundSite xs n = unbound_role (slice_index_or xs n Other) ≡ true

abbrev pub ShutSite : List Role → ℕ → Type 0
ShutSite xs n = shut_role (slice_index_or xs n Other) ≡ true
