-- The roles and the lines of sites.
use Rattle.std.proofs.Common.{◌≡◌, ℕ, ◌<◌, List, [], ◌∷◌, zero, suc, length, get_or, sym, refl, ap, ◌∙◌}
use Rattle.std.proofs.lemmas.List.{get_or-map}
use Rattle.checker.specs.declared.role.Role.TheVariants.{Other}
use Rattle.checker.specs.Roles.{Ranged}
use Rattle.checker.specs.Found.{roles, site_lines}
use Rattle.checker.specs.declared.site.Site.{Site}

-- The site x stands at n.
pub role_is : (xs : List Site) (n : ℕ) (x : Site) → n < length xs → x ≡ get_or xs n x → get_or (roles xs) n Other ≡ x.role
role_is xs n x lo e = get_or-map (λ y. y.role) xs n x Other lo ∙ ap (λ y. y.role) (sym e)

pub line_is : (xs : List Site) (n : ℕ) (x : Site) → n < length xs → x ≡ get_or xs n x → get_or (site_lines xs) n 0 ≡ x.line
line_is xs n x lo e = get_or-map (λ y. y.line) xs n x 0 lo ∙ ap (λ y. y.line) (sym e)

pub ranged_at : (xs : List Site) (n : ℕ) → Ranged (get_or (roles xs) n Other)
ranged_at [] n = tt
ranged_at (x ∷ xs) zero = x.ranged
ranged_at (x ∷ xs) (suc n) = ranged_at xs n

pub as_many : (xs : List Site) → length (roles xs) ≡ length (site_lines xs)
as_many [] = refl
as_many (x ∷ xs) = ap suc (as_many xs)
