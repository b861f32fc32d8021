-- The verdict on the sites, rule by rule.
use Rattle.std.proofs.Common.{◌≡◌, ℕ, List, Some, None, Ok, Err, Option, Result, sym, refl, subst, MatchOption}
use Rattle.sheet.specs.declared.refusal.Rule.{Rule}
use Rattle.sheet.specs.declared.refusal.Refusal.{Refusal}
use Rattle.checker.specs.declared.site.Site.{Site}
use Rattle.checker.specs.Roles.{unbound_role, shut_role}
use Rattle.checker.specs.Found.{roles, site_lines, least_line, Found, UnboundSite, ShutSite}
use Rattle.checker.proofs.Finding.{least_found}

pub unbound_found : (xs : List Site) → Found (UnboundSite (roles xs)) (site_lines xs) (least_line (λ x. unbound_role x.role) xs)
unbound_found xs = least_found (λ r _. unbound_role r) xs

pub shut_found : (xs : List Site) → Found (ShutSite (roles xs)) (site_lines xs) (least_line (λ x. shut_role x.role) xs)
shut_found xs = least_found (λ r _. shut_role r) xs

-- The rule is refused at the line, if there is one.
abbrev pub Answers : Rule → Option ℕ → Result (Unit {0}) Refusal → Type 0
Answers rule o r = MatchOption o (r ≡ Ok tt) (λ l. r ≡ Err (record { rule = rule; line = l }))

module _ (rule : Rule) (r : Result (Unit {0}) Refusal) where
  pub kept : (o : Option ℕ) (P : ℕ → Type 0) (lines : List ℕ) (x : Unit {0}) → Answers rule o r → r ≡ Ok x → Found P lines o → Found P lines None
  kept None P lines x a e f = f
  kept (Some l) P lines x a e f = absurd (cc (a, e))

  pub refused : (o : Option ℕ) (J : Result (Unit {0}) Refusal → Type 0) (f : Refusal) → Answers rule o r → r ≡ Err f → ((l : ℕ) → o ≡ Some l → J (Err (record { rule = rule; line = l }))) → J r
  refused None J f a e j = absurd (cc (a, e))
  refused (Some l) J f a e j = subst J (sym a) (j l refl)

  pub answered : (o : Option ℕ) (J : Result (Unit {0}) Refusal → Type 0) → Answers rule o r → (o ≡ None → J (Ok tt)) → ((l : ℕ) → o ≡ Some l → J (Err (record { rule = rule; line = l }))) → J r
  answered None J a i j = subst J (sym a) (i refl)
  answered (Some l) J a i j = subst J (sym a) (j l refl)
