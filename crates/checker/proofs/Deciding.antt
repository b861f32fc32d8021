-- A program has at most one verdict.
use Rattle.std.proofs.Common.{◌≡◌, ℕ, List, refl, arith}
use Rattle.terms.specs.Term.{Term}
use Rattle.sheet.specs.declared.refusal.Rule.{Rule}
use Rattle.sheet.specs.declared.refusal.Rule.TheVariants.{Form, Size, Part, Unbound as Rule-Unbound, Misused as Rule-Misused, Shut as Rule-Shut, Repeated as Rule-Repeated}
use Rattle.checker.specs.Faults.{Unbound, Misused, Shut, Repeated, Nowhere, Least}
use Rattle.checker.specs.Verdict.{Breaks, VerdictIsDetermined}

one_line : (P : ℕ → Type 0) (lines : List ℕ) (l m : ℕ) → Least P lines l → Least P lines m → l ≡ m
one_line P lines l m a b = omega (arith, a.first b.node b.breaks, b.first a.node a.breaks, a.line, b.line)

not_both : {P : ℕ → Type 0} {lines : List ℕ} {l : ℕ} {A : Type 0} → Nowhere P → Least P lines l → A
not_both h a = absurd (h a.node a.breaks)

-- The rules that checking tests, with what was tested before.
data Broken (t : Term) (lines : List ℕ) : Rule → ℕ → Type 0 where
  first_unbound : {l : ℕ} → Least (Unbound t) lines l → Broken t lines Rule-Unbound l
  first_misused : {l : ℕ} → Nowhere (Unbound t) → Least (Misused t) lines l → Broken t lines Rule-Misused l
  first_shut : {l : ℕ} → Nowhere (Unbound t) → Nowhere (Misused t) → Least (Shut t) lines l → Broken t lines Rule-Shut l
  first_repeated : {l : ℕ} → Nowhere (Unbound t) → Nowhere (Misused t) → Nowhere (Shut t) → Least (Repeated t lines) lines l → Broken t lines Rule-Repeated l

broken : (t : Term) (lines : List ℕ) (r : Rule) (l : ℕ) → Breaks t lines r l → Broken t lines r l
broken t lines Form l h = absurd h
broken t lines Size l h = absurd h
broken t lines Part l h = absurd h
broken t lines Rule-Unbound l h = first_unbound h
broken t lines Rule-Misused l h = first_misused h.0 h.1
broken t lines Rule-Shut l h = first_shut h.0 h.1 h.2
broken t lines Rule-Repeated l h = first_repeated h.0 h.1 h.2 h.3

agree : {t : Term} {lines : List ℕ} {r s : Rule} {l m : ℕ} → Broken t lines r l → Broken t lines s m → (r ≡ s) × (l ≡ m)
agree (first_unbound a) (first_unbound b) = (refl, one_line _ _ _ _ a b)
agree (first_unbound a) (first_misused u b) = not_both u a
agree (first_unbound a) (first_shut u v b) = not_both u a
agree (first_unbound a) (first_repeated u v w b) = not_both u a
agree (first_misused u a) (first_unbound b) = not_both u b
agree (first_misused u a) (first_misused u' b) = (refl, one_line _ _ _ _ a b)
agree (first_misused u a) (first_shut u' v b) = not_both v a
agree (first_misused u a) (first_repeated u' v w b) = not_both v a
agree (first_shut u v a) (first_unbound b) = not_both u b
agree (first_shut u v a) (first_misused u' b) = not_both v b
agree (first_shut u v a) (first_shut u' v' b) = (refl, one_line _ _ _ _ a b)
agree (first_shut u v a) (first_repeated u' v' w b) = not_both w a
agree (first_repeated u v w a) (first_unbound b) = not_both u b
agree (first_repeated u v w a) (first_misused u' b) = not_both v b
agree (first_repeated u v w a) (first_shut u' v' b) = not_both w b
agree (first_repeated u v w a) (first_repeated u' v' w' b) = (refl, one_line _ _ _ _ a b)

pub verdict_is_determined : VerdictIsDetermined
verdict_is_determined t lines r s l m a b = agree (broken t lines r l a) (broken t lines s m b)
