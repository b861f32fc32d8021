-- What checking answers.
use Rattle.std.specs.Prelude.{◌≡◌, ℕ, List, Ok, Err, Result}
use Rattle.terms.specs.Term.{Term}
use Rattle.theory.specs.Acceptance.{Accepted}
use Rattle.sheet.specs.Reading.{term_of, lines_of}
use Rattle.sheet.specs.declared.program.Program.{Program}
use Rattle.sheet.specs.declared.refusal.Rule.{Rule}
use Rattle.sheet.specs.declared.refusal.Rule.TheVariants.{Form, Size, Part, Unbound as Rule-Unbound, Misused as Rule-Misused, Shut as Rule-Shut, Repeated as Rule-Repeated}
use Rattle.sheet.specs.declared.refusal.Refusal.{Refusal}
use Rattle.checker.specs.declared.accepted.AcceptedProgram.{AcceptedProgram}
use Rattle.checker.specs.Faults.{Unbound, Misused, Shut, Repeated, Nowhere, Least}

-- The rule is the first that is broken, and l is the smallest line that breaks it. The other rules are those of reading.
abbrev pub Breaks : Term → List ℕ → Rule → ℕ → Type 0
Breaks t lines Form l = ⊥
Breaks t lines Size l = ⊥
Breaks t lines Part l = ⊥
Breaks t lines Rule-Unbound l = Least (Unbound t) lines l
Breaks t lines Rule-Misused l = Nowhere (Unbound t) × Least (Misused t) lines l
Breaks t lines Rule-Shut l = Nowhere (Unbound t) × Nowhere (Misused t) × Least (Shut t) lines l
Breaks t lines Rule-Repeated l = Nowhere (Unbound t) × Nowhere (Misused t) × Nowhere (Shut t) × Least (Repeated t lines) lines l

-- The program breaks this rule, and the rules do not derive it.
pub record Denied (f : Refusal) (p : Program) : Type 0 where
  pub breaks : Breaks (term_of p) (lines_of p) f.rule f.line
  pub underivable : Accepted (term_of p) → ⊥

-- The rules derive the program just if it is not refused.
abbrev pub Decided : Result (Unit {0}) Refusal → Program → Type 0
Decided (Ok _) p = Accepted (term_of p)
Decided (Err f) p = Denied f p

-- The rules derive the program that was given, and it has changed places with the one that was held.
pub record Admitted (given left : Program) (held holds : AcceptedProgram) : Type 0 where
  pub derived : Accepted (term_of given)
  pub now_held : holds.program ≡ given
  pub now_left : left ≡ held.program

-- The program is denied, and all stays as it was.
pub record Refused (f : Refusal) (given left : Program) (held holds : AcceptedProgram) : Type 0 where
  pub denied : Denied f given
  pub still_left : left ≡ given
  pub still_held : holds ≡ held

-- `Checked r given left held holds`: what the answer r says of the program before and after, and of the place before and after.
abbrev pub Checked : Result (Unit {0}) Refusal → Program → Program → AcceptedProgram → AcceptedProgram → Type 0
Checked (Ok _) given left held holds = Admitted given left held holds
Checked (Err f) given left held holds = Refused f given left held holds

-- The theorem: a program has at most one verdict.
abbrev pub VerdictIsDetermined : Type 0
VerdictIsDetermined = (t : Term) (lines : List ℕ) (r s : Rule) (l m : ℕ) → Breaks t lines r l → Breaks t lines s m → (r ≡ s) × (l ≡ m)
