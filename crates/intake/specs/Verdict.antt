-- What becomes of a sheet that is read and checked.
use Rattle.std.specs.Prelude.{◌≡◌, ℕ, ◌⊎◌, List, Ok, Err, Result}
use Rattle.theory.specs.Acceptance.{Accepted}
use Rattle.sheet.specs.Reading.{term_of, HoldsSheet, Refuses}
use Rattle.sheet.specs.declared.program.Program.{Program}
use Rattle.sheet.specs.declared.refusal.Refusal.{Refusal}
use Rattle.checker.specs.Verdict.{Denied}
use Rattle.checker.specs.declared.accepted.AcceptedProgram.{AcceptedProgram}

-- The program is what the sheet says, and the rules derive it.
pub record Taken (bs : List ℕ) (p : Program) : Type 0 where
  pub says : HoldsSheet bs p
  pub derived : Accepted (term_of p)

-- The sheet says a program that the rules do not derive, and this is why.
pub record DeniedSheet (bs : List ℕ) (f : Refusal) : Type 0 where
  pub program : Program
  pub says : HoldsSheet bs program
  pub denied : Denied f program

-- What the answer to a sheet is, and what is held as accepted before and after.
abbrev pub TakesIn : List ℕ → Result (Unit {0}) Refusal → AcceptedProgram → AcceptedProgram → Type 0
TakesIn bs (Ok _) held holds = Taken bs holds.program
TakesIn bs (Err f) held holds = (Refuses bs f.rule f.line ⊎ DeniedSheet bs f) × (holds ≡ held)
