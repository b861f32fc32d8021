use Rattle.std.proofs.Common.{sym, subst, arith, ltb-false, ltb-true, eqb-true}
use Rattle.std.proofs.lemmas.Bool.{eqb-false}
use Rattle.std.proofs.lemmas.Bool.Decides.{nat_tests}
use Rattle.sheet.specs.Entries.{Parses}
use Rattle.sheet.proofs.Parsing.{no_numbers, number-line, no_form}
use Rattle.sheet.proofs.parse.line_of.Goals as goal

pub returns-in_err-numbers_in-in-9 : goal.returns-in_err-numbers_in-in-9
returns-in_err-numbers_in-in-9 c =
    subst (λ r. Parses c.args.line.now r) (sym c.from_residual-in_err-numbers_in-in-9.ensures) (no_numbers c.args.line.now (omega (arith, ltb-true, ltb-false)) (omega (arith, eqb-true, eqb-false)) (λ b. omega (arith, eqb-true, eqb-false)) c.in_err-numbers_in-in-9.ensures)

pub returns-in_ok-numbers_in-in-9 : goal.returns-in_ok-numbers_in-in-9
returns-in_ok-numbers_in-in-9 c =
    number-line c.args.line.now (omega (arith, ltb-true, ltb-false)) (omega (arith, eqb-true, eqb-false)) (λ b. omega (arith, eqb-true, eqb-false)) c.in_ok-numbers_in-in-9.field-0 c.in_ok-numbers_in-in-9.ensures c.shaped.result c.shaped.ensures

pub returns-in_default : goal.returns-in_default
returns-in_default c = no_form c.args.line.now (λ l t. grind (arith, nat_tests))
