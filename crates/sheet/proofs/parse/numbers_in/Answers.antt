use Rattle.std.proofs.Common.{◌∷◌, [], List, ℕ, Some, None, length, sym, ap, subst, rules, tests, of_calls, arith}
use Rattle.std.proofs.lemmas.List.{length_push}
use Rattle.sheet.specs.Fields.{Collects}
use Rattle.sheet.proofs.Cutting.{Field, fields_left, next_field}
use Rattle.sheet.proofs.Collecting.{no_number, one_more, collected}
use Rattle.sheet.proofs.parse.numbers_in.Goals as goal
use Rattle.sheet.proofs.parse.numbers_in.Goals.{In-Some}

next : (c : goal.In-Some) → Field (fields_left c.loop-field.field-iterator) c.in-Some.field.now (fields_left c.next.new.self)
next c = next_field _ (λ x b q k. search (rules, tests)) c.loop-field.field-iterator c.next.new.self c.in-Some.field c.in-Some.ensures.steps

pub returns-in_err-number : goal.returns-in_err-number
returns-in_err-number c =
    subst (λ r. Collects [] (9 ∷ c.args.bytes.now) r) (sym c.from_residual.ensures)
    (c.loop-field.invariant.3 None (no_number c.loop-field.numbers _ c.in-Some.field.now _ (next (goal.at.returns-in_err-number c).In-Some) c.in_err-number.ensures))

pub loop-field-preserved : goal.loop-field-preserved
loop-field-preserved c = (
  search of_calls,
  tt,
  omega (arith, c.in_ok-push.ensures.0, ap (λ (ns : List ℕ). length ns) c.in_ok-push.ensures.1, length_push c.loop-field.numbers c.in_ok-number.field-0),
  λ r h. c.loop-field.invariant.3 r (one_more c.loop-field.numbers _ c.in-Some.field.now _ (next (goal.at.loop-field-preserved c).In-Some) _ c.in_ok-number.ensures r (subst (λ (ns : List ℕ). Collects ns (fields_left c.next.new.self) r) c.in_ok-push.ensures.1 h)),
)

pub returns : goal.returns
returns c = c.loop-field.invariant.3 (Some c.loop-field.numbers) (rw c.in-None.ensures.steps.0 (collected c.loop-field.numbers c.loop-field.invariant.2))
