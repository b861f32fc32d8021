use Rattle.std.proofs.Common.{◌≡◌, ◌-◌, ◌<◌, Bool, true, false, length, MatchOption, sym, subst, rules, tests}
use Rattle.std.specs.List.{AllWithin, HoldsAt}
use Rattle.std.proofs.lemmas.Iterator.{YieldsList-from_slice, IsFirst-from_position}
use Rattle.sheet.specs.Uses.{FirstUnused}
use Rattle.sheet.proofs.Marking.{inner, first_unmarked}
use Rattle.sheet.proofs.uses.first_unused.Goals as goal
use Rattle.sheet.proofs.uses.first_unused.Goals.{After-position}

-- Where the first line without a mark stands.
found : (c : goal.After-position) → MatchOption c.position.result (AllWithin (λ u. u ≡ true) (inner c.args.used.now) 0 (length (inner c.args.used.now))) (λ i. (i < length (inner c.args.used.now)) × HoldsAt (λ u. u ≡ false) (inner c.args.used.now) i × AllWithin (λ u. u ≡ true) (inner c.args.used.now) 0 i)
found c = IsFirst-from_position _ _ c.position.result (λ (u : Bool). u ≡ false) (λ (u : Bool). u ≡ true) c.position.ensures.ran (YieldsList-from_slice (inner c.args.used.now) c.iter.ensures.rest) (λ x q k. search (rules, tests)) (λ x q k. search (rules, tests))

pub returns-in_err-unused : goal.returns-in_err-unused
returns-in_err-unused c = λ ws m.
    let f = first_unmarked c.args.used.now ws m c.position.result (found (goal.at.returns-in_err-unused c).After-position) in
    subst (λ r. FirstUnused (length c.args.used.now - 1) ws r) (sym c.from_residual.ensures) (rw c.in_err-unused.was at f)

pub returns : goal.returns
returns c = λ ws m.
    let f = first_unmarked c.args.used.now ws m c.position.result (found (goal.at.returns c).After-position) in
    rw c.in_ok-unused.was at f
