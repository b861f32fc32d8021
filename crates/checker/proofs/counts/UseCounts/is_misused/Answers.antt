use Rattle.std.proofs.Common.{◌<◌, eqb, not, length, get_or, take, [], rules, arith, ◌∙◌, ap, subst}
use borrow.Author.Tests.{tests}
use Rattle.std.proofs.lemmas.List.{get_or_read}
use Rattle.std.proofs.lemmas.Iterator.{YieldsList-from_slice}
use Rattle.std.proofs.lemmas.Iterator.Search.{any_from_yields_List}
use Rattle.checker.specs.Roles.{Ranged}
use Rattle.checker.proofs.counts.UseCounts.is_misused.Goals as goal

pub returns-in-Opening : goal.returns-in-Opening
returns-in-Opening c =
    let rows = c.args.self.now.rows.items in
    let g = subst Ranged c.in-Opening.is c.args.site.now.ranged in
    let low : c.in-Opening.number < length rows = omega (arith, g.0, c.args.self.now.room, c.args.self.now.rows.ok.0) in
    let r = get_or_read rows c.in-Opening.number c.index.result.now low c.index.ensures [] in
    rw c.in-Opening.is (any_from_yields_List (λ u. not (eqb u 1)) _ _ _ c.any.ensures.ran (YieldsList-from_slice (take c.in-Opening.pattern (get_or rows c.in-Opening.number [])) (c.iter.ensures.rest ∙ ap (take c.in-Opening.pattern) r)) (λ x b q k. search (rules, tests)))
