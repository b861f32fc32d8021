use Rattle.std.proofs.Common.{◌≡◌, ℕ, ◌+◌, ◌≤◌, List, [], length, take, vec_items, sym, subst, arith}
use Rattle.std.proofs.lemmas.List.{length-map}
use Rattle.checker.specs.Found.{roles}
use Rattle.checker.specs.Counts.{Counts}
use Rattle.checker.proofs.Sited.{role_is}
use Rattle.checker.proofs.Counting.{cleared_more, counted_more, countable}
use Rattle.checker.proofs.counts.UseCounts.count.Goals as goal

pub loop-site-preserved : goal.loop-site-preserved
loop-site-preserved c =
    let xs = roles c.args.sites.now in
    let e = role_is c.args.sites.now c.loop-site.site-index c.site-item.result c.loop-site-test.true c.site-item.is in
    let room : 4096 ≤ length (vec_items c.loop-site.self.rows) = omega (arith, c.loop-site.self.room, c.loop-site.self.rows.ok.0) in
    subst (λ (C : List (List ℕ)). Counts [] xs C (c.loop-site.site-index + 1)) (sym c.clear.ensures)
    (cleared_more xs (vec_items c.loop-site.self.rows) c.loop-site.site-index c.loop-site.invariant c.site-item.result.role e room c.site-item.result.ranged)

pub note-requires : goal.note-requires
note-requires c =
    let xs = roles c.args.sites.now in
    let l : length xs ≡ length c.args.sites.now = length-map c.args.sites.now (λ x. x.role) in
    let e = role_is c.args.sites.now c.loop-site-2.site-index c.site-item-in-loop-site-2.result c.loop-site-2-test.true c.site-item-in-loop-site-2.is in
    countable xs (vec_items c.loop-site-2.self.rows) c.loop-site-2.site-index (omega (arith, l, c.loop-site-2-test.true)) c.loop-site-2.invariant c.site-item-in-loop-site-2.result.role e (omega (arith, l, c.requires)) c.site-item-in-loop-site-2.result.ranged

pub loop-site-2-preserved : goal.loop-site-2-preserved
loop-site-2-preserved c =
    let xs = roles c.args.sites.now in
    let l : length xs ≡ length c.args.sites.now = length-map c.args.sites.now (λ x. x.role) in
    let room : 4096 ≤ length (vec_items c.loop-site-2.self.rows) = omega (arith, c.loop-site-2.self.room, c.loop-site-2.self.rows.ok.0) in
    let e = role_is c.args.sites.now c.loop-site-2.site-index c.site-item-in-loop-site-2.result c.loop-site-2-test.true c.site-item-in-loop-site-2.is in
    subst (λ (C : List (List ℕ)). Counts (take (c.loop-site-2.site-index + 1) xs) xs C (length xs)) (sym c.note.ensures)
    (counted_more xs (vec_items c.loop-site-2.self.rows) c.loop-site-2.site-index (omega (arith, l, c.loop-site-2-test.true)) c.loop-site-2.invariant c.site-item-in-loop-site-2.result.role e room c.site-item-in-loop-site-2.result.ranged)
