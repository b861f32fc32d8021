use Rattle.std.proofs.Common.{◌≡◌, ℕ, ◌+◌, ◌≤◌, List, Option, length, vec_items, sym, subst, rules, arith}
use Rattle.checker.specs.declared.site.Site.{Site}
use Rattle.checker.specs.Found.{roles, site_lines}
use Rattle.checker.specs.Firsts.{repeated_role}
use Rattle.checker.proofs.Sited.{role_is, line_is}
use Rattle.checker.proofs.Noting.{Firsts, Wiped, noted_more, repeats_found, wiped_more}
use Rattle.checker.proofs.firsts.FirstLines.first_repeated.Goals as goal

pub loop-site-preserved : goal.loop-site-preserved
loop-site-preserved c =
    let r = role_is c.args.sites.now c.loop-site.site-index c.site-item.result c.loop-site-test.true c.site-item.is in
    let l = line_is c.args.sites.now c.loop-site.site-index c.site-item.result c.loop-site-test.true c.site-item.is in
    let room : 4096 ≤ length (vec_items c.loop-site.self.lines) = omega (arith, c.loop-site.self.room, c.loop-site.self.lines.ok.0) in
    subst (λ (F : List (Option ℕ)). Firsts (roles c.args.sites.now) (site_lines c.args.sites.now) F (c.loop-site.site-index + 1)) (sym c.note.ensures)
    (noted_more (roles c.args.sites.now) (site_lines c.args.sites.now) (vec_items c.loop-site.self.lines) c.loop-site.site-index c.loop-site.invariant c.site-item.result.role c.site-item.result.line r l room c.site-item.result.ranged)

pub loop-site-2-preserved : goal.loop-site-2-preserved
loop-site-2-preserved c =
    let r = role_is c.args.sites.now c.loop-site-2.site-index c.site-item-in-loop-site-2.result c.loop-site-2-test.true c.site-item-in-loop-site-2.is in
    subst (λ (F : List (Option ℕ)). Wiped (roles c.args.sites.now) F (c.loop-site-2.site-index + 1)) (sym c.wipe.ensures)
    (wiped_more (roles c.args.sites.now) (vec_items c.loop-site-2.self.lines) c.loop-site-2.site-index c.site-item-in-loop-site-2.result.role r c.loop-site-2.invariant)

pub returns-clause-found : goal.returns-clause-found
returns-clause-found c =
    let xs = c.args.sites.now in
    let F = vec_items c.loop-site.self.lines in
    let test = λ (x : Site). repeated_role F x.role x.line in
    let e = c.first_line-repeated.ensures test (λ site told k. rw (← k.shows) (search rules)) in
    let k : c.loop-site.site-index ≡ length xs = omega (arith, c.loop-site.auto.site-index-end, c.loop-site-test.false) in
    rw e (repeats_found xs F (omega (arith, c.loop-site.self.room, c.loop-site.self.lines.ok.0)) (rw (← k) c.loop-site.invariant))
