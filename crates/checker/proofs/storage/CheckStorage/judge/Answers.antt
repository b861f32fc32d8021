use Rattle.std.proofs.Common.{None, rules}
use Rattle.sheet.specs.declared.refusal.Rule.TheVariants.{Unbound, Misused, Shut, Repeated}
use Rattle.checker.specs.Roles.{unbound_role, shut_role}
use Rattle.checker.specs.Found.{roles, site_lines, Found, UnboundSite, ShutSite}
use Rattle.checker.specs.Counts.{MisuseSite, misused_role}
use Rattle.checker.specs.Judged.{Judged}
use Rattle.checker.proofs.Counting.{misused_found}
use Rattle.checker.proofs.Judging.{unbound_found, shut_found, kept, refused, answered}
use Rattle.checker.proofs.storage.CheckStorage.judge.Goals.{After-first_line, After-first_line-2, After-first_line-3, In_ok-broken_at, In_ok-broken_at-2, In_ok-broken_at-3}
use Rattle.checker.proofs.storage.CheckStorage.judge.Goals as goal

-- What the first line of each rule says,
unbound_here : (c : After-first_line) → let xs = c.args.self.now.walk.sites.items in Found (UnboundSite (roles xs)) (site_lines xs) c.first_line.result
unbound_here c = rw (c.first_line.ensures (λ x. unbound_role x.role) (λ site told k. rw (← k.shows) (search rules)), c.sites-sites.ensures) (unbound_found c.args.self.now.walk.sites.items)

misused_here : (c : After-first_line-2) → let xs = c.args.self.now.walk.sites.items in Found (MisuseSite (roles xs)) (site_lines xs) c.first_line-2.result
misused_here c =
    let C = c.count.new.self.rows.items in
    rw (c.first_line-2.ensures (λ x. misused_role C x.role) (λ site told k. rw (← k.shows) (search rules)), c.sites-sites.ensures) (misused_found c.args.self.now.walk.sites.items C (rw c.sites-sites.ensures at c.count.ensures))

shut_here : (c : After-first_line-3) → let xs = c.args.self.now.walk.sites.items in Found (ShutSite (roles xs)) (site_lines xs) c.first_line-3.result
shut_here c = rw (c.first_line-3.ensures (λ x. shut_role x.role) (λ site told k. rw (← k.shows) (search rules)), c.sites-sites.ensures) (shut_found c.args.self.now.walk.sites.items)

-- and what it says where the rule is kept.
no_unbound : (c : In_ok-broken_at) → let xs = c.args.self.now.walk.sites.items in Found (UnboundSite (roles xs)) (site_lines xs) c.first_line.result → Found (UnboundSite (roles xs)) (site_lines xs) None
no_unbound c f = kept Unbound c.broken_at.result c.first_line.result _ _ c.in_ok-broken_at.field-0 c.broken_at.ensures c.in_ok-broken_at.was f

no_misused : (c : In_ok-broken_at-2) → let xs = c.args.self.now.walk.sites.items in Found (MisuseSite (roles xs)) (site_lines xs) c.first_line-2.result → Found (MisuseSite (roles xs)) (site_lines xs) None
no_misused c f = kept Misused c.broken_at-2.result c.first_line-2.result _ _ c.in_ok-broken_at-2.field-0 c.broken_at-2.ensures c.in_ok-broken_at-2.was f

no_shut : (c : In_ok-broken_at-3) → let xs = c.args.self.now.walk.sites.items in Found (ShutSite (roles xs)) (site_lines xs) c.first_line-3.result → Found (ShutSite (roles xs)) (site_lines xs) None
no_shut c f = kept Shut c.broken_at-3.result c.first_line-3.result _ _ c.in_ok-broken_at-3.field-0 c.broken_at-3.ensures c.in_ok-broken_at-3.was f

pub returns-in_err-broken_at : goal.returns-in_err-broken_at
returns-in_err-broken_at c =
    let here = goal.at.returns-in_err-broken_at c in
    let xs = c.args.self.now.walk.sites.items in
    refused Unbound c.from_residual.result c.first_line.result (Judged (roles xs) (site_lines xs)) c.in_err-broken_at.field-0.0 (search rules) (search rules) (λ l s. rw s at (unbound_here here.After-first_line))

pub returns-in_err-broken_at-2 : goal.returns-in_err-broken_at-2
returns-in_err-broken_at-2 c =
    let here = goal.at.returns-in_err-broken_at-2 c in
    let xs = c.args.self.now.walk.sites.items in
    let u = no_unbound here.In_ok-broken_at (unbound_here here.After-first_line) in
    refused Misused c.from_residual-in_err-broken_at-2.result c.first_line-2.result (Judged (roles xs) (site_lines xs)) c.in_err-broken_at-2.field-0.0 (search rules) (search rules) (λ l s. (u, rw s at (misused_here here.After-first_line-2)))

pub returns-in_err-broken_at-3 : goal.returns-in_err-broken_at-3
returns-in_err-broken_at-3 c =
    let here = goal.at.returns-in_err-broken_at-3 c in
    let xs = c.args.self.now.walk.sites.items in
    let u = no_unbound here.In_ok-broken_at (unbound_here here.After-first_line) in
    let m = no_misused here.In_ok-broken_at-2 (misused_here here.After-first_line-2) in
    refused Shut c.from_residual-in_err-broken_at-3.result c.first_line-3.result (Judged (roles xs) (site_lines xs)) c.in_err-broken_at-3.field-0.0 (search rules) (search rules) (λ l s. (u, m, rw s at (shut_here here.After-first_line-3)))

pub returns : goal.returns
returns c =
    let here = goal.at.returns c in
    let xs = c.args.self.now.walk.sites.items in
    let u = no_unbound here.In_ok-broken_at (unbound_here here.After-first_line) in
    let m = no_misused here.In_ok-broken_at-2 (misused_here here.After-first_line-2) in
    let n = no_shut here.In_ok-broken_at-3 (shut_here here.After-first_line-3) in
    let k = rw c.sites-sites.ensures at c.first_repeated.ensures.found in
    answered Repeated c.broken_at-4.result c.first_repeated.result (Judged (roles xs) (site_lines xs)) c.broken_at-4.ensures (λ s. (u, m, n, rw s at k)) (λ l s. (u, m, n, rw s at k))
