use Rattle.std.proofs.Common.{vec_items}
use Rattle.checker.specs.Found.{roles, site_lines}
use Rattle.checker.proofs.Noting.{Firsts, Wiped}
use Rattle.checker.proofs.firsts.FirstLines.first_repeated.Given as goal

abbrev pub invariant-loop-site : goal.invariant-loop-site
invariant-loop-site l = Firsts (roles l.sites) (site_lines l.sites) (vec_items l.self.lines) l.site-index

abbrev pub invariant-loop-site-2 : goal.invariant-loop-site-2
invariant-loop-site-2 l = Wiped (roles l.sites) (vec_items l.self.lines) l.site-index
