use Rattle.std.proofs.Common.{[], length, take, vec_items}
use Rattle.checker.specs.Found.{roles}
use Rattle.checker.specs.Counts.{Counts}
use Rattle.checker.proofs.counts.UseCounts.count.Given as goal

abbrev pub invariant-loop-site : goal.invariant-loop-site
invariant-loop-site l = Counts [] (roles l.sites) (vec_items l.self.rows) l.site-index

abbrev pub invariant-loop-site-2 : goal.invariant-loop-site-2
invariant-loop-site-2 l = Counts (take l.site-index (roles l.sites)) (roles l.sites) (vec_items l.self.rows) (length (roles l.sites))
