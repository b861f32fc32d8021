use Rattle.std.proofs.Common.{◌≡◌, take}
use Rattle.board.specs.Account.{counted}
use Rattle.board.proofs.account.count_kinds.Given as goal

abbrev pub invariant-loop-located : goal.invariant-loop-located
invariant-loop-located l = l.counts ≡ counted (take l.located-index l.table)
