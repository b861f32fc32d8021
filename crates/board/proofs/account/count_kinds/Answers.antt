use Rattle.std.proofs.Common.{arith}
use Rattle.board.proofs.Counting.{counted_more}
use Rattle.board.proofs.account.count_kinds.Goals as goal

pub loop-located-preserved : goal.loop-located-preserved
loop-located-preserved c = counted_more c.args.table.now c.loop-located.located-index _ c.loop-located.counts c.place.result (omega arith) c.place.ensures.value c.loop-located.invariant
