use Rattle.std.proofs.Common.{◌^◌, ◌<◌, sym, arith}
use Rattle.chip.proofs.Masks.{counted_mask}
use Rattle.chip.proofs.mask.Mask.count.Goals as goal

pub returns : goal.returns
returns c =
    let m = c.args.self.0 in
    let fits : m < 2 ^ 64 = omega arith in
    sym (counted_mask m fits)
