use Rattle.std.proofs.Common.{◌≡◌, ◌^◌, ◌<◌, subst, arith}
use Rattle.std.proofs.lemmas.Option.{MatchOption-at_some}
use Rattle.chip.specs.Chip.{in_mask, HighestFree}
use Rattle.chip.proofs.Masks.{highest_bit, not_full, counted_mask}
use Rattle.chip.proofs.mask.Mask.highest_free.Goals as goal

pub overflow_sub-zeros : goal.overflow_sub-zeros
overflow_sub-zeros c =
    let m = c.args.self.0 in
    let fits : m < 2 ^ 64 = omega arith in
    let t = highest_bit m (not_full m fits (omega (arith, counted_mask m fits, c.requires))) in
    omega (arith, t.1)

pub returns : goal.returns
returns c =
    let m = c.args.self.0 in
    let fits : m < 2 ^ 64 = omega arith in
    let t = highest_bit m (not_full m fits (omega (arith, counted_mask m fits, c.requires))) in
    let made = MatchOption-at_some _ _ c.unwrap.result c.unwrap.ensures c.new.ensures in
    let e : t.0 ≡ c.unwrap.result.number = omega (arith, t.1, made.1) in
    subst (HighestFree (in_mask m)) e t.2
