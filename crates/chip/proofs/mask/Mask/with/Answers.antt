use Rattle.std.proofs.Common.{◌*◌, ◌%◌, ◌^◌, ap, ◌∙◌}
use lib.Bits.{bit_or}
use Rattle.std.proofs.lemmas.Nat.{one_shl}
use Rattle.chip.specs.Chip.{in_mask}
use Rattle.chip.proofs.Masks.{mask_with}
use Rattle.chip.proofs.mask.Mask.with.Goals as goal

pub returns : goal.returns
returns c =
    let j = c.args.wire.number in
    ap (λ n. in_mask (bit_or c.args.self.0 ((1 * 2 ^ n) % 2 ^ 64))) c.number.ensures
    ∙ ap (λ x. in_mask (bit_or c.args.self.0 x)) (one_shl j 64 c.requires) ∙ mask_with c.args.self.0 j c.requires
