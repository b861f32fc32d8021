use Rattle.std.proofs.Common.{arith}
use Rattle.std.proofs.lemmas.Bool.Decides.{nat_tests}
use Rattle.sheet.proofs.Shaping.{misfit}
use Rattle.sheet.proofs.parse.shaped.Goals as goal

pub returns-in_default : goal.returns-in_default
returns-in_default c =
    misfit c.args.letter c.args.numbers (λ i n p q. grind (arith, nat_tests)) (λ i n p. grind (arith, nat_tests)) (λ i n p. grind (arith, nat_tests)) (λ i n p. grind (arith, nat_tests)) (λ i n p. grind (arith, nat_tests)) (λ i n p q. grind (arith, nat_tests)) (λ i n p. grind (arith, nat_tests)) (λ i n p q. grind (arith, nat_tests))
