use Rattle.std.proofs.Common.{◌≡◌, refl, arith, rules}
use Rattle.numbered.proofs.Numbers.{all_held, next_taken}
use Rattle.numbered.proofs.numbering.NumberingWires.take.Goals as goal

pub returns-then-self-min-clause-supply : goal.returns-then-self-min-clause-supply
returns-then-self-min-clause-supply c = (all_held c.args.self.now (omega arith), refl)

pub returns-clause-supply : goal.returns-clause-supply
returns-clause-supply c =
    let wire : c.unwrap-wire.result.number ≡ c.args.self.now.next = search rules in
    next_taken c.args.self.now _ _ wire (omega arith) refl (omega arith)
