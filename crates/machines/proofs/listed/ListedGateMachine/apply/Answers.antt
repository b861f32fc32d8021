use Rattle.std.proofs.Common.{map}
use Rattle.machines.specs.Operation.{number}
use Rattle.machines.proofs.listed.ListedGateMachine.apply.Goals as goal

pub returns-clause-makes : goal.returns-clause-makes
returns-clause-makes g c =
    let ws = map number c.args.wires.now in
    record { wires = c.apply.ensures.takes ws; made = c.apply.ensures.counts ws; list = c.apply.ensures.writes ws c.named-named.ensures }
