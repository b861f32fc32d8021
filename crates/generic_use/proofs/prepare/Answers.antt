use Rattle.std.proofs.Common.{false, [], ◌∷◌}
use Rattle.terms.specs.declared.Gate.TheVariants.{H}
use Rattle.machines.specs.Machine.{gate_made}
use Rattle.machines.specs.Operation.{granted}
use Rattle.generic_use.proofs.Preparing.{never_misnamed}
use Rattle.generic_use.proofs.prepare.Goals as goal

pub returns : goal.returns
returns g c =
    let M = g.M.GateMachine in
    let between = c.grant.new.self in
    let after = c.apply-gate.new.self in
    let w = c.in_ok-wire.wire.number in
    let wire = c.in_ok-wire.ensures in
    let gate = c.apply-gate.ensures in
    record {
      prepares = record {
        between = M.meaning between;
        grants = wire.grants;
        applies = gate.applies;
        named = never_misnamed false w c.apply-gate.result _ _ _ wire.grants gate.applies;
      };
      makes = g.met.M.GateMachine.goes c.args.machine.now between after (granted false w ∷ []) (gate_made H (w ∷ []) c.apply-gate.result) wire.makes gate.makes;
    }
