use Rattle.theory.proofs.Equivalence.{needs_determined}
use Rattle.theory.proofs.Tested.{accepted_is_proper, accepted_is_tested}
use Rattle.theory.proofs.acceptance_is_decided.Goals as goal

pub returns : goal.returns
returns c = record { proper = accepted_is_proper; tested = accepted_is_tested; determined = needs_determined }
