use Rattle.examples.proofs.Verdicts.{table}
use Rattle.examples.proofs.examples_hold.Goals as goal

pub returns : goal.returns
returns c = table
