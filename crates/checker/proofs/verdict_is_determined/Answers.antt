use Rattle.checker.proofs.Deciding as deciding
use Rattle.checker.proofs.verdict_is_determined.Goals as goal

pub returns : goal.returns
returns c = deciding.verdict_is_determined
