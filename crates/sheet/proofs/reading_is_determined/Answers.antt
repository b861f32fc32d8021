use Rattle.sheet.proofs.Determined as determined
use Rattle.sheet.proofs.reading_is_determined.Goals as goal

pub returns : goal.returns
returns c = determined.reading_is_determined
