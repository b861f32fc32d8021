use Rattle.terms.proofs.Parsing as parsing
use Rattle.terms.proofs.table_has_one_tree.Goals as goal

pub returns : goal.returns
returns c = parsing.table_has_one_tree
