use Rattle.std.proofs.Common.{◌-◌, length, vec_len}
use Rattle.checker.proofs.walk.Walk.+note_terms.Given as goal

abbrev pub decreases-note_terms : goal.decreases-note_terms
decreases-note_terms l = length l.table.now - vec_len l.self.now.sites
