use Rattle.checker.proofs.Checking.{judged_decided}
use Rattle.checker.proofs.verdict.Goals as goal

pub returns : goal.returns
returns c = judged_decided c.args.program.now c.judge.result (rw (← c.note.ensures.roles, ← c.note.ensures.lines) c.judge.ensures)
