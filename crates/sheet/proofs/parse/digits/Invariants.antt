use Rattle.std.proofs.Common.{◌≡◌, ◌≤◌, length}
use Rattle.sheet.specs.Numeral.{digits_from}
use Rattle.sheet.proofs.parse.digits.Given as goal

abbrev pub invariant-loop-rest : goal.invariant-loop-rest
invariant-loop-rest l = (l.n ≤ 4096) × (digits_from l.n l.rest ≡ digits_from 0 l.bytes)

abbrev pub decreases-loop-rest : goal.decreases-loop-rest
decreases-loop-rest l = length l.rest
