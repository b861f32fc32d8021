use Rattle.std.proofs.Common.{Some, None, rules}
use Rattle.sheet.proofs.Numerals.{numeral_exact}
use Rattle.sheet.proofs.parse.number.Goals as goal

pub returns-in-48 : goal.returns-in-48
returns-in-48 c = numeral_exact c.args.bytes.now (Some 0) (search rules)

pub returns-in_default : goal.returns-in_default
returns-in_default c = numeral_exact c.args.bytes.now _ (search rules)

pub returns-in-empty : goal.returns-in-empty
returns-in-empty c = numeral_exact c.args.bytes.now None (search rules)

pub returns-in-empty-2 : goal.returns-in-empty-2
returns-in-empty-2 c = numeral_exact c.args.bytes.now None (search rules)
