use Rattle.std.proofs.Common.{eqb, ◌∙◌, rules, tests}
use Rattle.std.proofs.lemmas.Iterator.{YieldsList-from_slice}
use Rattle.std.proofs.lemmas.Iterator.Consumers.{YieldsList-at, YieldsList-from_filter, count_from_yields_List}
use Rattle.sheet.proofs.Times.{length-filter}
use Rattle.sheet.proofs.lines.count_line_ends.Goals as goal

pub returns : goal.returns
returns c =
    count_from_yields_List c.filter.result c.count.result c.count.ensures.ran
    (YieldsList-from_filter _ (λ b. eqb b 10) (YieldsList-at c.filter.ensures.source (YieldsList-from_slice c.args.bytes.now cc)) c.filter.ensures.closure (λ x r q k. search (rules, tests)))
    ∙ length-filter 10 c.args.bytes.now
