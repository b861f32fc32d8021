use Rattle.std.specs.Prelude.{◌≡◌}
use Rattle.std.specs.Option.{option_map}
use Rattle.std.proofs.Common.{sym, ap, ◌∙◌, rules}
use Rattle.std.proofs.lemmas.Iterator.{YieldsList-from_slice, YieldsList-from_map}
use Rattle.std.proofs.lemmas.Iterator.Consumers.{YieldsList-from_filter, YieldsList-at, min_from_yields_List}
use Rattle.std.proofs.lemmas.Iterator.Adapters.{option_map_id}
use Rattle.checker.specs.Found.{least_line}
use Rattle.checker.proofs.rules.first_line.Goals as goal

pub returns : goal.returns
returns g c = λ test tells.
    let least : option_map (λ l. l) c.min.result ≡ least_line test c.args.sites.now =
    min_from_yields_List _ c.min.result c.min.ensures.ran
    (YieldsList-from_map _ (λ x. x.line)
    (YieldsList-at c.map.ensures.source
    (YieldsList-from_filter _ test (YieldsList-from_slice c.args.sites.now (cc)) c.filter.ensures.closure (λ x b q k.
    (ap (λ y. record { 0 = y }) k.called.met.0, tells x.now b (record { shown = k.shown.now; shows = ap (λ y. y.now) k.shows; says = record { met = k.called.met.1 } }))))) c.map.ensures.closure (λ x r q k. search rules)) in
    sym (option_map_id c.min.result) ∙ least
