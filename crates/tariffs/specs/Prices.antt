-- Lists of prices.
use Rattle.std.specs.Prelude.{slice_index_or}
use Rattle.terms.specs.Gate.{by_width}
use Rattle.terms.specs.declared.StepKind.{StepKind}
use Rattle.terms.specs.declared.StepKind.TheVariants.{Single, Tuple, Bang, Grant, Gate}
use Rattle.tariffs.specs.declared.prices.PriceList.{PriceList}

-- The price of a step of a kind.
abbrev pub listed : {T : Type 0} → PriceList T → StepKind → T
listed p Single = p.classical
listed p Tuple = p.classical
listed p Bang = p.classical
listed p (Grant c) = p.grant
listed p (Gate g) = by_width (slice_index_or p.gates 0 p.classical) (slice_index_or p.gates 1 p.classical) (slice_index_or p.gates 2 p.classical) g
