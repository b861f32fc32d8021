-- A tariff whose prices are data.
use Rattle.std.specs.Prelude.{ℕ}
use Rattle.terms.specs.declared.StepKind.{StepKind}
use Rattle.tariffs.specs.Money.{amount, sum}
use Rattle.tariffs.specs.Prices.{listed}
use Rattle.tariffs.specs.Tariff.{Prices}
use Rattle.tariffs.specs.declared.cents.Cents.{Cents}
use Rattle.generic_use.specs.declared.rates.Rates.{Rates}

-- Classical steps are free.
abbrev pub rate_of : Rates → StepKind → ℕ
rate_of r = listed (record { classical = 0; grant = r.grant; gates = r.gates })

abbrev pub rates : Rates → Prices Cents
rates r = record { zero = amount 0; join = sum; charge = λ k. amount (rate_of r k) }
