use Rattle.std.proofs.Common.{◌≡◌, ◌-◌, []}
use Rattle.lot_sizing.specs.Single.{unit_price}
use Rattle.echelon.specs.Views.{HasEach}
use Rattle.echelon_rows.specs.Rows.{single_with}
use Rattle.echelon_rows.proofs.serving.serving_prices.Given as goal

abbrev pub invariant-loop-period : goal.invariant-loop-period
invariant-loop-period l =
    let s = single_with [] [] l.unit l.hold l.back l.backlogged in
    record {
      each : HasEach (l.period - 1) (unit_price s l.server) l.list.items;
      price : l.price ≡ unit_price s l.server l.period;
    }
