use Rattle.std.proofs.Common.{◌≡◌, ◌≤◌, ◌+◌, ◌-◌, ◌*◌}
use Rattle.std.specs.Prelude.{Some, None, if◌then◌else◌}
use Rattle.lot_sizing.specs.Sums.{sum_to}
use Rattle.lot_sizing.specs.Problem.{backlog_price, entry}
use Rattle.echelon_rows.specs.declared.limits.TheConstants.{MAX_PRICE}
use Rattle.echelon_rows.proofs.serving.first_price.Given as goal

abbrev pub invariant-loop-period : goal.invariant-loop-period
invariant-loop-period l = record {
  price : l.price ≡ entry l.unit l.server + sum_to (l.period - 1) (backlog_price (if l.backlogged then Some l.back else None));
  small : l.price ≤ l.period * MAX_PRICE;
}
