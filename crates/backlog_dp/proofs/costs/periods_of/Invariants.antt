use Rattle.std.proofs.Common.{◌≡◌, ◌-◌, [], false}
use Rattle.lot_sizing.specs.Single.{positions_to}
use Rattle.echelon_rows.specs.Rows.{single_with}
use Rattle.backlog_dp.proofs.costs.periods_of.Given as goal

abbrev pub invariant-loop-period : goal.invariant-loop-period
invariant-loop-period l = l.periods.items ≡ positions_to (single_with l.net [] [] [] [] false) (l.period - 1)
