use Rattle.std.proofs.Common.{◌-◌, [], length}
use Rattle.lot_sizing.specs.Sums.{sum_to}
use Rattle.lot_sizing.specs.Problem.{AllAtMost, entry}
use Rattle.echelon.specs.Views.{HasEach}
use Rattle.valid_inequalities.specs.Inequalities.{gain}
use Rattle.echelon_rows.specs.Rows.{single_with}
use Rattle.echelon_rows.specs.declared.limits.TheConstants.{MAX_STEP}
use Rattle.facility_form.proofs.gains.gains_of.Given as goal

abbrev pub invariant-loop-server : goal.invariant-loop-server
invariant-loop-server l = record {
  each : HasEach (l.server - 1) (λ u. sum_to (length l.net) (gain (single_with l.net [] l.prices.unit.items l.prices.hold.items l.prices.back.items l.backlogged) (entry l.prices.price.items) u)) l.list.items;
  small : AllAtMost MAX_STEP l.list.items;
}
