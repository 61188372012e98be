use Rattle.std.proofs.Common.{◌≡◌, ◌≤◌, ◌-◌, ◌*◌}
use Rattle.std.specs.Prelude.{nat_le, ◌||◌, if◌then◌else◌}
use Rattle.lot_sizing.specs.Sums.{sum_to}
use Rattle.lot_sizing.specs.Problem.{entry}
use Rattle.echelon_rows.specs.declared.limits.TheConstants.{MAX_PRICE}
use Rattle.facility_form.proofs.gains.gain_of.Given as goal

abbrev pub invariant-loop-period : goal.invariant-loop-period
invariant-loop-period l = record {
  sum : l.sum ≡ sum_to (l.period - 1) (λ t. if l.backlogged || nat_le l.server t then entry l.net t * (entry l.price t - entry l.costs t) else 0);
  small : l.sum ≤ MAX_PRICE * sum_to (l.period - 1) (entry l.net);
}
