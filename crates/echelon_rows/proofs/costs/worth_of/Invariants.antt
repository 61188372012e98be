use Rattle.std.proofs.Common.{◌≡◌, ◌≤◌, ◌-◌, ◌*◌}
use Rattle.lot_sizing.specs.Sums.{sum_to}
use Rattle.lot_sizing.specs.Problem.{entry}
use Rattle.echelon_rows.specs.declared.limits.TheConstants.{MAX_PRICE}
use Rattle.echelon_rows.proofs.costs.worth_of.Given as goal

abbrev pub invariant-loop-period : goal.invariant-loop-period
invariant-loop-period l = record {
  sum : l.sum ≡ sum_to (l.period - 1) (λ t. entry l.net t * entry l.price t);
  small : l.sum ≤ MAX_PRICE * sum_to (l.period - 1) (entry l.net);
}
