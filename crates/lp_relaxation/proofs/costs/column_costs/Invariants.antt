use Rattle.std.proofs.Common.{◌-◌}
use Rattle.lp_relaxation.specs.Costs.{AreFirstCosts}
use Rattle.lp_relaxation.proofs.costs.column_costs.Given as goal

abbrev pub invariant-loop-number : goal.invariant-loop-number
invariant-loop-number l = AreFirstCosts l.instance (l.number - 1) l.costs.items
