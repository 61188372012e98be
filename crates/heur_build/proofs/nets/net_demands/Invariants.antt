use Rattle.std.proofs.Common.{◌≡◌, ◌≤◌, ◌+◌, ◌-◌, ◌*◌}
use Rattle.lot_sizing.specs.declared.limits.TheConstants.{MAX_AMOUNT}
use Rattle.lot_sizing.specs.Sums.{sum_to}
use Rattle.lot_sizing.specs.Problem.{demand}
use Rattle.lot_sizing.specs.Plan.{used_up}
use Rattle.lot_sizing.specs.Net.{needed_to, net_in}
use Rattle.echelon.specs.Views.{HasEach}
use Rattle.plan_rules.specs.Cells.{table_of}
use Rattle.plan_rules.specs.Held.{most_used_up}
use Rattle.own_plan.specs.OwnPeriod.{asked_with}
use Rattle.heur_build.proofs.nets.net_demands.Given as goal

abbrev pub invariant-loop-period : goal.invariant-loop-period
invariant-loop-period l = record {
  asked : l.asked ≡ sum_to (l.period - 1) (λ u. demand l.instance l.item u + used_up l.instance (table_of l.make) l.item u);
  asked_small : l.asked ≤ (l.period - 1) * (MAX_AMOUNT + most_used_up);
  before : l.period ≤ l.instance.periods → l.before ≡ needed_to (asked_with l.instance (table_of l.make) l.item) (l.period - 1);
  nets : HasEach (l.period - 1) (net_in (asked_with l.instance (table_of l.make) l.item)) l.list.items;
}
