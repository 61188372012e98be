use Rattle.std.proofs.Common.{◌≡◌, ◌≤◌, ◌+◌, ◌-◌, ◌*◌, ◌^◌}
use Rattle.lot_sizing.specs.Sums.{sum_to}
use Rattle.lot_sizing.specs.Problem.{demand}
use Rattle.lot_sizing.specs.Plan.{used_up}
use Rattle.plan_rules.specs.Held.{most_used_up, plan_of}
use Rattle.plan_page.proofs.totals.item_amounts.Given as goal

-- the totals of the periods so far, and how large they can be
abbrev pub invariant-loop-period : goal.invariant-loop-period
invariant-loop-period l = record {
  demand : l.amounts.demand ≡ sum_to (l.period - 1) (demand l.instance l.item);
  used : l.amounts.used ≡ sum_to (l.period - 1) (used_up l.instance (plan_of l.plan).make l.item);
  made : l.amounts.made ≡ sum_to (l.period - 1) ((plan_of l.plan).make l.item);
  setups : l.amounts.setups ≡ sum_to (l.period - 1) ((plan_of l.plan).setup l.item);
  small : l.amounts.used ≤ (l.period - 1) * most_used_up;
  few : l.amounts.demand + l.amounts.made + l.amounts.setups ≤ (l.period - 1) * (3 * 2 ^ 64);
}
