use Rattle.std.proofs.Common.{◌≡◌, ◌≤◌, ◌-◌, ◌*◌, ◌^◌}
use Rattle.lot_sizing.specs.Sums.{sum_to}
use Rattle.lot_sizing.specs.Problem.{capacity}
use Rattle.lot_sizing.specs.Plan.{time_used}
use Rattle.plan_rules.specs.Held.{most_time, plan_of}
use Rattle.plan_page.proofs.totals.resource_load.Given as goal

-- the totals of the periods so far, and how large they can be
abbrev pub invariant-loop-period : goal.invariant-loop-period
invariant-loop-period l = record {
  used : l.load.used ≡ sum_to (l.period - 1) (time_used l.instance (plan_of l.plan) l.resource);
  capacity : l.load.capacity ≡ sum_to (l.period - 1) (capacity l.instance l.resource);
  small : l.load.used ≤ (l.period - 1) * most_time;
  few : l.load.capacity ≤ (l.period - 1) * 2 ^ 64;
}
