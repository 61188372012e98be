use Rattle.std.proofs.Common.{◌≡◌, ◌≤◌, ◌-◌, ◌*◌}
use Rattle.lot_sizing.specs.Sums.{sum_to}
use Rattle.plan_rules.specs.Held.{most_cost_at, plan_of}
use Rattle.plan_report.specs.Parts.{part_at}
use Rattle.plan_report.proofs.parts.part_of.Given as goal

-- the sum of the periods so far, and how large it can be
abbrev pub invariant-loop-period : goal.invariant-loop-period
invariant-loop-period l = (l.total ≡ sum_to (l.period - 1) (part_at l.instance (plan_of l.plan) l.part l.item)) × (l.total ≤ (l.period - 1) * most_cost_at)
