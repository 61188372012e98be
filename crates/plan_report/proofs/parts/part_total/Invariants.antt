use Rattle.std.proofs.Common.{◌≡◌, ◌≤◌, ◌-◌, ◌*◌, ◌^◌}
use Rattle.lot_sizing.specs.Sums.{sum_to}
use Rattle.plan_rules.specs.Held.{plan_of}
use Rattle.plan_report.specs.Parts.{part_of}
use Rattle.plan_report.proofs.parts.part_total.Given as goal

-- the sum of the items so far, and how large it can be
abbrev pub invariant-loop-item : goal.invariant-loop-item
invariant-loop-item l = (l.total ≡ sum_to (l.item - 1) (part_of l.instance (plan_of l.plan) l.part)) × (l.total ≤ (l.item - 1) * 2 ^ 106)
