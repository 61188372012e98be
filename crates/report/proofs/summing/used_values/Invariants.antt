use Rattle.std.proofs.Common.{◌≡◌, ◌-◌, map}
use Rattle.serde_json.specs.View.{view}
use Rattle.lot_sizing.specs.Plan.{time_used}
use Rattle.plan_rules.specs.Held.{plan_of}
use Rattle.report.specs.Summary.{amount, list_to}
use Rattle.report.proofs.summing.used_values.Given as goal

abbrev pub invariant-loop-period : goal.invariant-loop-period
invariant-loop-period l = map view l.list.items ≡ list_to (l.period - 1) (λ t. amount (time_used l.instance (plan_of l.plan) l.resource t))
