use Rattle.std.proofs.Common.{◌≡◌, ◌-◌, map}
use Rattle.serde_json.specs.View.{view}
use Rattle.plan_rules.specs.Held.{plan_of}
use Rattle.report.specs.Summary.{item_data, list_to}
use Rattle.report.proofs.summing.item_values.Given as goal

abbrev pub invariant-loop-item : goal.invariant-loop-item
invariant-loop-item l = map view l.list.items ≡ list_to (l.item - 1) (item_data l.instance (plan_of l.plan))
