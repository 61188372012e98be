use Rattle.std.proofs.Common.{◌≡◌, ◌-◌, map}
use Rattle.serde_json.specs.View.{view}
use Rattle.plan_rules.specs.Held.{plan_of}
use Rattle.report.specs.Summary.{resource_data, list_to}
use Rattle.report.proofs.summing.resource_values.Given as goal

abbrev pub invariant-loop-resource : goal.invariant-loop-resource
invariant-loop-resource l = map view l.list.items ≡ list_to (l.resource - 1) (resource_data l.instance (plan_of l.plan))
