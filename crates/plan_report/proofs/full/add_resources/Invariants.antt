use Rattle.std.proofs.Common.{◌≡◌, ◌-◌, ◌++◌, string_bytes}
use Rattle.lot_sizing.specs.Texts.{join_to}
use Rattle.plan_rules.specs.Held.{plan_of}
use Rattle.plan_report.specs.Full.{resource_entry}
use Rattle.plan_report.proofs.full.add_resources.Given as goal

-- the resources so far
abbrev pub invariant-loop-resource : goal.invariant-loop-resource
invariant-loop-resource l = string_bytes l.text ≡ string_bytes l.fn.text ++ join_to (l.resource - 1) (resource_entry l.instance (plan_of l.plan))
