use Rattle.std.proofs.Common.{◌≡◌, ◌-◌, ◌++◌, string_bytes}
use Rattle.lot_sizing.specs.Texts.{join_to}
use Rattle.plan_rules.specs.Held.{plan_of}
use Rattle.plan_page.specs.Resources.{resource_text}
use Rattle.plan_page.proofs.resources.add_resources.Given as goal

-- the sections so far
abbrev pub invariant-loop-resource : goal.invariant-loop-resource
invariant-loop-resource l = string_bytes l.text ≡ string_bytes l.fn.text ++ join_to (l.resource - 1) (resource_text l.instance (plan_of l.plan))
