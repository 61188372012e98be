use Rattle.std.proofs.Common.{◌≡◌, ◌-◌, ◌++◌, string_bytes}
use Rattle.lot_sizing.specs.Texts.{join_to}
use Rattle.plan_page.specs.Framing.{resource_link}
use Rattle.plan_page.proofs.framing.add_resources.Given as goal

-- the links so far
abbrev pub invariant-loop-resource : goal.invariant-loop-resource
invariant-loop-resource l = string_bytes l.text ≡ string_bytes l.fn.text ++ join_to (l.resource - 1) (resource_link l.instance)
