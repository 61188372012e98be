use Rattle.std.proofs.Common.{◌≡◌, ◌-◌, map, take}
use Rattle.lot_draft.specs.Raw.{raw_resource}
use Rattle.replan.specs.Capped.{resource_drafted}
use Rattle.replan.proofs.drafting.resources.Given as goal

abbrev pub invariant-loop-number : goal.invariant-loop-number
invariant-loop-number l = map raw_resource l.list.items ≡ map (resource_drafted l.first) (take (l.number - 1) l.instance.resources)
