use Rattle.std.proofs.Common.{◌≡◌, map, take}
use Rattle.lot_draft.specs.Raw.{raw_resource}
use Rattle.lot_draft.specs.Meaning.{resource_of}
use Rattle.lot_model.proofs.building.resources_data.Given as goal

abbrev pub invariant-loop-resource : goal.invariant-loop-resource
invariant-loop-resource l = l.list.items ≡ map resource_of (map raw_resource (take l.resource-index l.resources))
