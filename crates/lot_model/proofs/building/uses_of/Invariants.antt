use Rattle.std.proofs.Common.{◌≡◌, map, take}
use Rattle.lot_draft.specs.Raw.{raw_resource, raw_use}
use Rattle.lot_draft.specs.Refusals.{resource_names}
use Rattle.lot_draft.specs.Meaning.{use_of}
use Rattle.lot_model.proofs.building.uses_of.Given as goal

abbrev pub invariant-loop-usage : goal.invariant-loop-usage
invariant-loop-usage l = l.list.items ≡ map (use_of (resource_names (map raw_resource l.resources))) (map raw_use (take l.usage-index l.uses))
