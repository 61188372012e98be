use Rattle.std.proofs.Common.{◌≡◌, map, take}
use Rattle.lot_draft.specs.Raw.{raw_item, raw_resource}
use Rattle.lot_draft.specs.Refusals.{item_names, resource_names}
use Rattle.lot_draft.specs.Meaning.{item_of}
use Rattle.lot_model.proofs.building.items_data.Given as goal

abbrev pub invariant-loop-item : goal.invariant-loop-item
invariant-loop-item l = l.list.items ≡ map (item_of (resource_names (map raw_resource l.draft.resources.items)) (item_names (map raw_item l.draft.items.items))) (map raw_item (take l.item-index l.draft.items.items))
