use Rattle.std.proofs.Common.{◌≡◌, map, take}
use Rattle.lot_draft.specs.Raw.{raw_item, raw_need}
use Rattle.lot_draft.specs.Refusals.{item_names}
use Rattle.lot_draft.specs.Meaning.{need_of}
use Rattle.lot_model.proofs.building.needs_of.Given as goal

abbrev pub invariant-loop-need : goal.invariant-loop-need
invariant-loop-need l = l.list.items ≡ map (need_of (item_names (map raw_item l.items))) (map raw_need (take l.need-index l.needs))
