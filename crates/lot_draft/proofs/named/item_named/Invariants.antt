use Rattle.std.proofs.Common.{◌≡◌, ℕ, map, take, false}
use Rattle.lot_draft.specs.Raw.{raw_item}
use Rattle.lot_draft.specs.Refusals.{is_among, item_names}
use Rattle.lot_draft.proofs.named.item_named.Given as goal

abbrev pub invariant-loop-at : goal.invariant-loop-at
invariant-loop-at l = is_among (take l.at (item_names (map raw_item l.items))) l.name ≡ false
