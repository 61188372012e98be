use Rattle.std.proofs.Common.{◌≡◌, ℕ, map, take, false}
use Rattle.lot_draft.specs.Raw.{raw_item}
use Rattle.lot_draft.specs.Refusals.{is_component}
use Rattle.lot_draft.proofs.later.is_component.Given as goal

abbrev pub invariant-loop-at : goal.invariant-loop-at
invariant-loop-at l = is_component (take l.at (map raw_item l.items)) l.name ≡ false
