use Rattle.std.proofs.Common.{◌≡◌, ℕ, pos, map}
use Rattle.lot_draft.specs.Raw.{raw_item}
use Rattle.lot_draft.specs.Refusals.{item_numbers_fault, first_in}
use Rattle.lot_draft.proofs.Scans.{IsScan}
use Rattle.lot_draft.proofs.checks.items_numbers_fault.Given as goal

abbrev pub invariant-loop-at : goal.invariant-loop-at
invariant-loop-at l = IsScan (first_in (item_numbers_fault (pos l.periods)) 1 (map raw_item l.items)) (item_numbers_fault (pos l.periods)) (map raw_item l.items) l.at
