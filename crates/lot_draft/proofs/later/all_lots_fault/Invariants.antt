use Rattle.std.proofs.Common.{◌≡◌, ℕ, map}
use Rattle.lot_draft.specs.Raw.{raw_item}
use Rattle.lot_draft.specs.Refusals.{lots_fault, first_in}
use Rattle.lot_draft.proofs.Scans.{IsScan}
use Rattle.lot_draft.proofs.later.all_lots_fault.Given as goal

abbrev pub invariant-loop-at : goal.invariant-loop-at
invariant-loop-at l = IsScan (first_in lots_fault 1 (map raw_item l.items)) lots_fault (map raw_item l.items) l.at
