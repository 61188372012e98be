use Rattle.std.proofs.Common.{◌≡◌, ℕ, map}
use Rattle.lot_draft.specs.Raw.{raw_item, raw_model}
use Rattle.lot_draft.specs.Refusals.{item_lines_fault, first_in}
use Rattle.lot_draft.proofs.Scans.{IsScan}
use Rattle.lot_draft.proofs.checks.lines_fault.Given as goal

abbrev pub invariant-loop-at : goal.invariant-loop-at
invariant-loop-at l =
    let f = item_lines_fault (raw_model l.draft) in
    IsScan (first_in f 1 (map raw_item l.draft.items.items)) f (map raw_item l.draft.items.items) l.at
