use Rattle.std.proofs.Common.{◌≡◌, ℕ, map}
use Rattle.lot_draft.specs.Raw.{raw_item, raw_need}
use Rattle.lot_draft.specs.Refusals.{need_fault, first_in, item_names}
use Rattle.lot_draft.proofs.Scans.{IsScan}
use Rattle.lot_draft.proofs.checks.needs_fault.Given as goal

abbrev pub invariant-loop-at : goal.invariant-loop-at
invariant-loop-at l =
    let f = need_fault (item_names (map raw_item l.items)) l.item (map raw_need l.needs) in
    IsScan (first_in f 1 (map raw_need l.needs)) f (map raw_need l.needs) l.at
