use Rattle.std.proofs.Common.{◌≡◌, ℕ, map}
use Rattle.lot_draft.specs.Raw.{raw_item}
use Rattle.lot_draft.specs.Refusals.{backlog_fault, first_in}
use Rattle.lot_draft.proofs.Scans.{IsScan}
use Rattle.lot_draft.proofs.later.backlogs_fault.Given as goal

abbrev pub invariant-loop-at : goal.invariant-loop-at
invariant-loop-at l = IsScan (first_in (backlog_fault (map raw_item l.items)) 1 (map raw_item l.items)) (backlog_fault (map raw_item l.items)) (map raw_item l.items) l.at
