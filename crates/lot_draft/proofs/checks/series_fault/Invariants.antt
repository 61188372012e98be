use Rattle.std.proofs.Common.{◌≡◌, ℕ}
use Rattle.lot_draft.specs.Refusals.{entry_fault, first_in}
use Rattle.lot_draft.proofs.Scans.{IsScan}
use Rattle.lot_draft.proofs.checks.series_fault.Given as goal

abbrev pub invariant-loop-at : goal.invariant-loop-at
invariant-loop-at l = IsScan (first_in (entry_fault l.place l.key) 1 l.list) (entry_fault l.place l.key) l.list l.at
