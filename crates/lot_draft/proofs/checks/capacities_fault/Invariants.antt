use Rattle.std.proofs.Common.{◌≡◌, ℕ, pos, map}
use Rattle.lot_draft.specs.Raw.{raw_resource}
use Rattle.lot_draft.specs.Refusals.{capacity_fault, first_in}
use Rattle.lot_draft.proofs.Scans.{IsScan}
use Rattle.lot_draft.proofs.checks.capacities_fault.Given as goal

abbrev pub invariant-loop-at : goal.invariant-loop-at
invariant-loop-at l = IsScan (first_in (capacity_fault (pos l.periods)) 1 (map raw_resource l.resources)) (capacity_fault (pos l.periods)) (map raw_resource l.resources) l.at
