use Rattle.std.proofs.Common.{◌≡◌, ℕ, map}
use Rattle.lot_draft.specs.Raw.{raw_resource}
use Rattle.lot_draft.specs.Refusals.{resource_repeat, first_in}
use Rattle.lot_draft.proofs.Scans.{IsScan}
use Rattle.lot_draft.proofs.checks.resource_repeats_fault.Given as goal

abbrev pub invariant-loop-at : goal.invariant-loop-at
invariant-loop-at l = IsScan (first_in (resource_repeat (map raw_resource l.resources)) 1 (map raw_resource l.resources)) (resource_repeat (map raw_resource l.resources)) (map raw_resource l.resources) l.at
