use Rattle.std.proofs.Common.{◌≡◌, ℕ, map}
use Rattle.lot_draft.specs.Raw.{raw_resource}
use Rattle.lot_draft.specs.Refusals.{resource_name_fault, first_in}
use Rattle.lot_draft.proofs.Scans.{IsScan}
use Rattle.lot_draft.proofs.checks.resource_names_fault.Given as goal

abbrev pub invariant-loop-at : goal.invariant-loop-at
invariant-loop-at l = IsScan (first_in resource_name_fault 1 (map raw_resource l.resources)) resource_name_fault (map raw_resource l.resources) l.at
