use Rattle.std.proofs.Common.{◌≡◌, ◌≤◌, ℕ, map, take}
use Rattle.lot_draft.specs.Raw.{raw_resource, raw_use}
use Rattle.lot_draft.specs.Refusals.{first_in, resource_names, use_fault, use_names}
use Rattle.lot_draft.proofs.Scans.{IsScan}
use Rattle.lot_draft.proofs.Apart.{known_in}
use Rattle.lot_draft.proofs.checks.uses_fault.Given as goal

abbrev pub invariant-loop-at : goal.invariant-loop-at
invariant-loop-at l =
    let f = use_fault (resource_names (map raw_resource l.resources)) l.item (map raw_use l.uses) in
    record {
      scan : IsScan (first_in f 1 (map raw_use l.uses)) f (map raw_use l.uses) l.at;
      known : l.at ≤ known_in (take l.at (use_names (map raw_use l.uses))) (resource_names (map raw_resource l.resources));
    }
