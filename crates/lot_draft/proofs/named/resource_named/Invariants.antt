use Rattle.std.proofs.Common.{◌≡◌, ℕ, map, take, false}
use Rattle.lot_draft.specs.Raw.{raw_resource}
use Rattle.lot_draft.specs.Refusals.{is_among, resource_names}
use Rattle.lot_draft.proofs.named.resource_named.Given as goal

abbrev pub invariant-loop-at : goal.invariant-loop-at
invariant-loop-at l = is_among (take l.at (resource_names (map raw_resource l.resources))) l.name ≡ false
