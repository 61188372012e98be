use Rattle.std.proofs.Common.{◌≡◌, ℕ, map, take, false}
use Rattle.lot_draft.specs.Raw.{raw_use}
use Rattle.lot_draft.specs.Refusals.{is_among, use_names}
use Rattle.lot_draft.proofs.checks.is_use_name.Given as goal

abbrev pub invariant-loop-at : goal.invariant-loop-at
invariant-loop-at l = is_among (take l.at (use_names (map raw_use l.uses))) l.name ≡ false
