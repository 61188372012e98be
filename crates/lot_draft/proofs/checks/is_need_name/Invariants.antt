use Rattle.std.proofs.Common.{◌≡◌, ℕ, map, take, false}
use Rattle.lot_draft.specs.Raw.{raw_need}
use Rattle.lot_draft.specs.Refusals.{is_among, need_names}
use Rattle.lot_draft.proofs.checks.is_need_name.Given as goal

abbrev pub invariant-loop-at : goal.invariant-loop-at
invariant-loop-at l = is_among (take l.at (need_names (map raw_need l.needs))) l.name ≡ false
