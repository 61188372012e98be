use Rattle.std.proofs.Common.{◌≡◌, map, take}
use Rattle.lot_draft.specs.Raw.{raw_use}
use Rattle.lot_model.specs.Drafted.{use_written}
use Rattle.replan.proofs.lines.uses.Given as goal

abbrev pub invariant-loop-line : goal.invariant-loop-line
invariant-loop-line l = map raw_use l.list.items ≡ map (use_written l.instance) (take l.line-index l.lines)
