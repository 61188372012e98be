use Rattle.std.proofs.Common.{◌≡◌, map, take}
use Rattle.lot_draft.specs.Raw.{raw_need}
use Rattle.lot_model.specs.Drafted.{need_written}
use Rattle.replan.proofs.lines.needs.Given as goal

abbrev pub invariant-loop-line : goal.invariant-loop-line
invariant-loop-line l = map raw_need l.list.items ≡ map (need_written l.instance) (take l.line-index l.lines)
