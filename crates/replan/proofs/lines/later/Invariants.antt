use Rattle.std.proofs.Common.{◌≡◌, ◌-◌, drop, take}
use Rattle.lot_model.specs.Drafted.{wholes}
use Rattle.replan.proofs.lines.later.Given as goal

abbrev pub invariant-loop-place : goal.invariant-loop-place
invariant-loop-place l = l.list.items ≡ wholes (take (l.place - l.first) (drop l.first l.amounts))
