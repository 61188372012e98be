use Rattle.std.proofs.Common.{◌≡◌, ◌-◌}
use Rattle.uncoupled.specs.NoRoom.{balances}
use Rattle.uncoupled.proofs.no_room.refuting_parts.Given as goal

abbrev pub invariant-loop-period : goal.invariant-loop-period
invariant-loop-period l = l.parts.items ≡ balances l.item (l.period - 1)
