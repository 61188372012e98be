use Rattle.std.proofs.Common.{◌≤◌, ◌<◌, ℕ}
use Rattle.lot_sizing.specs.Net.{HasRoom}
use Rattle.uncoupled.proofs.room.first_without_room.Given as goal

abbrev pub invariant-loop-item : goal.invariant-loop-item
invariant-loop-item l = (i : ℕ) → 1 ≤ i → i < l.item → HasRoom l.instance i
