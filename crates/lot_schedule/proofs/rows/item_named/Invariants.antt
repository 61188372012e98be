use Rattle.std.proofs.Common.{ℕ, ◌<◌, ◌≤◌, ◌≢◌}
use Rattle.lot_sizing.specs.Problem.{item_at}
use Rattle.lot_schedule.proofs.rows.item_named.Given as goal

abbrev pub invariant-loop-item : goal.invariant-loop-item
invariant-loop-item l = (i : ℕ) → 1 ≤ i → i < l.item → l.name ≢ (item_at l.instance i).name
