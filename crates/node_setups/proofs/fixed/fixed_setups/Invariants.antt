use Rattle.std.specs.Prelude.{◌≡◌, ◌<◌, ◌+◌, ◌^◌, ℕ, drop, length}
use Rattle.lin_rows.specs.Columns.{IsCell}
use Rattle.node_setups.specs.Holding.{HasCell, held_at, last_held, or_held}
use Rattle.node_setups.proofs.fixed.fixed_setups.Given as goal

abbrev pub invariant-loop-bound : goal.invariant-loop-bound
invariant-loop-bound l = length l.path < 2 ^ 32 → (l.number ≡ l.bound-index) × ((i t : ℕ) → IsCell l.instance i t → HasCell l.fixed i t × (or_held (last_held (drop l.bound-index l.path) (l.bound-index + 1) i t) (held_at l.fixed i t) ≡ last_held l.path 1 i t))
