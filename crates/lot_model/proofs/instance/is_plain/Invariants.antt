use Rattle.std.proofs.Common.{◌≤◌, ◌<◌, ℕ}
use Rattle.lot_sizing.specs.Problem.{IsPlainItem, item_at}
use Rattle.lot_model.proofs.instance.is_plain.Given as goal

abbrev pub invariant-loop-item : goal.invariant-loop-item
invariant-loop-item l = (i : ℕ) → 1 ≤ i → i < l.item → IsPlainItem (item_at l.instance i)
