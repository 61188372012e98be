use Rattle.std.proofs.Common.{◌≡◌, ◌≤◌, ◌<◌, ℕ}
use Rattle.lot_sizing.specs.Problem.{item_at}
use Rattle.replan.proofs.going_on.first_lead.Given as goal

abbrev pub invariant-loop-item : goal.invariant-loop-item
invariant-loop-item l = (j : ℕ) → 1 ≤ j → j < l.item → (item_at l.instance j).lead ≡ 0
