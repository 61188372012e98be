use Rattle.std.proofs.Common.{◌≡◌, ◌≤◌, ◌<◌, ℕ}
use Rattle.lot_sizing.specs.Problem.{item_at}
use Rattle.echelon.specs.Weights.{weight_in}
use Rattle.echelon.proofs.whole.lead_free.Given as goal

abbrev pub invariant-loop-other : goal.invariant-loop-other
invariant-loop-other l = (j : ℕ) → 1 ≤ j → j < l.other → 0 < weight_in l.explosion l.item j → (item_at l.instance j).lead ≡ 0
