use Rattle.std.proofs.Common.{◌≤◌, ◌<◌, ℕ}
use Rattle.echelon.specs.Weights.{HasBack, weight_in}
use Rattle.echelon.proofs.whole.is_backlogged.Given as goal

abbrev pub invariant-loop-other : goal.invariant-loop-other
invariant-loop-other l = (j : ℕ) → 1 ≤ j → j < l.other → 0 < weight_in l.explosion l.item j → HasBack l.instance j → ⊥
