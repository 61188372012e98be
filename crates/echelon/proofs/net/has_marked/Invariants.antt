use Rattle.std.proofs.Common.{◌≤◌, ◌<◌, ℕ, IsTrue}
use Rattle.lot_sizing.specs.Problem.{entry}
use Rattle.echelon.specs.Views.{marked}
use Rattle.echelon.proofs.net.has_marked.Given as goal

abbrev pub invariant-loop-item : goal.invariant-loop-item
invariant-loop-item l = (j : ℕ) → 1 ≤ j → j < l.item → 0 < entry l.weights j → IsTrue (marked l.marks j) → ⊥
