use Rattle.std.proofs.Common.{◌≡◌, ◌≤◌, ◌<◌, ℕ, length}
use Rattle.lot_sizing.specs.Problem.{entry}
use Rattle.lot_model.specs.Meaning.{most_asked}
use Rattle.lot_model.specs.Held.{problem_of_parts}
use Rattle.lot_model.proofs.totals.write_asked.Given as goal

abbrev pub invariant-loop-item : goal.invariant-loop-item
invariant-loop-item l = record {
  size : length l.list ≡ length l.fn.list;
  each : (i : ℕ) → 1 ≤ i → i < l.item → entry l.list i ≡ most_asked (problem_of_parts l.parts) i;
}
