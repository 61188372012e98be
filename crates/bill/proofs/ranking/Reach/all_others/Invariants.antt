use Rattle.std.proofs.Common.{◌≡◌, ◌≤◌, ◌<◌, ℕ, length}
use Rattle.lot_sizing.specs.Problem.{entry}
use Rattle.bill.specs.Sets.{missing, set_of}
use Rattle.bill.proofs.ranking.Reach.all_others.Given as goal

abbrev pub invariant-loop-item : goal.invariant-loop-item
invariant-loop-item l = record {
  size : length l.counts.items ≡ length l.self;
  each : (j : ℕ) → 1 ≤ j → j < l.item → entry l.counts.items j ≡ missing (set_of l.self j);
  small : (j : ℕ) → 1 ≤ j → j < l.item → entry l.counts.items j ≤ length l.self;
}
