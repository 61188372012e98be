use Rattle.std.proofs.Common.{◌≡◌, ◌≤◌, ◌<◌, ℕ, length}
use Rattle.lot_sizing.specs.Problem.{entry}
use Rattle.chain_dp.specs.Lists.{at, moved}
use Rattle.chain_dp.proofs.lists.by_lots.Given as goal

abbrev pub invariant-loop-lot : goal.invariant-loop-lot
invariant-loop-lot l = record {
  size : length l.list.items ≡ l.lot;
  lot_0 : at l.list.items 0 ≡ l.first;
  each : (t : ℕ) → t < l.lot → 1 ≤ t → at l.list.items t ≡ moved l.other l.shift (length l.costs) (entry l.costs) t;
}
