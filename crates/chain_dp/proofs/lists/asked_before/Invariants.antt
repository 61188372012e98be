use Rattle.std.proofs.Common.{◌≡◌, ◌≤◌, ◌<◌, ◌+◌, ◌-◌, ◌*◌, ◌^◌, ℕ, length}
use Rattle.lot_sizing.specs.Sums.{sum_to}
use Rattle.lot_sizing.specs.Problem.{entry}
use Rattle.chain_dp.specs.Lists.{at, moved}
use Rattle.chain_dp.proofs.lists.asked_before.Given as goal

abbrev pub invariant-loop-lot : goal.invariant-loop-lot
invariant-loop-lot l = record {
  size : length l.list.items ≡ l.lot + 1;
  sum : l.sum ≡ sum_to (l.lot - 1) (moved 0 l.shift (length l.need) (entry l.need));
  small : l.sum ≤ (l.lot - 1) * 2 ^ 64;
  lot_0 : at l.list.items 0 ≡ 0;
  each : (k : ℕ) → k < l.lot + 1 → 1 ≤ k → at l.list.items k ≡ sum_to (k - 1) (moved 0 l.shift (length l.need) (entry l.need));
}
