use Rattle.std.proofs.Common.{◌≡◌, ◌≤◌, ◌<◌, ℕ, false}
use Rattle.bill.specs.Sets.{has, set_of}
use Rattle.bill.proofs.ranking.Reach.first_on_cycle.Given as goal

abbrev pub invariant-loop-item : goal.invariant-loop-item
invariant-loop-item l = (j : ℕ) → 1 ≤ j → j < l.item → has (set_of l.self j) j ≡ false
