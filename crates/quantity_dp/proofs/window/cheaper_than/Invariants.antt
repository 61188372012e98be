use Rattle.std.proofs.Common.{◌≤◌, ◌<◌, ℕ, length}
use Rattle.quantity_dp.specs.Window.{priced_at}
use Rattle.quantity_dp.proofs.window.cheaper_than.Given as goal

abbrev pub decreases-back : goal.decreases-back
decreases-back l = l.kept

abbrev pub invariant-back : goal.invariant-back
invariant-back l = record {
  within : l.kept ≤ length l.rising;
  begins : l.first ≤ length l.rising → l.first ≤ l.kept;
  dearer : (n : ℕ) → l.kept ≤ n → n < length l.rising → l.price ≤ (priced_at l.rising n).price;
}
