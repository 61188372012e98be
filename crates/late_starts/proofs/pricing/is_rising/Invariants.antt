use Rattle.std.proofs.Common.{ℕ, ◌≤◌, ◌<◌, ◌-◌}
use Rattle.late_starts.specs.Pricing.{lot_at}
use Rattle.late_starts.proofs.pricing.is_rising.Given as goal

abbrev pub invariant-loop-period : goal.invariant-loop-period
invariant-loop-period l = (t : ℕ) → 2 ≤ t → t < l.period → (lot_at l.lots (t - 1)).need ≤ (lot_at l.lots t).need
