use Rattle.std.proofs.Common.{ℕ, ◌≤◌, ◌<◌}
use Rattle.lot_sizing.specs.Plan.{IsEndStock}
use Rattle.plan_rules.specs.Held.{plan_of}
use Rattle.plan_rules.proofs.judging.first_end.Given as goal

abbrev pub invariant-loop-item : goal.invariant-loop-item
invariant-loop-item l = (j : ℕ) → 1 ≤ j → j < l.item → IsEndStock l.instance (plan_of l.plan) j
