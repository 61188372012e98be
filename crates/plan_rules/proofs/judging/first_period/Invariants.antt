use Rattle.std.proofs.Common.{ℕ, ◌≤◌, ◌<◌}
use Rattle.plan_rules.specs.CellRules.{KeepsRule}
use Rattle.plan_rules.specs.Held.{plan_of}
use Rattle.plan_rules.proofs.judging.first_period.Given as goal

abbrev pub invariant-loop-period : goal.invariant-loop-period
invariant-loop-period l = (u : ℕ) → 1 ≤ u → u < l.period → KeepsRule l.instance (plan_of l.plan) l.rule l.item u
