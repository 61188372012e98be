use Rattle.lot_sizing.specs.Problem.{item_count}
use Rattle.plan_rules.specs.CellRules.{KeepsRule}
use Rattle.plan_rules.specs.Held.{plan_of}
use Rattle.plan_rules.specs.Order.{HoldsBefore}
use Rattle.plan_rules.proofs.judging.first_cell.Given as goal

abbrev pub invariant-loop-item : goal.invariant-loop-item
invariant-loop-item l = HoldsBefore (item_count l.instance) l.instance.periods (KeepsRule l.instance (plan_of l.plan) l.rule) l.item 1
