use Rattle.std.proofs.Common.{map}
use Rattle.csv.specs.Records.{fields_of}
use Rattle.lot_sizing.specs.Problem.{item_count}
use Rattle.plan_rules.specs.Held.{AllFit, plan_of}
use Rattle.plan_rules.specs.Order.{HoldsBefore}
use Rattle.plan_file.specs.Records.{IsRead}
use Rattle.plan_file.proofs.reading.read_item.Given as goal

abbrev pub invariant-loop-period : goal.invariant-loop-period
invariant-loop-period l = AllFit l.instance l.plan × HoldsBefore (item_count l.instance) l.instance.periods (IsRead l.instance (map fields_of l.rows) (plan_of l.plan)) l.item l.period
