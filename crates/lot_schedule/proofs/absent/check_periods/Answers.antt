use Rattle.plan_rules.specs.Held.{plan_of}
use Rattle.lot_schedule.specs.Slots.{HasAll}
use Rattle.lot_schedule.proofs.Rowwise.{column_next}
use Rattle.lot_schedule.proofs.absent.check_periods.Goals as goal

pub loop-period-preserved : goal.loop-period-preserved
loop-period-preserved c = record {
  place = c.in-Ok.ensures.next;
  found = column_next (HasAll c.args.instance.now (plan_of c.args.plan.now) c.args.slots.now c.args.resource) c.loop-period.period c.loop-period.invariant.found c.in-Ok.ensures.all;
}
