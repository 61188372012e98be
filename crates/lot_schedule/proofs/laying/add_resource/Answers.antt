use Rattle.std.proofs.Common.{arith}
use Rattle.plan_rules.specs.Held.{plan_of}
use Rattle.lot_schedule.proofs.Finished.{next_resource}
use Rattle.lot_schedule.proofs.laying.add_resource.Goals as goal

pub returns : goal.returns
returns c = next_resource c.args.instance.now (plan_of c.args.plan.now) c.loop-period.slots.items c.args.resource c.loop-period.period c.periods-period-end.ensures.instance.limits c.requires.low c.requires.high c.loop-period.invariant (omega (arith, c.loop-period-test.false, c.periods-period-end.ensures.value))
