use Rattle.std.proofs.Common.{arith}
use Rattle.lot_sizing.specs.Problem.{resource_count}
use Rattle.plan_rules.specs.Held.{plan_of}
use Rattle.lot_schedule.specs.Slots.{HasAll}
use Rattle.lot_schedule.proofs.Rowwise.{first_place, row_next}
use Rattle.lot_schedule.proofs.absent.check_all.Goals as goal

pub loop-resource-preserved : goal.loop-resource-preserved
loop-resource-preserved c = record {
  place = c.in-Ok.ensures.next;
  found = row_next (resource_count c.args.instance.now) c.args.instance.now.periods (HasAll c.args.instance.now (plan_of c.args.plan.now) c.args.slots.now) c.loop-resource.resource c.loop-resource.invariant.found c.in-Ok.ensures.all;
}

pub returns-in-Err-clause-absent : goal.returns-in-Err-clause-absent
returns-in-Err-clause-absent c = (
  first_place (resource_count c.args.instance.now) c.args.instance.now.periods (HasAll c.args.instance.now (plan_of c.args.plan.now) c.args.slots.now) c.loop-resource.resource c.in-Err.field-0.period c.loop-resource.auto.resource (omega (arith, c.loop-resource-test.true, c.resources-resource-end.ensures.value)) c.loop-resource.invariant.found c.in-Err.ensures.first,
  c.in-Err.ensures.lack,
)
