use Rattle.std.proofs.Common.{◌≡◌, ◌+◌, ◌*◌, arith, refl}
use Rattle.plan_rules.specs.Held.{plan_of}
use Rattle.lot_schedule.specs.Slots.{length_of}
use Rattle.lot_schedule.proofs.Capacities.{lot_fits}
use Rattle.lot_schedule.proofs.lengths.length_of.Goals as goal

pub prove-unreachable-requires : goal.prove-unreachable-requires
prove-unreachable-requires c =
    let m = c.args.instance.now in
    let p = plan_of c.args.plan.now in
    let same : c.unit_time.result * c.get.result + c.setup_time.result * c.get-2.result ≡ length_of m p c.args.resource c.args.period c.args.item = rw (c.unit_time.ensures.value, c.get.ensures, c.setup_time.ensures.value, c.get-2.ensures) refl in
    omega (arith, c.if-prove.true, same, c.capacity-most.ensures.value, lot_fits m p c.args.resource c.args.period c.args.item c.requires.feasible c.requires.resource_low c.requires.resource_high c.requires.low c.requires.high c.requires.item_low c.requires.item_high)

pub overflow_cast-result : goal.overflow_cast-result
overflow_cast-result c = omega (arith, c.if-prove.false, c.capacity-most.ensures.small)

pub returns-clause-within : goal.returns-clause-within
returns-clause-within c = omega (arith, c.if-prove.false, c.capacity-most.ensures.value)
