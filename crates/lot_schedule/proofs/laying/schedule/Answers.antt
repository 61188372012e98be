use Rattle.std.proofs.Common.{◌<◌, arith, sym, subst}
use Rattle.lot_sizing.specs.Problem.{resource_count}
use Rattle.plan_rules.specs.Held.{plan_of}
use Rattle.lot_schedule.specs.Lots.{IsLaidBefore}
use Rattle.lot_schedule.proofs.Finished.{begun, few_slots, has_least_ends, is_in_order, is_schedule, ties_by_item}
use Rattle.lot_schedule.proofs.laying.schedule.Goals as goal

pub loop-resource-init : goal.loop-resource-init
loop-resource-init c = subst (λ xs. IsLaidBefore c.args.instance.now (plan_of c.args.plan.now) xs 1 1) (sym c.new-slots.ensures.items) (begun c.args.instance.now (plan_of c.args.plan.now))

pub returns : goal.returns
returns c =
    let m = c.args.instance.now in
    let p = plan_of c.args.plan.now in
    let xs = c.loop-resource.slots.items in
    let k = c.loop-resource.resource in
    let all = c.loop-resource.invariant in
    let past : resource_count m < k = omega (arith, c.loop-resource-test.false, c.resources-resource-end.ensures.value) in
    record { exist = λ n less. (all.slots n less).exists; schedule = is_schedule m p xs k all past; order = is_in_order m p xs k all; least = has_least_ends m p xs k all past; ties = ties_by_item m p xs k all; few = few_slots m p xs k all }
