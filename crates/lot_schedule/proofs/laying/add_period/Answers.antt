use Rattle.std.proofs.Common.{◌≡◌, ◌≤◌, ◌++◌, ◌+◌, ◌∙◌, ap, arith, sym, subst}
use Rattle.lot_sizing.specs.Problem.{capacity, item_count}
use Rattle.plan_rules.specs.Held.{plan_of}
use Rattle.lot_schedule.specs.Lots.{IsLaidBefore, laid, total_of}
use Rattle.lot_schedule.proofs.Blocks.{IsThere, join}
use Rattle.lot_schedule.proofs.Capacities.{capacity_small, lots_fit}
use Rattle.lot_schedule.proofs.Laid.{lots_total}
use Rattle.lot_schedule.proofs.laying.add_period.Goals as goal

pub lay-requires : goal.lay-requires
lay-requires c =
    let m = c.args.instance.now in
    let p = plan_of c.args.plan.now in
    let k = c.args.resource in
    let t = c.args.period in
    omega (arith, ap total_of c.deref.ensures.value, lots_total m p k t (item_count m) c.in_ok-lots.lots.items c.in_ok-lots.ensures.lots.lots, lots_fit m p k t c.requires.feasible c.requires.resource_low c.requires.resource_high c.requires.low c.requires.high, capacity_small m c.in_ok-lots.ensures.instance.limits k t c.requires.resource_low c.requires.resource_high c.requires.low c.requires.high)

pub returns : goal.returns
returns c =
    let m = c.args.instance.now in
    let p = plan_of c.args.plan.now in
    let k = c.args.resource in
    let t = c.args.period in
    let old = c.args.slots.now.items in
    let ls = c.in_ok-lots.lots.items in
    let room : total_of ls ≤ capacity m k t = omega (arith, lots_total m p k t (item_count m) ls c.in_ok-lots.ensures.lots.lots, lots_fit m p k t c.requires.feasible c.requires.resource_low c.requires.resource_high c.requires.low c.requires.high) in
    let here : IsThere m p k t ls = record { resource_low = c.requires.resource_low; resource_high = c.requires.resource_high; period_low = c.requires.low; period_high = c.requires.high; lots = c.in_ok-lots.ensures.lots; room = room; limits = c.in_ok-lots.ensures.instance.limits } in
    let e : c.lay.new.slots.items ≡ old ++ laid k t 0 ls = c.in_ok-lay.ensures ∙ ap (λ x. old ++ laid k t 0 x) c.deref.ensures.value in
    subst (λ xs. IsLaidBefore m p xs k (t + 1)) (sym e) (join m p old k t ls c.requires.earlier here)
