use Rattle.std.proofs.Common.{◌≡◌, ◌≤◌, ◌-◌, subst, arith, Some, None}
use Rattle.lot_sizing.specs.Problem.{resource_count}
use Rattle.must_start.proofs.LargestLots.{IsLargestTo, in_time_same, largest_all, largest_first, largest_next, largest_none, made_at_most}
use Rattle.must_start.proofs.lots.largest_lot.Goals as goal

pub loop-resource-init : goal.loop-resource-init
loop-resource-init c = largest_first c.args.instance.now c.args.item c.args.period c.most_in_a_lot-lot.result c.most_in_a_lot-lot.ensures

pub loop-resource-preserved : goal.loop-resource-preserved
loop-resource-preserved c =
    let k = c.loop-resource.resource in
    let high : k ≤ resource_count c.args.instance.now = omega (arith, c.loop-resource-test.true, c.resources-resource-end.ensures.value) in
    largest_next c.args.instance.now c.args.item c.args.period k c.loop-resource.lot c.in-Some.possible c.loop-resource.auto.resource high c.loop-resource.invariant
    (in_time_same c.loop-resource.lot _ _ _ _ _ _ (Some c.in-Some.possible) c.unit_time-unit.ensures.value c.setup_time-setup.ensures.value c.capacity.ensures.value c.in-Some.ensures)

pub returns-in-None-clause-largest : goal.returns-in-None-clause-largest
returns-in-None-clause-largest c = λ total totals.
    let k = c.loop-resource.resource in
    let high : k ≤ resource_count c.args.instance.now = omega (arith, c.loop-resource-test.true, c.resources-resource-end.ensures.value) in
    largest_none c.args.instance.now total c.args.item c.args.period k c.loop-resource.lot c.loop-resource.auto.resource high
    (in_time_same c.loop-resource.lot _ _ _ _ _ _ None c.unit_time-unit.ensures.value c.setup_time-setup.ensures.value c.capacity.ensures.value c.in-None.ensures)

pub returns-in-None-clause-holds : goal.returns-in-None-clause-holds
returns-in-None-clause-holds c =
    made_at_most c.args.instance.now c.args.item c.args.period 0 c.lots_hold.ensures.holds c.resources-resource-end.ensures.instance c.requires.low c.requires.high c.requires.period_low c.requires.period_high (λ total totals.
    let k = c.loop-resource.resource in
    let high : k ≤ resource_count c.args.instance.now = omega (arith, c.loop-resource-test.true, c.resources-resource-end.ensures.value) in
    largest_none c.args.instance.now total c.args.item c.args.period k c.loop-resource.lot c.loop-resource.auto.resource high
    (in_time_same c.loop-resource.lot _ _ _ _ _ _ None c.unit_time-unit.ensures.value c.setup_time-setup.ensures.value c.capacity.ensures.value c.in-None.ensures))

pub returns-clause-largest : goal.returns-clause-largest
returns-clause-largest c = λ total totals.
    let all : c.loop-resource.resource - 1 ≡ resource_count c.args.instance.now = omega (arith, c.loop-resource-test.false, c.loop-resource.auto.resource-end, c.loop-resource.auto.resource, c.resources-resource-end.ensures.value) in
    largest_all c.args.instance.now total c.args.item c.args.period c.loop-resource.lot totals (subst (λ n. IsLargestTo c.args.instance.now c.args.item c.args.period n c.loop-resource.lot) all c.loop-resource.invariant)

pub returns-clause-holds : goal.returns-clause-holds
returns-clause-holds c =
    let all : c.loop-resource.resource - 1 ≡ resource_count c.args.instance.now = omega (arith, c.loop-resource-test.false, c.loop-resource.auto.resource-end, c.loop-resource.auto.resource, c.resources-resource-end.ensures.value) in
    made_at_most c.args.instance.now c.args.item c.args.period c.loop-resource.lot c.lots_hold.ensures.holds c.resources-resource-end.ensures.instance c.requires.low c.requires.high c.requires.period_low c.requires.period_high (λ total totals.
    largest_all c.args.instance.now total c.args.item c.args.period c.loop-resource.lot totals (subst (λ n. IsLargestTo c.args.instance.now c.args.item c.args.period n c.loop-resource.lot) all c.loop-resource.invariant))
