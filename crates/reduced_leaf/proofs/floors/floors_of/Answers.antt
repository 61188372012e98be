use Rattle.std.proofs.Common.{◌∙◌, arith, subst}
use Rattle.std.specs.Prelude.{map}
use Rattle.std.specs.List.{All}
use Rattle.std.proofs.lemmas.List.{get_or_default, take_all}
use Rattle.must_start.specs.Rows.{start_in}
use Rattle.reduced_groups.specs.Prices.{price_in}
use Rattle.reduced_groups.specs.Floors.{IsWithinWork, no_group, shape_of}
use Rattle.reduced_leaf.specs.Found.{IsSumOfFloors}
use Rattle.reduced_leaf.proofs.Adding.{floors_next, stops, within_next}
use Rattle.reduced_leaf.proofs.floors.floors_of.Goals as goal

pub returns-in-Err-clause-fault : goal.returns-in-Err-clause-fault
returns-in-Err-clause-fault c =
    let groups = c.args.groups.now in
    let k = c.loop-place.place in
    let g = c.index-groups-place.result in
    let less = c.loop-place-test.true in
    stops c.args.instance.now (start_in c.args.started.now) (start_in c.args.on_time.now) c.args.prices.now groups k g c.in-Err.fault c.fault_at.result
    less (c.index-groups-place.is ∙ get_or_default groups k g no_group less) c.loop-place.invariant.within c.in-Err.ensures.past c.fault_at.ensures

pub loop-place-preserved : goal.loop-place-preserved
loop-place-preserved c =
    let m = c.args.instance.now in
    let groups = c.args.groups.now in
    let k = c.loop-place.place in
    let g = c.index-groups-place.result in
    let less = c.loop-place-test.true in
    record {
      floor = floors_next m c.args.prices.now groups k g c.loop-place.floor c.in-Ok.own c.both-floor.result less c.index-groups-place.is c.loop-place.invariant.floor c.in-Ok.ensures.floor c.both-floor.ensures;
      within = within_next m (start_in c.args.started.now) (start_in c.args.on_time.now) (price_in c.args.prices.now) groups k g less c.index-groups-place.is c.loop-place.invariant.within c.in-Ok.ensures.within;
    }

pub returns-clause-floor : goal.returns-clause-floor
returns-clause-floor c =
    let all = take_all c.loop-place.place c.args.groups.now (omega (arith, c.loop-place-test.false)) in
    subst (λ groups. IsSumOfFloors c.args.instance.now (price_in c.args.prices.now) (map shape_of groups) c.loop-place.floor) all c.loop-place.invariant.floor

pub returns-clause-within : goal.returns-clause-within
returns-clause-within c =
    let all = take_all c.loop-place.place c.args.groups.now (omega (arith, c.loop-place-test.false)) in
    subst (λ groups. All (IsWithinWork c.args.instance.now (start_in c.args.started.now) (start_in c.args.on_time.now) (price_in c.args.prices.now)) (map shape_of groups)) all c.loop-place.invariant.within
