use Rattle.std.proofs.Common.{◌≡◌, ◌≤◌, ◌<◌, ◌+◌, ◌-◌, ◌∙◌, sym, ap, arith, length, map, take}
use Rattle.lot_sizing.specs.Problem.{no_resource}
use Rattle.lot_draft.specs.Raw.{raw_resource}
use Rattle.replan.specs.Capped.{resource_drafted}
use Rattle.replan.proofs.Growing.{all_of, one_more}
use Rattle.replan.proofs.drafting.resources.Goals as goal

pub loop-number-preserved : goal.loop-number-preserved
loop-number-preserved c =
    let all = c.args.instance.now.resources in
    let k = c.loop-number.number - 1 in
    let less : k < length all = omega (arith, c.loop-number-test.true, c.resources-number-end.ensures.value, c.loop-number.auto.number) in
    let e : c.loop-number.number + 1 - 1 ≡ k + 1 = omega (arith, c.loop-number.auto.number) in
    ap (map raw_resource) c.in_ok-push.ensures.items
    ∙ (one_more no_resource raw_resource (resource_drafted c.args.first) c.loop-number.list.items c.in_ok-resource.field-0 all k c.loop-number.invariant less c.in_ok-resource.ensures
    ∙ ap (λ n. map (resource_drafted c.args.first) (take n all)) (sym e))

pub returns : goal.returns
returns c =
    let all = c.args.instance.now.resources in
    let done : length all ≤ c.loop-number.number - 1 = omega (arith, c.loop-number-test.false, c.resources-number-end.ensures.value) in
    all_of raw_resource (resource_drafted c.args.first) c.loop-number.list.items all (c.loop-number.number - 1) c.loop-number.invariant done
