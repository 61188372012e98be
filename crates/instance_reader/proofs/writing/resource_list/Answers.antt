use Rattle.std.proofs.Common.{◌≡◌, ◌≤◌, ◌<◌, ◌∙◌, ◌+◌, ◌-◌, refl, ap, arith, length, take, slice_index_or}
use Rattle.std.proofs.lemmas.List.{take_all, take_more}
use Rattle.toml.specs.Data.{array}
use Rattle.toml.proofs.Views.{items_view-push, view-Array}
use Rattle.lot_sizing.specs.Problem.{no_resource}
use Rattle.instance_reader.specs.Written.{resource_table, tables_of}
use Rattle.instance_reader.proofs.Written.{tables-last}
use Rattle.instance_reader.proofs.writing.resource_list.Goals as goal

pub loop-number-preserved : goal.loop-number-preserved
loop-number-preserved c =
    let all = c.args.instance.now.resources in
    let k = c.loop-number.number - 1 in
    let less : k < length all = omega (arith, c.loop-number-test.true, c.resources-number-end.ensures.value, c.loop-number.auto.number) in
    let e : c.loop-number.number + 1 - 1 ≡ k + 1 = omega (arith, c.loop-number.auto.number) in
    rw (c.in_ok-push.ensures.items, e, take_more all k no_resource less, tables-last resource_table (take k all) (slice_index_or all k no_resource), items_view-push c.loop-number.list.items _, c.loop-number.invariant, c.in_ok-resource.ensures) refl

pub returns : goal.returns
returns c =
    let all = c.args.instance.now.resources in
    let done : length all ≤ c.loop-number.number - 1 = omega (arith, c.loop-number-test.false, c.resources-number-end.ensures.value) in
    view-Array c.loop-number.list ∙ ap array (c.loop-number.invariant ∙ ap (tables_of resource_table) (take_all (c.loop-number.number - 1) all done))
