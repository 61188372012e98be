use Rattle.std.proofs.Common.{◌∙◌, ap, map}
use Rattle.std.proofs.lemmas.List.{take_all}
use Rattle.cert_lines.specs.Shapes.{list_shape}
use Rattle.cert_lines.proofs.Joins.{copied_more}
use Rattle.cert_lines.proofs.copying.copy_lists.Goals as goal

pub loop-list-preserved : goal.loop-list-preserved
loop-list-preserved c =
    ap (map list_shape) c.in_ok-push.ensures.items
    ∙ copied_more list_shape c.loop-list.copy.items c.in_ok-copy_list.field-0 c.args.lists.now c.loop-list.list-index c.list-item.result c.loop-list.invariant c.loop-list-test.true (c.in_ok-copy_list.ensures ∙ ap list_shape c.list-item.is)

pub returns : goal.returns
returns c = c.loop-list.invariant ∙ ap (map list_shape) (take_all c.loop-list.list-index c.args.lists.now c.loop-list-test.false)
