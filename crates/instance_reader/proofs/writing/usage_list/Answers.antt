use Rattle.std.proofs.Common.{◌≡◌, ◌∙◌, refl, ap, take}
use Rattle.std.proofs.lemmas.List.{take_all, take_more}
use Rattle.toml.specs.Data.{array}
use Rattle.toml.proofs.Views.{items_view-push, view-Array}
use Rattle.lot_model.specs.Valid.{no_usage}
use Rattle.instance_reader.specs.Written.{use_table}
use Rattle.instance_reader.proofs.Written.{tables-last}
use Rattle.instance_reader.proofs.writing.usage_list.Goals as goal

pub loop-line-preserved : goal.loop-line-preserved
loop-line-preserved c =
    rw (c.in_ok-push.ensures.items, take_more c.args.lines.now c.loop-line.line-index no_usage c.loop-line-test.true, tables-last (use_table c.args.instance.now) (take c.loop-line.line-index c.args.lines.now) _, items_view-push c.loop-line.list.items _, c.loop-line.invariant, c.in_ok-usage.ensures) refl

pub returns : goal.returns
returns c = view-Array c.loop-line.list ∙ ap array (rw (take_all c.loop-line.line-index c.args.lines.now c.loop-line-test.false) at c.loop-line.invariant)
