use Rattle.std.proofs.Common.{◌∙◌, ap, map}
use Rattle.lot_draft.specs.Raw.{raw_need}
use Rattle.lot_model.specs.Drafted.{need_written}
use Rattle.lot_model.specs.Valid.{no_need}
use Rattle.replan.proofs.Growing.{all_of, one_more}
use Rattle.replan.proofs.lines.needs.Goals as goal

pub loop-line-preserved : goal.loop-line-preserved
loop-line-preserved c =
    ap (map raw_need) c.in_ok-push.ensures.items
    ∙ one_more no_need raw_need (need_written c.args.instance.now) c.loop-line.list.items c.in_ok-need.field-0 c.args.lines.now c.loop-line.line-index c.loop-line.invariant c.loop-line-test.true c.in_ok-need.ensures

pub returns : goal.returns
returns c = all_of raw_need (need_written c.args.instance.now) c.loop-line.list.items c.args.lines.now c.loop-line.line-index c.loop-line.invariant c.loop-line-test.false
