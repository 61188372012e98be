use Rattle.report.specs.Draws.{generator_of}
use Rattle.report.specs.Generated.{item_table}
use Rattle.report.proofs.GeneratedDraws.{items_step}
use Rattle.report.proofs.generating_tables.item_list.Goals as goal

pub loop-done-preserved : goal.loop-done-preserved
loop-done-preserved c =
    let (list, rng) = c.loop-done.invariant in
    items_step (item_table c.args.coupled c.args.items) c.args.coupled c.args.periods c.loop-done.done (generator_of c.args.seed) c.loop-done.rng c.draw_item.new.rng c.loop-done.list.items c.push.new.self.items c.in_ok-drawn.drawn c.in_ok-item.field-0 list rng c.in_ok-drawn.ensures c.in_ok-item.ensures c.in_ok-push.ensures.items
