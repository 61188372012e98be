use Rattle.std.proofs.Common.{◌*◌, ◌∙◌, ap, subst, sym}
use Rattle.quantity_dp.specs.Table.{IsNextEntry, brought}
use Rattle.quantity_dp.proofs.Entries.{entry_some, started_small}
use Rattle.quantity_dp.proofs.table.entry.Goals as goal

pub brought_to-requires-clause-price : goal.brought_to-requires-clause-price
brought_to-requires-clause-price c =
    started_small c.args.lot.now c.args.before.now c.args.quantity c.args.least c.made-made.result c.lesser-started.result c.requires.quantity c.requires.size c.if-quantity-lot.false c.requires.priced c.requires.small c.requires.least c.made-made.ensures c.lesser-started.ensures

pub returns : goal.returns
returns c =
    let lot = c.args.lot.now in
    let short = c.brought_to.ensures ∙ ap (λ k. brought c.lesser-started.result (lot.share * k)) c.saturating_sub.ensures in
    subst (IsNextEntry lot c.args.before.now c.args.quantity) (sym short)
    (entry_some lot c.args.before.now c.args.quantity c.args.least c.made-made.result c.lesser-started.result c.requires.quantity c.if-quantity-lot.false c.requires.least c.made-made.ensures c.lesser-started.ensures)
