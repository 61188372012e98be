use Rattle.std.proofs.Common.{◌∙◌, refl, ap, take}
use Rattle.std.proofs.lemmas.List.{take_all, take_more}
use Rattle.toml.specs.Data.{array}
use Rattle.toml.proofs.Views.{items_view-push, view-Array}
use Rattle.report.proofs.GeneratedTables.{numbers-last}
use Rattle.report.proofs.generating_tables.number_list.Goals as goal

pub loop-amount-preserved : goal.loop-amount-preserved
loop-amount-preserved c =
    rw (c.in_ok-push.ensures.items, take_more c.args.amounts.now c.loop-amount.amount-index 0 c.loop-amount-test.true, numbers-last (take c.loop-amount.amount-index c.args.amounts.now) _, items_view-push c.loop-amount.list.items _, c.loop-amount.invariant, c.number.ensures) refl

pub returns : goal.returns
returns c = view-Array c.loop-amount.list ∙ ap array (rw (take_all c.loop-amount.amount-index c.args.amounts.now c.loop-amount-test.false) at c.loop-amount.invariant)
