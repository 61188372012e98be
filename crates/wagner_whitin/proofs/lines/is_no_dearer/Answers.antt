use Rattle.std.proofs.Common.{arith}
use Rattle.std.proofs.lemmas.Bool.{leb-true, leb-false}
use Rattle.echelon.specs.Views.{single_of_item}
use Rattle.wagner_whitin.proofs.Costs.{slope_small, slopes_are}
use Rattle.wagner_whitin.proofs.lines.is_no_dearer.Goals as goal

pub overflow_add-left : goal.overflow_add-left
overflow_add-left c = omega (arith, slope_small (single_of_item c.args.single.now) c.args.sums.now c.args.one c.args.other c.index.result.now c.index-2.result.now c.requires.within c.requires.sums c.requires.one_low c.requires.one_high c.requires.other_low c.requires.other_high c.index.ensures c.index-2.ensures)

pub overflow_add-right : goal.overflow_add-right
overflow_add-right c =
    let are = slopes_are (single_of_item c.args.single.now) c.args.sums.now c.args.one c.args.other c.index.result.now c.index-2.result.now c.index-3.result.now c.index-4.result.now c.requires.within c.requires.sums c.requires.one_low c.requires.one_high c.requires.other_low c.requires.other_high c.index.ensures c.index-2.ensures c.index-3.ensures c.index-4.ensures in
    omega (arith, are.small)

pub returns-clause-yes : goal.returns-clause-yes
returns-clause-yes c holds =
    let are = slopes_are (single_of_item c.args.single.now) c.args.sums.now c.args.one c.args.other c.index.result.now c.index-2.result.now c.index-3.result.now c.index-4.result.now c.requires.within c.requires.sums c.requires.one_low c.requires.one_high c.requires.other_low c.requires.other_high c.index.ensures c.index-2.ensures c.index-3.ensures c.index-4.ensures in
    are.yes (leb-true _ _ holds)

pub returns-clause-no : goal.returns-clause-no
returns-clause-no c fails =
    let are = slopes_are (single_of_item c.args.single.now) c.args.sums.now c.args.one c.args.other c.index.result.now c.index-2.result.now c.index-3.result.now c.index-4.result.now c.requires.within c.requires.sums c.requires.one_low c.requires.one_high c.requires.other_low c.requires.other_high c.index.ensures c.index-2.ensures c.index-3.ensures c.index-4.ensures in
    let above = leb-false _ _ fails in
    are.no (omega (arith, above))
