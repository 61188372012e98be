use Rattle.std.proofs.Common.{◌≡◌, ◌∙◌, sym, ap}
use Rattle.cert_lines.specs.Shapes.{BlockCut, LsCut, PriceCut, RoundCut, block_lists, cut_shape, price_lists}
use Rattle.cert_checker.proofs.CutKinds.{holds_after, shape_fault, shape_row}
use Rattle.cert_checker.proofs.cut.cut_row_in.Goals as goal

pub returns-in-Ls-clause-row : goal.returns-in-Ls-clause-row
returns-in-Ls-clause-row c =
    let same : cut_shape c.args.cut.now ≡ LsCut c.in-Ls.item c.in-Ls.last c.deref.result.now = ap cut_shape c.in-Ls.is ∙ ap (LsCut c.in-Ls.item c.in-Ls.last) (sym c.deref.ensures.value) in
    shape_row c.args.instance.now c.args.earlier.now c.args.line (cut_shape c.args.cut.now) (LsCut c.in-Ls.item c.in-Ls.last c.deref.result.now) same c.ls_cut.result c.ls_cut.ensures.row

pub returns-in-Ls-clause-holds : goal.returns-in-Ls-clause-holds
returns-in-Ls-clause-holds c = holds_after c.args.instance.now c.args.earlier.now c.ls_cut.result c.ls_cut.ensures.holds

pub returns-in-Ls-clause-fault : goal.returns-in-Ls-clause-fault
returns-in-Ls-clause-fault c =
    let same : cut_shape c.args.cut.now ≡ LsCut c.in-Ls.item c.in-Ls.last c.deref.result.now = ap cut_shape c.in-Ls.is ∙ ap (LsCut c.in-Ls.item c.in-Ls.last) (sym c.deref.ensures.value) in
    shape_fault c.args.instance.now c.args.earlier.now c.args.line (cut_shape c.args.cut.now) (LsCut c.in-Ls.item c.in-Ls.last c.deref.result.now) same c.ls_cut.result c.ls_cut.ensures.fault

pub returns-in-Price-clause-row : goal.returns-in-Price-clause-row
returns-in-Price-clause-row c =
    let same : cut_shape c.args.cut.now ≡ PriceCut c.in-Price.item (price_lists c.in-Price.prices) = ap cut_shape c.in-Price.is in
    shape_row c.args.instance.now c.args.earlier.now c.args.line (cut_shape c.args.cut.now) (PriceCut c.in-Price.item (price_lists c.in-Price.prices)) same c.price_cut.result c.price_cut.ensures.row

pub returns-in-Price-clause-holds : goal.returns-in-Price-clause-holds
returns-in-Price-clause-holds c = holds_after c.args.instance.now c.args.earlier.now c.price_cut.result c.price_cut.ensures.holds

pub returns-in-Price-clause-fault : goal.returns-in-Price-clause-fault
returns-in-Price-clause-fault c =
    let same : cut_shape c.args.cut.now ≡ PriceCut c.in-Price.item (price_lists c.in-Price.prices) = ap cut_shape c.in-Price.is in
    shape_fault c.args.instance.now c.args.earlier.now c.args.line (cut_shape c.args.cut.now) (PriceCut c.in-Price.item (price_lists c.in-Price.prices)) same c.price_cut.result c.price_cut.ensures.fault

pub returns-in-Block-clause-row : goal.returns-in-Block-clause-row
returns-in-Block-clause-row c =
    let same : cut_shape c.args.cut.now ≡ BlockCut c.in-Block.item (block_lists c.in-Block.potentials) = ap cut_shape c.in-Block.is in
    shape_row c.args.instance.now c.args.earlier.now c.args.line (cut_shape c.args.cut.now) (BlockCut c.in-Block.item (block_lists c.in-Block.potentials)) same c.block_cut.result c.block_cut.ensures.row

pub returns-in-Block-clause-holds : goal.returns-in-Block-clause-holds
returns-in-Block-clause-holds c = holds_after c.args.instance.now c.args.earlier.now c.block_cut.result c.block_cut.ensures.holds

pub returns-in-Block-clause-fault : goal.returns-in-Block-clause-fault
returns-in-Block-clause-fault c =
    let same : cut_shape c.args.cut.now ≡ BlockCut c.in-Block.item (block_lists c.in-Block.potentials) = ap cut_shape c.in-Block.is in
    shape_fault c.args.instance.now c.args.earlier.now c.args.line (cut_shape c.args.cut.now) (BlockCut c.in-Block.item (block_lists c.in-Block.potentials)) same c.block_cut.result c.block_cut.ensures.fault

pub returns-in-Round-clause-row : goal.returns-in-Round-clause-row
returns-in-Round-clause-row c =
    let same : cut_shape c.args.cut.now ≡ RoundCut c.in-Round.divisor c.deref-in-Round.result.now = ap cut_shape c.in-Round.is ∙ ap (RoundCut c.in-Round.divisor) (sym c.deref-in-Round.ensures.value) in
    shape_row c.args.instance.now c.args.earlier.now c.args.line (cut_shape c.args.cut.now) (RoundCut c.in-Round.divisor c.deref-in-Round.result.now) same c.round_cut.result c.round_cut.ensures.row

pub returns-in-Round-clause-fault : goal.returns-in-Round-clause-fault
returns-in-Round-clause-fault c =
    let same : cut_shape c.args.cut.now ≡ RoundCut c.in-Round.divisor c.deref-in-Round.result.now = ap cut_shape c.in-Round.is ∙ ap (RoundCut c.in-Round.divisor) (sym c.deref-in-Round.ensures.value) in
    shape_fault c.args.instance.now c.args.earlier.now c.args.line (cut_shape c.args.cut.now) (RoundCut c.in-Round.divisor c.deref-in-Round.result.now) same c.round_cut.result c.round_cut.ensures.fault
