use Rattle.std.proofs.Common.{arith, map, subst, sym}
use Rattle.std.proofs.lemmas.List.{length-map}
use Rattle.cert_lines.specs.Shapes.{cut_shape}
use Rattle.branching.proofs.Openings.{AreMadeTo, all_made, cut_made, ls_at, none_made, shape_at, shapes_exist}
use Rattle.branching.proofs.beginning.rows_of.Goals as goal

pub loop-cut-init : goal.loop-cut-init
loop-cut-init c = subst (AreMadeTo c.args.instance.now (map cut_shape c.args.cuts.now) 0) (sym c.new-rows.ensures.items) (none_made c.args.instance.now (map cut_shape c.args.cuts.now))

pub row_of-requires-clause-ls : goal.row_of-requires-clause-ls
row_of-requires-clause-ls c = ls_at c.args.cuts.now c.loop-cut.cut-index c.cut-item.result c.loop-cut-test.true c.cut-item.is c.requires

pub loop-cut-preserved : goal.loop-cut-preserved
loop-cut-preserved c =
    let m = c.args.instance.now in
    let cuts = c.args.cuts.now in
    let k = c.loop-cut.cut-index in
    let cut = c.cut-item.result in
    cut_made m (map cut_shape cuts) k c.loop-cut.rows.items c.push.new.self.items (cut_shape cut) c.in_ok-row.row c.cut_rows_go_on.ensures.more c.cut_rows_go_on.ensures.small (shapes_exist cuts k c.loop-cut-test.true) (shape_at cuts k cut c.loop-cut-test.true c.cut-item.is) c.in_ok-push.ensures.items c.loop-cut.invariant
    (rw c.deref.ensures.value at c.in_ok-row.ensures.row)
    (rw c.deref.ensures.value at c.in_ok-row.ensures.small)
    c.in_ok-row.ensures.columns_exist

pub returns-clause-rows : goal.returns-clause-rows
returns-clause-rows c =
    let m = c.args.instance.now in
    let cuts = map cut_shape c.args.cuts.now in
    all_made m cuts c.loop-cut.cut-index c.loop-cut.rows.items (omega (arith, c.loop-cut-test.false, c.loop-cut.auto.cut-index-end, length-map c.args.cuts.now cut_shape)) c.loop-cut.invariant
