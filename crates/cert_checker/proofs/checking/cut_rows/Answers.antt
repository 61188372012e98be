use Rattle.std.proofs.Common.{◌≡◌, ◌+◌, length, arith, rules, map, subst, sym}
use Rattle.std.proofs.lemmas.List.{length-map}
use Rattle.cert_lines.specs.Shapes.{cut_shape}
use Rattle.cert_checker.specs.Checks.{CutsHaveFault}
use Rattle.cert_checker.proofs.CheckCuts.{AreMade, all_good, all_made, cut_fault, cut_made, divisor_at, lines_within, shape_at, shapes_exist}
use Rattle.cert_checker.proofs.CheckLines.{lines_of_cut}
use Rattle.cert_checker.proofs.checking.cut_rows.Goals as goal

pub cut_row_in-requires-clause-divisor : goal.cut_row_in-requires-clause-divisor
cut_row_in-requires-clause-divisor c = divisor_at c.args.cuts.now c.loop-cut.cut-index c.cut-item.result c.loop-cut-test.true c.cut-item.is c.requires.divisors

pub cut_row_in-requires-clause-lines : goal.cut_row_in-requires-clause-lines
cut_row_in-requires-clause-lines c =
    let cuts = c.args.cuts.now in
    let k = c.loop-cut.cut-index in
    let cut = c.cut-item.result in
    omega (
      arith,
      lines_within (map cut_shape cuts) k c.loop-cut.line (cut_shape cut) (shapes_exist cuts k c.loop-cut-test.true) (shape_at cuts k cut c.loop-cut-test.true c.cut-item.is) c.loop-cut.invariant.after,
      lines_of_cut (cut_shape cut),
      c.requires.lines,
    )

pub overflow_add-line : goal.overflow_add-line
overflow_add-line c =
    let cuts = c.args.cuts.now in
    let k = c.loop-cut.cut-index in
    let cut = c.cut-item.result in
    omega (
      arith,
      lines_within (map cut_shape cuts) k c.loop-cut.line (cut_shape cut) (shapes_exist cuts k c.loop-cut-test.true) (shape_at cuts k cut c.loop-cut-test.true c.cut-item.is) c.loop-cut.invariant.after,
      c.cut_lines_count-line.ensures,
      c.requires.lines,
    )

pub returns-in_err-row-clause-fault : goal.returns-in_err-row-clause-fault
returns-in_err-row-clause-fault c =
    let m = c.args.instance.now in
    let cuts = c.args.cuts.now in
    let k = c.loop-cut.cut-index in
    let cut = c.cut-item.result in
    let why : CutsHaveFault m (map cut_shape cuts) c.in_err-row.field-0.0 =
    cut_fault m (map cut_shape cuts) k c.loop-cut.rows.items c.loop-cut.line (cut_shape cut) c.in_err-row.field-0.0 (shapes_exist cuts k c.loop-cut-test.true) (shape_at cuts k cut c.loop-cut-test.true c.cut-item.is) c.loop-cut.invariant
    (rw c.deref.ensures.value at c.in_err-row.ensures.fault) in
    search (rules, why)

pub loop-cut-preserved : goal.loop-cut-preserved
loop-cut-preserved c =
    let m = c.args.instance.now in
    let cuts = c.args.cuts.now in
    let k = c.loop-cut.cut-index in
    let cut = c.cut-item.result in
    let shape = cut_shape cut in
    let row = c.in_ok-row.row in
    let made = cut_made m (map cut_shape cuts) k c.loop-cut.rows.items c.loop-cut.line shape c.push.new.self.items row c.cut_rows_go_on.ensures.more c.cut_rows_go_on.ensures.small (shapes_exist cuts k c.loop-cut-test.true) (shape_at cuts k cut c.loop-cut-test.true c.cut-item.is) c.in_ok-push.ensures.items c.loop-cut.invariant
    (rw c.deref.ensures.value at c.in_ok-row.ensures.row)
    (rw c.deref.ensures.value at c.in_ok-row.ensures.small)
    (rw c.deref.ensures.value at c.in_ok-row.ensures.holds)
    c.in_ok-row.ensures.columns_exist in
    subst (λ n. AreMade m (map cut_shape cuts) (k + 1) c.push.new.self.items (c.loop-cut.line + n)) (sym c.cut_lines_count-line.ensures) made

pub returns-clause-good : goal.returns-clause-good
returns-clause-good c =
    let m = c.args.instance.now in
    let cuts = map cut_shape c.args.cuts.now in
    let all : c.loop-cut.cut-index ≡ length cuts = omega (arith, c.loop-cut-test.false, c.loop-cut.auto.cut-index-end, length-map c.args.cuts.now cut_shape) in
    all_good m cuts c.loop-cut.rows.items c.loop-cut.line (all_made m cuts c.loop-cut.cut-index c.loop-cut.rows.items c.loop-cut.line all c.loop-cut.invariant)
