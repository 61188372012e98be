use Rattle.std.proofs.Common.{◌≡◌, ◌<◌, ◌+◌, ◌++◌, List, arith, drop, length, rules, slice_index_or, subst}
use Rattle.lot_io.specs.Outside.{Shelved}
use Rattle.lot_sizing.specs.Plan.{IsFeasible, Plan}
use Rattle.lin_rows.specs.Columns.{value_in}
use Rattle.lin_rows.specs.Combining.{AllHold}
use Rattle.lin_rows.specs.Rows.{HoldsIn, whole_point}
use Rattle.cert_lines.specs.Shapes.{CutShape}
use Rattle.certificate.specs.Values.{Values, all_cut_values}
use Rattle.cert_checker.specs.Cuts.{IsCutFault, OfProblem}
use Rattle.cert_checker.specs.Checks.{IsCutsFault, no_cut}
use Rattle.stream_check.specs.Passes.{Awaits, IsRefusal}
use Rattle.stream_check.specs.Rows.{IsRowOf}
use Rattle.stream_check.proofs.Cuts.{all_read, cut_read, cut_refused, next_awaits, row_read}
use Rattle.stream_check.proofs.Ways.{on_on}
use Rattle.stream_check.proofs.rows.read_rows.Goals as goal

pub returns-in_err-row-clause-awaited : goal.returns-in_err-row-clause-awaited
returns-in_err-row-clause-awaited g c =
    let m = c.args.instance.now in
    let name = c.args.text.name.now in
    let k = c.loop.counter in
    let rows = c.loop.rows.items in
    let now : Shelved = g.S.Shelf.shown c.loop.shelf in
    let new : Shelved = g.S.Shelf.shown c.read_row.new.shelf in
    let f = c.in_err-row.field-0.0 in
    let why : (cuts : List CutShape) (ls : Values) → length cuts ≡ c.args.count → Awaits (g.S.Shelf.shown c.args.shelf.now) name c.args.reader.now c.args.text.version (all_cut_values cuts ++ ls) → IsRefusal (λ at w. OfProblem m (λ total weight. IsCutsFault m total weight cuts at w)) f = λ cuts ls size awaits.
    let so_far = c.loop.invariant.awaited cuts ls size awaits in
    let less : k < length cuts = omega (arith, size, c.loop-test.true) in
    let cut = slice_index_or cuts k no_cut in
    let refused = c.in_err-row.ensures.awaited cut (all_cut_values (drop (k + 1) cuts) ++ ls) (next_awaits m c.args.text.version name now new c.loop.reader c.read_row.new.reader cuts ls k rows less so_far) in
    cut_refused m c.args.text.version name now new c.loop.reader c.read_row.new.reader cuts ls k rows f less so_far
    (subst (λ rs. IsRefusal (λ at w. OfProblem m (λ total weight. IsCutFault m total weight rs cut c.loop.reader.number at w)) f) c.deref.ensures.value refused) in
    search (rules, why)

pub loop-preserved : goal.loop-preserved
loop-preserved g c =
    let m = c.args.instance.now in
    let name = c.args.text.name.now in
    let k = c.loop.counter in
    let rows = c.loop.rows.items in
    let row = c.in_ok-row.row in
    let more = c.push.new.self.items in
    let now : Shelved = g.S.Shelf.shown c.loop.shelf in
    let new : Shelved = g.S.Shelf.shown c.read_row.new.shelf in
    row_read m c.args.text.version name (g.S.Shelf.shown c.args.shelf.now) now new c.args.reader.now c.loop.reader c.read_row.new.reader c.args.count k rows more row c.loop.invariant (on_on c.loop.invariant.on c.in_ok-row.ensures.step.on) c.in_ok-push.ensures.items
    (subst (λ rs. (p : Plan) → IsFeasible m p → AllHold (whole_point (value_in p)) rs → HoldsIn p row) c.deref.ensures.value c.in_ok-row.ensures.holds)
    c.in_ok-row.ensures.columns_exist
    (λ cuts ls size so_far.
    let less : k < length cuts = omega (arith, size, c.loop-test.true) in
    let cut = slice_index_or cuts k no_cut in
    let given = c.in_ok-row.ensures.awaited cut (all_cut_values (drop (k + 1) cuts) ++ ls) (next_awaits m c.args.text.version name now new c.loop.reader c.read_row.new.reader cuts ls k rows less so_far) in
    cut_read m c.args.text.version name now new c.loop.reader c.read_row.new.reader cuts ls k rows more row c.cut_rows_go_on.ensures.more c.cut_rows_go_on.ensures.small less c.in_ok-push.ensures.items so_far (subst (λ rs. IsRowOf m rs cut row) c.deref.ensures.value given.0) given.1 given.2)

pub returns-clause-awaited : goal.returns-clause-awaited
returns-clause-awaited g c = λ cuts ls size awaits.
    let shelf : Shelved = g.S.Shelf.shown c.loop.shelf in
    all_read c.args.instance.now c.args.text.version c.args.text.name.now shelf shelf c.loop.reader c.loop.reader cuts ls c.loop.counter c.loop.rows.items (omega (arith, size, c.loop-test.false, c.loop.auto.counter-end)) (c.loop.invariant.awaited cuts ls size awaits)
