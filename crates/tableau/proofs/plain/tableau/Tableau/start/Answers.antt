use Rattle.std.proofs.Common.{◌≡◌, ◌<◌, ◌+◌, ◌-◌, ◌∙◌, ap, arith, subst, sym, length}
use Rattle.std.proofs.lemmas.List.{length-map}
use Rattle.tableau.specs.Held.{inequality_of, program_in}
use Rattle.tableau.specs.Program.{IsRow, column_count, row_at, row_count}
use Rattle.tableau.specs.Dictionary.{width}
use Rattle.tableau.specs.Starts.{GainsRow}
use Rattle.tableau.proofs.Starts.{row_held, row_of, start_next}
use Rattle.tableau.proofs.plain.tableau.Tableau.start.Goals as goal

pub put_row-requires-clause-terms : goal.put_row-requires-clause-terms
put_row-requires-clause-terms c =
    let p = program_in c.lp.inside in
    let k = c.loop-row.row in
    let less : k < length c.lp.inside.rows.items = omega (arith, c.loop-row-test.true, c.len-row-end.ensures, c.lp.inside.rows.ok.0) in
    let is : row_at p k ≡ inequality_of c.index.result.now = row_held c.lp.inside.costs.items c.lp.inside.rows.items k c.index.result.now c.index.result.now less c.index.ensures in
    let row : IsRow (column_count p) (row_at p k) = row_of (column_count p) p.rows k c.lp.invariant.rows (omega (arith, less, length-map c.lp.inside.rows.items inequality_of)) in
    let last : column_count p ≡ width c.loop-row.tableau - 1 = omega (arith, c.loop-row.invariant.columns, ap column_count c.lp.view_is) in
    subst (λ n. IsRow n (inequality_of c.index.result.now)) last (subst (IsRow (column_count p)) is row)

pub loop-row-preserved : goal.loop-row-preserved
loop-row-preserved c =
    let p = program_in c.lp.inside in
    let k = c.loop-row.row in
    let less : k < length c.lp.inside.rows.items = omega (arith, c.loop-row-test.true, c.len-row-end.ensures, c.lp.inside.rows.ok.0) in
    let is : row_at p k ≡ inequality_of c.index.result.now = row_held c.lp.inside.costs.items c.lp.inside.rows.items k c.index.result.now c.index.result.now less c.index.ensures in
    let row : GainsRow (row_at c.args.lp.now k) (k + 1) c.loop-row.tableau c.put_row.new.self = subst (λ r. GainsRow r (k + 1) c.loop-row.tableau c.put_row.new.self) (sym is ∙ ap (λ q. row_at q k) c.lp.view_is) c.put_row.ensures in
    start_next c.args.lp.now k c.loop-row.tableau c.put_row.new.self (omega (arith, less, length-map c.lp.inside.rows.items inequality_of, ap row_count c.lp.view_is)) c.loop-row.invariant row
