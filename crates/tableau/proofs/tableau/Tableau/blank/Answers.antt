use Rattle.std.proofs.Common.{ap, arith, ◌+◌}
use Rattle.std.proofs.lemmas.List.{length-map}
use Rattle.tableau.specs.Held.{inequality_of}
use Rattle.tableau.specs.Program.{column_count, row_count}
use Rattle.tableau.proofs.Apart.{is_blank}
use Rattle.tableau.proofs.tableau.Tableau.blank.Goals as goal

pub returns : goal.returns
returns c = is_blank c.args.lp.now c.in_ok-basic.basic.items c.in_ok-nonbasic.nonbasic.items c.in_ok-constants.constants.items c.in_ok-cells.cells.items c.len-columns.result c.len-rows.result (c.len-columns.result + 1 + c.len-rows.result)
    (omega (arith, c.len-columns.ensures, c.lp.inside.costs.ok.0, ap column_count c.lp.view_is))
    (omega (arith, c.len-rows.ensures, c.lp.inside.rows.ok.0, length-map c.lp.inside.rows.items inequality_of, ap row_count c.lp.view_is))
    c.in_ok-basic.ensures c.in_ok-nonbasic.ensures (omega arith) c.in_ok-constants.ensures.zero c.in_ok-cells.ensures.zero
