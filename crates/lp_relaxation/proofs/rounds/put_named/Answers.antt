use Rattle.std.proofs.Common.{◌∙◌, ap, map}
use Rattle.std.proofs.lemmas.List.{take_all}
use Rattle.lin_rows.specs.Base.{row_of}
use Rattle.tableau.specs.Held.{inequality_of}
use Rattle.lp_relaxation.specs.Sides.{all_sides, program_rows}
use Rattle.lp_relaxation.proofs.Making.{rows_more, sides_more}
use Rattle.lp_relaxation.proofs.rounds.put_named.Goals as goal

pub loop-index-preserved : goal.loop-index-preserved
loop-index-preserved c =
    let m = c.args.instance.now in
    let names = c.args.names.now in
    let k = c.loop-index.index in
    record {
      sides = λ total totals. sides_more (row_of m total) names k _ c.in_ok-row.row c.loop-index.sides.items c.put_row.new.sides.items c.loop-index-test.true (c.in_ok-row.ensures.row total totals) (c.loop-index.invariant.sides total totals) c.in_ok-put_row.ensures.sides;
      rows = λ total totals. rows_more m (row_of m total) names k _ c.in_ok-row.row (map inequality_of c.loop-index.rows.items) (map inequality_of c.put_row.new.rows.items) c.loop-index-test.true (c.in_ok-row.ensures.row total totals) (c.loop-index.invariant.rows total totals) c.in_ok-put_row.ensures.rows;
      fit = c.in_ok-put_row.ensures.fit c.loop-index.invariant.fit;
    }

pub returns-clause-sides : goal.returns-clause-sides
returns-clause-sides c = λ total totals. c.loop-index.invariant.sides total totals ∙ ap (all_sides (row_of c.args.instance.now total)) (take_all c.loop-index.index c.args.names.now c.loop-index-test.false)

pub returns-clause-rows : goal.returns-clause-rows
returns-clause-rows c = λ total totals.
    let row = row_of c.args.instance.now total in
    c.loop-index.invariant.rows total totals ∙ ap (λ ns. program_rows c.args.instance.now row (all_sides row ns)) (take_all c.loop-index.index c.args.names.now c.loop-index-test.false)
