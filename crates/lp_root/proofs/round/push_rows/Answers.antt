use Rattle.std.proofs.Common.{arith}
use Rattle.lp_root.proofs.RootRounds.{program_few, program_more, row_here}
use Rattle.lp_root.proofs.round.push_rows.Goals as goal

pub push_cut-requires-clause-columns : goal.push_cut-requires-clause-columns
push_cut-requires-clause-columns c =
    let (cuts, are) = c.requires.rows in
    (row_here c.args.instance.now c.args.rows.now c.loop-index.index c.index-rows-index.result c.loop-index-test.true c.index-rows-index.is c.loop-index.program c.loop-index.invariant cuts are).1.columns

pub push_cut-requires-clause-small : goal.push_cut-requires-clause-small
push_cut-requires-clause-small c =
    let (cuts, are) = c.requires.rows in
    (row_here c.args.instance.now c.args.rows.now c.loop-index.index c.index-rows-index.result c.loop-index-test.true c.index-rows-index.is c.loop-index.program c.loop-index.invariant cuts are).1.small

pub push_cut-requires-clause-unequal : goal.push_cut-requires-clause-unequal
push_cut-requires-clause-unequal c =
    let (cuts, are) = c.requires.rows in
    (row_here c.args.instance.now c.args.rows.now c.loop-index.index c.index-rows-index.result c.loop-index-test.true c.index-rows-index.is c.loop-index.program c.loop-index.invariant cuts are).1.unequal

pub push_cut-requires-clause-few : goal.push_cut-requires-clause-few
push_cut-requires-clause-few c =
    program_few c.args.instance.now c.args.rows.now c.loop-index.index c.index-rows-index.result c.loop-index-test.true c.index-rows-index.is c.loop-index.program c.loop-index.invariant c.rounds_are_few.ensures c.an_instance_breaks_no_rule.ensures c.requires.few

pub loop-index-preserved : goal.loop-index-preserved
loop-index-preserved c =
    let more = c.in_ok-push_cut.ensures in
    program_more c.args.instance.now c.args.rows.now c.loop-index.index c.index-rows-index.result c.loop-index-test.true c.index-rows-index.is c.loop-index.program c.loop-index.invariant _ c.push_cut.new.round (omega arith) more.lp more.fits more.round
