use Rattle.std.proofs.Common.{arith}
use Rattle.lin_rows.specs.Texts.{one_text}
use Rattle.cert_lines.proofs.Joins.{length_more}
use Rattle.cert_lines.proofs.lengths.wide_list_length.Goals as goal

pub loop-number-preserved : goal.loop-number-preserved
loop-number-preserved c =
    let more = length_more one_text c.args.list.now c.loop-number.number-index 0 c.loop-number-test.true in
    (omega (arith, more, c.loop-number.invariant.0, c.one_length-sum.ensures.value), omega (arith, c.loop-number.invariant.1, c.one_length-sum.ensures.small))
