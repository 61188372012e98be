use Rattle.std.proofs.Common.{ap, arith, length, slice_index_or, subst, sym, take}
use Rattle.std.specs.List.{All}
use Rattle.std.proofs.lemmas.List.{take_all, take_more}
use Rattle.std.proofs.lemmas.List.Elements.{All-push}
use Rattle.lin_rows.specs.Texts.{one_text}
use Rattle.cert_lines.specs.Limits.{Is64}
use Rattle.cert_lines.proofs.Joins.{length_more}
use Rattle.cert_lines.proofs.lengths.list_length.Goals as goal

pub loop-number-preserved : goal.loop-number-preserved
loop-number-preserved c =
    let more = length_more one_text c.args.list.now c.loop-number.number-index 0 c.loop-number-test.true in
    let next : Is64 (slice_index_or c.args.list.now c.loop-number.number-index 0) = omega arith in (
      omega (arith, more, c.loop-number.invariant.0, c.one_length-sum.ensures.value, ap (λ n. length (one_text n)) c.from.ensures),
      omega (arith, c.loop-number.invariant.1, c.one_length-sum.ensures.small),
      subst (All Is64) (sym (take_more c.args.list.now c.loop-number.number-index 0 c.loop-number-test.true)) (All-push Is64 (take c.loop-number.number-index c.args.list.now) (slice_index_or c.args.list.now c.loop-number.number-index 0) c.loop-number.invariant.2 next),
    )

pub returns-clause-fits : goal.returns-clause-fits
returns-clause-fits c = subst (All Is64) (take_all c.loop-number.number-index c.args.list.now c.loop-number-test.false) c.loop-number.invariant.2
