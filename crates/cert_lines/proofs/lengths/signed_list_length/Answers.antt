use Rattle.std.proofs.Common.{◌≡◌, FitsSigned, ap, arith, length, of_z, rules, slice_index_or, to_z}
use Rattle.std.specs.Prelude.{pos}
use Rattle.std.specs.Int.{w128}
use Rattle.std.specs.Fmt.{signed_decimal}
use mir.Facts.{to_z-of_z}
use Rattle.cert_lines.specs.Text.{signed_text}
use Rattle.cert_lines.proofs.Joins.{length_more}
use Rattle.cert_lines.proofs.lengths.signed_list_length.Goals as goal

pub loop-number-preserved : goal.loop-number-preserved
loop-number-preserved c =
    let more = length_more signed_text c.args.list.now c.loop-number.number-index (pos 0) c.loop-number-test.true in
    let x = slice_index_or c.args.list.now c.loop-number.number-index (pos 0) in
    let fits : FitsSigned w128 x = search rules in
    let same : to_z w128 (of_z w128 x) ≡ x = to_z-of_z fits in
    (omega (arith, more, c.loop-number.invariant.0, c.signed_length.ensures.value, ap (λ z. length (signed_decimal z)) same), omega (arith, c.loop-number.invariant.1, c.signed_length.ensures.small))
