use Rattle.std.proofs.Common.{◌<◌, ◌∙◌, ap, subst, sym, length, slice_index_or, true, false}
use Rattle.cert_lines.specs.Text.{bits_text}
use Rattle.cert_lines.proofs.Listed.{bit_byte, bits_more}
use Rattle.cert_lines.proofs.lists.read_bits.Goals.{then-byte-eq49+in_ok-push, else-byte-eq49+then-byte-eq48+in_ok-push-2}
use Rattle.cert_lines.proofs.lists.read_bits.Goals as goal

pub returns-else-byte-eq48-clause-none : goal.returns-else-byte-eq48-clause-none
returns-else-byte-eq48-clause-none c = λ _ bits same.
    let k = c.loop-place.place in
    bit_byte bits k (subst (λ t. k < length t) same c.loop-place-test.true) (λ e. c.if-byte-eq49.false (ap (λ t. slice_index_or t k 0) same ∙ e)) (λ e. c.if-byte-eq48.false (ap (λ t. slice_index_or t k 0) same ∙ e))

pub loop-place-preserved : goal.loop-place-preserved
loop-place-preserved c =
    let word = c.args.word.now in
    let k = c.loop-place.place in
    elim c.if-byte-eq49.branch [
      | then-byte-eq49+in_ok-push w ↦ bits_more word k c.loop-place.bits.items true c.loop-place-test.true w.if-byte-eq49.true c.loop-place.invariant ∙ ap bits_text (sym (ap (λ v. v.items) w.bits-is ∙ w.in_ok-push.ensures.items))
      | else-byte-eq49+then-byte-eq48+in_ok-push-2 w ↦ bits_more word k c.loop-place.bits.items false c.loop-place-test.true w.if-byte-eq48.true c.loop-place.invariant ∙ ap bits_text (sym (ap (λ v. v.items) w.bits-is ∙ w.in_ok-push-2.ensures.items))
    ]
