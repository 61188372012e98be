use Rattle.std.proofs.Common.{◌≡◌, ◌∙◌, arith, decimal, sym}
use Rattle.cert_lines.specs.Words.{word_at}
use Rattle.cert_lines.proofs.Splits.{no_word, not_empty, same_number, word_read, words_in}
use Rattle.cert_lines.proofs.words.number_at.Goals as goal

pub returns-then-place-words-clause-none : goal.returns-then-place-words-clause-none
returns-then-place-words-clause-none c = λ _ n _ small same. not_empty n (omega (arith, small, c.ranges.most.fits)) (sym (no_word c.args.words.now c.args.place c.if-place-words.true) ∙ same)

pub returns-then-number-least-clause-none : goal.returns-then-number-least-clause-none
returns-then-number-least-clause-none c = λ _ n low small same.
    let (text, most) = c.in-Some.ensures.some in
    let read : word_at (words_in c.args.words.now) c.args.place ≡ decimal c.in-Some.number = word_read c.args.words.now c.args.place c.if-place-words.false ∙ text in
    let number = same_number n c.in-Some.number (omega (arith, small, c.ranges.most.fits)) (omega (arith, most, c.ranges.most.fits)) (sym same ∙ read) in
    omega (arith, number, low, c.if-number-least.true)
