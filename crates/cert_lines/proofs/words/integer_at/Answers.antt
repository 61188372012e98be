use Rattle.std.proofs.Common.{◌≡◌, ◌∙◌, ◌∷◌, arith, ap, decimal, refl}
use Rattle.cert_lines.specs.Words.{word_at}
use Rattle.cert_lines.proofs.Splits.{no_sign, word_read, words_in}
use Rattle.cert_lines.proofs.words.integer_at.Goals as goal

pub returns-then-number-eq0-clause-none : goal.returns-then-number-eq0-clause-none
returns-then-number-eq0-clause-none c = λ _ z small same.
    let read : word_at (words_in c.args.words.now) c.args.place ≡ 45 ∷ decimal c.in-Some-number_after.number = word_read c.args.words.now c.args.place c.if-place-words.false ∙ c.in-Some-number_after.ensures.some.0 in
    no_sign (word_at (words_in c.args.words.now) c.args.place) (λ n below. c.in_default.ensures.none refl n (omega arith) (omega (arith, below))) (read ∙ ap (λ n. 45 ∷ decimal n) c.if-number-eq0.true) z small same
