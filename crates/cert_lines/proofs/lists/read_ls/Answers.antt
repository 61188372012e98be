use Rattle.std.proofs.Common.{◌≡◌, ◌∙◌, ap, arith, length, sym}
use Rattle.cert_lines.specs.Text.{bits_text}
use Rattle.cert_lines.specs.Words.{word_at}
use Rattle.cert_lines.proofs.Splits.{same_number, word_read, words_in}
use Rattle.cert_lines.proofs.Joins.{bits_length}
use Rattle.cert_lines.proofs.Listed.{given}
use Rattle.cert_lines.proofs.lists.read_ls.Goals as goal

pub returns-then-len-last-clause-none : goal.returns-then-len-last-clause-none
returns-then-len-last-clause-none c = λ _ item last chosen item_small low small many words.
    let read = given _ c.in_ok-chosen.field-0 c.in-Some-2.chosen c.in-Some-2.is c.in_ok-chosen.ensures.some in
    let (text, least, most) = c.in-Some-number_at.ensures.some in
    let number = same_number last c.in-Some-number_at.last (omega (arith, small)) (omega (arith, most)) (sym words.1.1.1.0 ∙ text) in
    let word : word_at (words_in c.args.words.now) 3 ≡ bits_text c.in-Some-2.chosen.items = word_read c.args.words.now 3 (omega (arith, c.if-words-ne4.false)) ∙ read in
    let long : length chosen ≡ length c.in-Some-2.chosen.items = sym (bits_length chosen) ∙ ap length (sym words.1.1.1.1.0 ∙ word) ∙ bits_length c.in-Some-2.chosen.items in
    c.if-len-last.true (omega (arith, long, number, many, c.len.ensures))
