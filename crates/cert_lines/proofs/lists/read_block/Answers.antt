use Rattle.std.proofs.Common.{◌≡◌, ◌+◌, ◌^◌, ap, arith, codes, length, subst, sym}
use Rattle.std.proofs.lemmas.List.{length-map}
use Rattle.cert_lines.specs.Words.{word_at}
use Rattle.cert_lines.proofs.Splits.{words_in}
use Rattle.cert_lines.proofs.Listed.{given, moved, same_four, same_from}
use Rattle.cert_lines.proofs.lists.read_block.Goals as goal

pub returns-then-next-words-clause-none : goal.returns-then-next-words-clause-none
returns-then-next-words-clause-none c = λ _ item xs bs cs ds es f.
    let four = given _ c.in_ok-four.field-0 c.in-Some.four c.in-Some.is c.in_ok-four.ensures.some in
    let same = same_four (words_in c.args.words.now) (codes "block") (codes "f") c.in-Some.four.item item c.in-Some.four.next f.next c.in-Some.four.first.items c.in-Some.four.unit.items c.in-Some.four.hold.items c.in-Some.four.back.items xs bs cs ds four f.four in
    omega (arith, same, f.end, c.if-next-words.true, length-map c.args.words.now (λ w. w.now))

pub returns-then-not-is_word-clause-none : goal.returns-then-not-is_word-clause-none
returns-then-not-is_word-clause-none c = λ _ item xs bs cs ds es f.
    let four = given _ c.in_ok-four.field-0 c.in-Some.four c.in-Some.is c.in_ok-four.ensures.some in
    let same = same_four (words_in c.args.words.now) (codes "block") (codes "f") c.in-Some.four.item item c.in-Some.four.next f.next c.in-Some.four.first.items c.in-Some.four.unit.items c.in-Some.four.hold.items c.in-Some.four.back.items xs bs cs ds four f.four in
    let there : word_at (words_in c.args.words.now) c.in-Some.four.next ≡ codes "p" = subst (λ k. word_at (words_in c.args.words.now) k ≡ codes "p") (sym same) f.steps.0 in
    cc (c.if-not-is_word.ensures.1 there)

pub returns-then-next-len-clause-none : goal.returns-then-next-len-clause-none
returns-then-next-len-clause-none c = λ _ item xs bs cs ds es f.
    let four = given _ c.in_ok-four.field-0 c.in-Some.four c.in-Some.is c.in_ok-four.ensures.some in
    let same = same_four (words_in c.args.words.now) (codes "block") (codes "f") c.in-Some.four.item item c.in-Some.four.next f.next c.in-Some.four.first.items c.in-Some.four.unit.items c.in-Some.four.hold.items c.in-Some.four.back.items xs bs cs ds four f.four in
    let steps = same_from (words_in c.args.words.now) (2 ^ 127) (c.in-Some.four.next + 1) es c.in_ok-steps.steps.items (omega arith) (moved (words_in c.args.words.now) (2 ^ 127) (f.next + 1) (c.in-Some.four.next + 1) es (omega (arith, same)) f.steps.1) c.in_ok-steps.ensures.list in
    c.if-next-len.true (omega (arith, ap length steps, same, f.end, c.len.ensures, length-map c.args.words.now (λ w. w.now)))
