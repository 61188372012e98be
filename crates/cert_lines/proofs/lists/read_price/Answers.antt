use Rattle.std.proofs.Common.{codes, length}
use Rattle.cert_lines.proofs.Splits.{words_in}
use Rattle.cert_lines.proofs.Listed.{given, same_four}
use Rattle.cert_lines.proofs.lists.read_price.Goals as goal

pub returns-then-four-words-clause-none : goal.returns-then-four-words-clause-none
returns-then-four-words-clause-none c = λ _ item xs bs cs ds f.
    let four = given _ c.in_ok-four.field-0 c.in-Some.four c.in-Some.is c.in_ok-four.ensures.some in
    c.if-four-words.true (same_four (words_in c.args.words.now) (codes "price") (codes "w") c.in-Some.four.item item c.in-Some.four.next (length c.args.words.now) c.in-Some.four.first.items c.in-Some.four.unit.items c.in-Some.four.hold.items c.in-Some.four.back.items xs bs cs ds four f)
