use Rattle.std.proofs.Common.{◌+◌, ◌^◌, arith, sym, subst}
use Rattle.cert_lines.proofs.Splits.{words_in}
use Rattle.cert_lines.proofs.Listed.{IsListTo, list_end, list_more, no_number}
use Rattle.cert_lines.proofs.lists.numbers_from.Goals as goal

pub loop-place-preserved : goal.loop-place-preserved
loop-place-preserved c =
    let ws = words_in c.args.words.now in
    let (text, low, high) = c.in-Some.ensures.some in
    subst (λ xs. IsListTo ws (2 ^ 64) c.args.from (c.loop-place.place + 1) xs) (sym c.in_ok-push-in-Some.ensures.items) (list_more ws (2 ^ 64) c.args.from c.loop-place.place c.loop-place.list.items c.in-Some.number text (omega (arith, high)) c.loop-place.invariant)

pub returns-clause-list : goal.returns-clause-list
returns-clause-list c =
    let ws = words_in c.args.words.now in
    list_end ws (2 ^ 64) c.args.from c.loop-place.place c.loop-place.list.items (no_number c.args.words.now (2 ^ 64) c.loop-place.place (omega arith) c.loop-place-test.false) c.loop-place.invariant
