use Rattle.std.proofs.Common.{◌≡◌, ◌+◌, ◌^◌, arith, codes, length}
use Rattle.cert_lines.specs.Words.{IsListFrom}
use Rattle.cert_lines.proofs.Splits.{words_in}
use Rattle.cert_lines.proofs.Listed.{given, moved, not_there, nothing, other_back, other_hold, other_unit}
use Rattle.cert_lines.proofs.lists.read_four.Goals as goal

pub returns-in_default-3-clause-none : goal.returns-in_default-3-clause-none
returns-in_default-3-clause-none c = λ _ item xs bs cs ds next f.
    let ws = words_in c.args.words.now in
    let a = c.in-Some-2.first.items in
    let first : IsListFrom ws (2 ^ 64) 3 a = given _ c.in_ok-first.field-0 c.in-Some-2.first c.in-Some-2.is c.in_ok-first.ensures.list in
    let none = c.in_ok-unit.ensures.none (nothing c.in_ok-unit.field-0 c.in_default-3.is) in
    other_unit ws c.args.word.now c.args.letter.now item next xs bs cs ds a first (not_there ws (codes "g") (3 + c.len-place.result) (3 + length a) (omega (arith, c.len-place.ensures)) none) f

pub returns-in_default-4-clause-none : goal.returns-in_default-4-clause-none
returns-in_default-4-clause-none c = λ _ item xs bs cs ds next f.
    let ws = words_in c.args.words.now in
    let a = c.in-Some-2.first.items in
    let b = c.in-Some-3.unit.items in
    let place = 3 + c.len-place.result + 1 in
    let after = place + c.len.result in
    let at : place ≡ 4 + length a = omega (arith, c.len-place.ensures) in
    let first : IsListFrom ws (2 ^ 64) 3 a = given _ c.in_ok-first.field-0 c.in-Some-2.first c.in-Some-2.is c.in_ok-first.ensures.list in
    let unit : IsListFrom ws (2 ^ 64) (4 + length a) b = moved ws (2 ^ 64) place (4 + length a) b at (given _ c.in_ok-unit.field-0 c.in-Some-3.unit c.in-Some-3.is c.in_ok-unit.ensures.list) in
    let none = c.in_ok-hold.ensures.none (nothing c.in_ok-hold.field-0 c.in_default-4.is) in
    other_hold ws c.args.word.now c.args.letter.now item next xs bs cs ds a b first unit (not_there ws (codes "h") after (4 + length a + length b) (omega (arith, at, c.len.ensures)) none) f

pub returns-in_default-5-clause-none : goal.returns-in_default-5-clause-none
returns-in_default-5-clause-none c = λ _ item xs bs cs ds next f.
    let ws = words_in c.args.words.now in
    let a = c.in-Some-2.first.items in
    let b = c.in-Some-3.unit.items in
    let d = c.in-Some-4.hold.items in
    let place = 3 + c.len-place.result + 1 in
    let after = place + c.len.result + 1 in
    let last = after + c.len-2.result in
    let at : place ≡ 4 + length a = omega (arith, c.len-place.ensures) in
    let at_two : after ≡ 5 + length a + length b = omega (arith, at, c.len.ensures) in
    let first : IsListFrom ws (2 ^ 64) 3 a = given _ c.in_ok-first.field-0 c.in-Some-2.first c.in-Some-2.is c.in_ok-first.ensures.list in
    let unit : IsListFrom ws (2 ^ 64) (4 + length a) b = moved ws (2 ^ 64) place (4 + length a) b at (given _ c.in_ok-unit.field-0 c.in-Some-3.unit c.in-Some-3.is c.in_ok-unit.ensures.list) in
    let hold : IsListFrom ws (2 ^ 64) (5 + length a + length b) d = moved ws (2 ^ 64) after (5 + length a + length b) d at_two (given _ c.in_ok-hold.field-0 c.in-Some-4.hold c.in-Some-4.is c.in_ok-hold.ensures.list) in
    let none = c.in_ok-back.ensures.none (nothing c.in_ok-back.field-0 c.in_default-5.is) in
    other_back ws c.args.word.now c.args.letter.now item next xs bs cs ds a b d first unit hold (not_there ws (codes "b") last (5 + length a + length b + length d) (omega (arith, at_two, c.len-2.ensures)) none) f
