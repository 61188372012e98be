use Rattle.std.proofs.Common.{◌≡◌, ◌+◌, ap, arith, decimal, length}
use Rattle.std.proofs.lemmas.List.{length-map}
use Rattle.cert_lines.proofs.Listed.{all_read}
use Rattle.cert_lines.proofs.reduced.shares_after.Goals as goal

pub returns-then-len-words-clause-none : goal.returns-then-len-words-clause-none
returns-then-len-words-clause-none c = λ _ item shares small all words.
    let size : length c.args.words.now ≡ 2 + length shares = omega (arith, words.0, length-map c.args.words.now (λ w. w.now), length-map shares decimal) in
    let same = all_read c.args.words.now 2 shares c.in_ok-shares.shares.items size all words.1.1.1 c.in_ok-shares.ensures.list in
    c.if-len-words.true (omega (arith, size, ap length same, c.len.ensures))
