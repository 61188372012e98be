use Rattle.std.proofs.Common.{◌≡◌, ◌≤◌, ◌+◌, ⊎_elim, subst, sym, arith, length, map}
use Rattle.std.specs.List.{All}
use Rattle.std.proofs.lemmas.Bool.{cases_lt}
use Rattle.std.proofs.lemmas.List.{length-map}
use Rattle.lot_sizing.specs.declared.limits.TheConstants.{MAX_BILL_LINES}
use Rattle.bill.specs.Lines.{IsLine, lines_of}
use Rattle.bill.proofs.Rows.{lent_read}
use Rattle.bill.proofs.lines.is_bill.Goals as goal

pub returns-then-not-are_needs : goal.returns-then-not-are_needs
returns-then-not-are_needs c =
    let vs = c.args.lines.now in
    let k = c.loop-place.place in
    let count = length-map vs (λ r. r.now) in
    let read = lent_read vs k _ c.loop-place-test.true in (
      λ no. cc no,
      λ are. cc (
        c.if-not-are_needs.true,
        c.are_needs.ensures.1 (subst (λ xs. (length xs ≤ MAX_BILL_LINES) × All (IsLine (length vs)) xs) (sym read) (
          are.few (k + 1) (omega arith) (omega (arith, count, c.loop-place-test.true)),
          subst (λ n. All (IsLine n) (lines_of (map (λ r. r.now) vs) (k + 1))) count (are.each (k + 1) (omega arith) (omega (arith, count, c.loop-place-test.true))),
        )),
      ),
    )

pub loop-place-preserved : goal.loop-place-preserved
loop-place-preserved c = λ j low high.
    let vs = c.args.lines.now in
    let k = c.loop-place.place in
    ⊎_elim
    (λ before. c.loop-place.invariant j low (omega (arith, before)))
    (λ no.
    let same : j ≡ k + 1 = omega (arith, no, high) in
    let read = lent_read vs k _ c.loop-place-test.true in
    subst (λ n. (length (lines_of (map (λ r. r.now) vs) n) ≤ MAX_BILL_LINES) × All (IsLine (length vs)) (lines_of (map (λ r. r.now) vs) n)) (sym same) (subst (λ xs. (length xs ≤ MAX_BILL_LINES) × All (IsLine (length vs)) xs) read (c.are_needs.ensures.0 c.if-not-are_needs.false)))
    (cases_lt j (k + 1))
