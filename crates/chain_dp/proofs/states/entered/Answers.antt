use Rattle.std.proofs.Common.{◌≡◌, ◌+◌, ◌∙◌, refl, ap, subst, arith, min, []}
use Rattle.std.proofs.lemmas.List.{get_or_read}
use Rattle.chain_dp.specs.Lists.{at, cell, row_of}
use Rattle.chain_dp.specs.States.{IsNarrow, entering, most_64}
use Rattle.chain_dp.proofs.Narrowed.{narrow_offered}
use Rattle.chain_dp.proofs.states.entered.Goals as goal

pub loop-before-preserved : goal.loop-before-preserved
loop-before-preserved c =
    let gaps = c.args.gaps.now in
    let stretches = c.args.stretches.now in
    let v = c.args.served in
    let n = c.loop-before.before in
    let inv = c.loop-before.invariant in
    let row = c.loop-before.row in
    let new = c.lower.new.self in
    let more = c.narrow-more.result in
    let first : c.index-stretches-before.result ≡ row_of stretches n = get_or_read stretches n c.index-stretches-before.result (omega arith) c.index-stretches-before.is [] in
    let source : c.get.result ≡ cell stretches n v = c.get.ensures ∙ ap (λ r. at r v) first in
    let short : IsNarrow (cell stretches n v) more = subst (λ k. IsNarrow k more) source c.narrow-more.ensures in
    record {
      size = c.lower.ensures.size ∙ inv.size;
      each = λ z low high.
          let lowered = subst (λ r. at new z ≡ min (at row z) (min (at r z + more) most_64)) c.row_at.ensures (c.lower.ensures.done z low (omega (arith, high, inv.size))) in
          narrow_offered 0 n (entering gaps stretches v z) (at row z) (cell gaps n z) more (cell stretches n v) (at new z) (inv.each z low high) (omega arith) short refl lowered;
    }
