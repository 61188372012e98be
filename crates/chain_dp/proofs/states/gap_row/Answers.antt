use Rattle.std.proofs.Common.{◌≡◌, ◌+◌, ◌∙◌, refl, subst, arith, min}
use Rattle.chain_dp.specs.Lists.{at}
use Rattle.chain_dp.specs.States.{gap_cost, leaving, most_64, state}
use Rattle.chain_dp.proofs.Narrowed.{narrow_offered}
use Rattle.chain_dp.proofs.states.gap_row.Goals as goal

pub loop-before-preserved : goal.loop-before-preserved
loop-before-preserved c =
    let low = c.args.low.now in
    let mid = c.args.mid.now in
    let table = c.args.table.now in
    let v = c.args.served in
    let b = c.args.lot in
    let n = c.loop-before.before in
    let inv = c.loop-before.invariant in
    let gap = c.loop-before.gap in
    let new = c.lower.new.self in
    let more = c.leaving-more.result in
    record {
      size = c.lower.ensures.size ∙ inv.size;
      each = λ z first high.
          let lowered = subst (λ r. at new z ≡ min (at gap z) (min (at r z + more) most_64)) c.table_row.ensures (c.lower.ensures.done z first (omega (arith, high, inv.size))) in
          narrow_offered v n (gap_cost low mid table v b z) (at gap z) (state table n v z) more (leaving low mid v b n) (at new z) (inv.each z first high) c.loop-before.auto.before c.leaving-more.ensures refl lowered;
    }
