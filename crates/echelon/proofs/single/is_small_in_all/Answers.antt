use Rattle.std.proofs.Common.{◌≡◌, ◌∙◌, ◌-◌, suc, ap, arith, slice_index_or}
use Rattle.std.proofs.lemmas.Grind.{get_or_default_zero}
use Rattle.lot_sizing.specs.Single.{net_demand, period_count}
use Rattle.lot_sizing.proofs.Sums.{sum_to-front}
use Rattle.echelon.specs.Views.{single_of_item}
use Rattle.echelon.proofs.single.is_small_in_all.Goals as goal

pub returns-then-net-from : goal.returns-then-net-from
returns-then-net-from c =
    let s = single_of_item c.args.single.now in
    let t = c.loop-period.period in
    let net = c.index-net.ensures ∙ get_or_default_zero s.net t c.index-net.result.now (omega arith) in
    let e : suc t - 1 ≡ t = omega arith in
    (λ no. cc no, λ small. absurd (omega (arith, small, net, ap (λ k. slice_index_or s.net k 0) e, c.loop-period.invariant.sum, c.if-net-from.true, c.from.ensures, sum_to-front (suc t) (period_count s) (net_demand s) (omega arith))))
