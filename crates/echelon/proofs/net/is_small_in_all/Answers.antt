use Rattle.std.proofs.Common.{◌≡◌, ◌∙◌, ◌-◌, suc, ap, arith, length, slice_index_or}
use Rattle.std.proofs.lemmas.Grind.{get_or_default_zero}
use Rattle.lot_sizing.specs.Problem.{entry}
use Rattle.lot_sizing.proofs.Sums.{sum_to-front}
use Rattle.echelon.proofs.net.is_small_in_all.Goals as goal

pub returns-then-demand-sum : goal.returns-then-demand-sum
returns-then-demand-sum c =
    let xs = c.args.echelon.now.demand.items in
    let t = c.loop-period.period in
    let e : suc t - 1 ≡ t = omega arith in
    let here = c.index-demand.ensures ∙ get_or_default_zero xs t c.index-demand.result.now (omega arith) in
    (λ no. cc no, λ small. absurd (omega (arith, small, here, ap (λ k. slice_index_or xs k 0) e, c.loop-period.invariant.sum, c.if-demand-sum.true, sum_to-front (suc t) (length xs) (entry xs) (omega arith))))
