use Rattle.std.proofs.Common.{◌≡◌, ◌+◌, ◌-◌, ap, arith}
use Rattle.lot_sizing.specs.Sums.{sum_to}
use Rattle.lot_sizing.specs.Problem.{demand}
use Rattle.lot_sizing.proofs.Sums.{sum_to_at}
use Rattle.uncoupled.proofs.room.demand_in_all.Goals as goal

pub loop-period-preserved : goal.loop-period-preserved
loop-period-preserved c =
    let f = demand c.args.instance.now c.args.item in
    let t = c.loop-period.period in
    let e : t + 1 - 1 ≡ t = omega arith in
    record { sum = omega (arith, c.loop-period.invariant.sum, c.demand-sum.ensures.value, sum_to_at t f c.loop-period.auto.period, ap (λ k. sum_to k f) e); small = omega (arith, c.loop-period.invariant.small, c.demand-sum.ensures.small, c.loop-period.auto.period) }
