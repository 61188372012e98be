use Rattle.std.proofs.Common.{◌≡◌, ◌+◌, ◌-◌, ◌*◌, ◌∙◌, ℕ, ap, arith, length}
use Rattle.std.specs.Prelude.{nat_le, ◌||◌, if◌then◌else◌}
use Rattle.lot_sizing.specs.Sums.{sum_to}
use Rattle.lot_sizing.specs.Problem.{entry}
use Rattle.lot_sizing.proofs.Sums.{sum_to_at, sum_to-front}
use Rattle.facility_form.proofs.gains.gain_of.Goals as goal

pub gain_at-sum-requires-clause-net : goal.gain_at-sum-requires-clause-net
gain_at-sum-requires-clause-net c =
    let f = entry c.args.net.now in
    let t = c.loop-period.period in
    omega (arith, sum_to_at t f c.loop-period.auto.period, sum_to-front t (length c.args.net.now) f (omega arith), c.requires.net)

pub overflow_add-sum : goal.overflow_add-sum
overflow_add-sum c =
    let f = entry c.args.net.now in
    let t = c.loop-period.period in
    omega (arith, sum_to_at t f c.loop-period.auto.period, sum_to-front t (length c.args.net.now) f (omega arith), c.requires.net, c.loop-period.invariant.small, c.gain_at-sum.ensures.small)

pub loop-period-preserved : goal.loop-period-preserved
loop-period-preserved c =
    let net = c.args.net.now in
    let price = c.args.price.now in
    let costs = c.args.costs.now in
    let owing = c.args.backlogged in
    let u = c.args.server in
    let t = c.loop-period.period in
    let F : ℕ → ℕ = λ k. if owing || nat_le u k then entry net k * (entry price k - entry costs k) else 0 in
    let inv = c.loop-period.invariant in
    let same : t + 1 - 1 ≡ t = omega arith in
    let low = c.loop-period.auto.period in
    let g : c.gain_at-sum.result ≡ F t = c.gain_at-sum.ensures.value ∙ ap (λ b. if b then entry net t * (entry price t - entry costs t) else 0) c.may_serve-serves.ensures in
    record {
      sum = omega (arith, inv.sum, g, sum_to_at t F low, ap (λ k. sum_to k F) same);
      small = omega (arith, inv.small, c.gain_at-sum.ensures.small, sum_to_at t (entry net) low, ap (λ k. sum_to k (entry net)) same);
    }
