use Rattle.std.proofs.Common.{◌≡◌, ◌+◌, ◌-◌, ◌*◌, ℕ, ap, arith, length}
use Rattle.std.proofs.Math.Nat.{mul-le-mul_left}
use Rattle.lot_sizing.specs.Sums.{sum_to}
use Rattle.lot_sizing.specs.Problem.{entry}
use Rattle.lot_sizing.proofs.Sums.{sum_to_at, sum_to-front}
use Rattle.echelon_rows.proofs.costs.worth_of.Goals as goal

pub overflow_mul-sum : goal.overflow_mul-sum
overflow_mul-sum c =
    let net = c.args.net.now in
    let t = c.loop-period.period in
    let price = c.requires.price.small (t - 1) 0 (omega (arith, c.requires.price.size)) in
    omega (arith, mul-le-mul_left (entry net t) price, sum_to_at t (entry net) c.loop-period.auto.period, sum_to-front t (length net) (entry net) (omega arith), c.requires.net)

pub overflow_add-sum : goal.overflow_add-sum
overflow_add-sum c =
    let net = c.args.net.now in
    let t = c.loop-period.period in
    let price = c.requires.price.small (t - 1) 0 (omega (arith, c.requires.price.size)) in
    omega (arith, c.loop-period.invariant.small, mul-le-mul_left (entry net t) price, sum_to_at t (entry net) c.loop-period.auto.period, sum_to-front t (length net) (entry net) (omega arith), c.requires.net)

pub loop-period-preserved : goal.loop-period-preserved
loop-period-preserved c =
    let net = c.args.net.now in
    let price = c.args.price.now in
    let t = c.loop-period.period in
    let low = c.loop-period.auto.period in
    let F : ℕ → ℕ = λ k. entry net k * entry price k in
    let same : t + 1 - 1 ≡ t = omega arith in
    let small = c.requires.price.small (t - 1) 0 (omega (arith, c.requires.price.size)) in
    record {
      sum = omega (arith, c.loop-period.invariant.sum, sum_to_at t F low, ap (λ k. sum_to k F) same);
      small = omega (arith, c.loop-period.invariant.small, mul-le-mul_left (entry net t) small, sum_to_at t (entry net) low, ap (λ k. sum_to k (entry net)) same);
    }
