use Rattle.std.proofs.Common.{◌≡◌, ◌+◌, ◌-◌, ◌*◌, ℕ, ap, arith}
use Rattle.std.proofs.lemmas.Nat.{mul-le}
use Rattle.lot_sizing.specs.Sums.{sum_to}
use Rattle.lot_sizing.specs.Problem.{entry}
use Rattle.lot_sizing.proofs.Sums.{sum_to_at}
use Rattle.echelon.specs.declared.net.TheConstants.{MAX_ASKED}
use Rattle.echelon_rows.specs.declared.limits.TheConstants.{MAX_PRICE}
use Rattle.echelon_rows.proofs.costs.held_of.Goals as goal

pub overflow_mul-sum : goal.overflow_mul-sum
overflow_mul-sum c =
    let t = c.loop-period.period in
    omega (arith, mul-le (entry c.args.hold.now t) (entry c.args.left.now t) MAX_PRICE MAX_ASKED (c.requires.hold.small (t - 1) 0 (omega (arith, c.requires.hold.size))) (c.requires.left (t - 1) 0 (omega arith)))

pub overflow_add-sum : goal.overflow_add-sum
overflow_add-sum c =
    let t = c.loop-period.period in
    omega (arith, c.loop-period.invariant.small, c.requires.periods, mul-le (entry c.args.hold.now t) (entry c.args.left.now t) MAX_PRICE MAX_ASKED (c.requires.hold.small (t - 1) 0 (omega (arith, c.requires.hold.size))) (c.requires.left (t - 1) 0 (omega arith)))

pub loop-period-preserved : goal.loop-period-preserved
loop-period-preserved c =
    let left = c.args.left.now in
    let hold = c.args.hold.now in
    let t = c.loop-period.period in
    let low = c.loop-period.auto.period in
    let F : ℕ → ℕ = λ k. entry hold k * entry left k in
    let same : t + 1 - 1 ≡ t = omega arith in
    let more = mul-le (entry hold t) (entry left t) MAX_PRICE MAX_ASKED (c.requires.hold.small (t - 1) 0 (omega (arith, c.requires.hold.size))) (c.requires.left (t - 1) 0 (omega arith)) in
    record {
      sum = omega (arith, c.loop-period.invariant.sum, sum_to_at t F low, ap (λ k. sum_to k F) same);
      small = omega (arith, c.loop-period.invariant.small, low, more);
    }
