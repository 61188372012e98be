use Rattle.std.proofs.Common.{◌≡◌, ◌≤◌, ◌+◌, ◌-◌, suc, ap, arith, length}
use Rattle.lot_sizing.specs.Sums.{sum_from, sum_to}
use Rattle.lot_sizing.specs.Problem.{entry}
use Rattle.lot_sizing.specs.Single.{potential}
use Rattle.lot_sizing.proofs.Sums.{sum_to_at, sum_to-front}
use Rattle.backlog_dp.specs.Search.{rise_most}
use Rattle.backlog_dp.proofs.Stretches.{holds_next, potential_entry, rise_next, stretch_next}
use Rattle.backlog_dp.proofs.broken.ends_at.Goals as goal

pub overflow_add-cost-in-loop-last : goal.overflow_add-cost-in-loop-last
overflow_add-cost-in-loop-last c =
    let f = entry c.args.costs.now in
    let t = c.loop-last.last in
    omega (arith, c.loop-last.invariant.small, c.requires.low, c.loop-last.auto.last, sum_to_at t f (omega arith), sum_to-front t (length c.args.costs.now) f (omega arith), c.requires.costs)

pub returns-then-steps-last : goal.returns-then-steps-last
returns-then-steps-last c =
    let g = c.args.steps.now in
    let t = c.loop-last.last in
    let low : c.args.first ≤ t = omega arith in (
      low,
      omega arith,
      omega (arith, c.if-steps-last.true, potential_entry g t (omega arith), rise_next g c.args.costs.now c.args.setup c.args.first t c.loop-last.cost low c.loop-last.invariant.cost),
      λ before before_low less. c.loop-last.invariant.holds before before_low less,
    )

pub loop-last-preserved : goal.loop-last-preserved
loop-last-preserved c =
    let g = c.args.steps.now in
    let costs = c.args.costs.now in
    let t = c.loop-last.last in
    let first = c.args.first in
    let low : first ≤ t = omega arith in
    let e : t + 1 - first ≡ suc t - first = omega arith in
    let same : t + 1 - 1 ≡ t = omega arith in
    let here : potential g t ≤ rise_most g costs c.args.setup first t = omega (arith, c.if-steps-last.false, potential_entry g t (omega arith), rise_next g costs c.args.setup first t c.loop-last.cost low c.loop-last.invariant.cost) in
    record {
      cost = omega (arith, c.loop-last.invariant.cost, stretch_next first t (entry costs) low, ap (λ k. sum_from first k (entry costs)) e);
      small = omega (arith, c.loop-last.invariant.small, sum_to_at t (entry costs) (omega arith), ap (λ k. sum_to k (entry costs)) same);
      holds = holds_next g costs c.args.setup first t c.loop-last.invariant.holds here;
    }
