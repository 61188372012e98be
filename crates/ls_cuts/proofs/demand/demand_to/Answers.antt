use Rattle.std.proofs.Common.{◌≡◌, ◌+◌, ◌-◌, ◌∙◌, ap, arith, length}
use Rattle.std.proofs.lemmas.Grind.{get_or_default_zero}
use Rattle.lot_sizing.specs.Sums.{sum_to}
use Rattle.lot_sizing.specs.Problem.{entry}
use Rattle.lot_sizing.proofs.Sums.{sum_to_at, sum_to-front}
use Rattle.echelon.specs.Views.{asked_of_echelon}
use Rattle.valid_inequalities.proofs.Ls.{demand_all}
use Rattle.ls_cuts.proofs.demand.demand_to.Goals as goal

pub overflow_add-sum : goal.overflow_add-sum
overflow_add-sum c =
    let xs = c.args.echelon.now.demand.items in
    let t = c.loop-period.period in
    let here = c.index.ensures ∙ get_or_default_zero xs (t - 1) c.index.result.now (omega arith) in
    omega (arith, here, c.loop-period.invariant.sum, sum_to_at t (entry xs) c.loop-period.auto.period, sum_to-front t (length xs) (entry xs) (omega arith), c.requires.within.asked)

pub loop-period-preserved : goal.loop-period-preserved
loop-period-preserved c =
    let xs = c.args.echelon.now.demand.items in
    let t = c.loop-period.period in
    let same : t + 1 - 1 ≡ t = omega arith in
    let here = c.index.ensures ∙ get_or_default_zero xs (t - 1) c.index.result.now (omega arith) in
    let next = sum_to_at t (entry xs) c.loop-period.auto.period in
    record {
      sum = omega (arith, here, c.loop-period.invariant.sum, next, ap (λ k. sum_to k (entry xs)) same);
      small = omega (arith, here, c.loop-period.invariant.sum, next, sum_to-front t (length xs) (entry xs) (omega arith), c.requires.within.asked);
    }

pub returns-clause-value : goal.returns-clause-value
returns-clause-value c =
    let xs = c.args.echelon.now.demand.items in
    let e : c.loop-period.period - 1 ≡ c.args.l = omega arith in
    omega (arith, c.loop-period.invariant.sum, ap (λ k. sum_to k (entry xs)) e, demand_all (asked_of_echelon c.args.echelon.now) c.args.l)
