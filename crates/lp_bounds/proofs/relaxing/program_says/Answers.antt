use Rattle.std.proofs.Common.{refl, subst, sym}
use Rattle.tableau.specs.declared.outcome.Outcome.TheVariants as outcome
use Rattle.tableau.specs.Outcomes.{IsCertain, IsOutcome, number_at}
use Rattle.lp_relaxation.specs.declared.limits.TheConstants.{MAX_PIVOTS}
use Rattle.lp_bounds.specs.Steps.{EndsEmpty, EndsLeast}
use Rattle.lp_bounds.proofs.relaxing.program_says.Goals as goal

pub least_says-requires-clause-ends : goal.least_says-requires-clause-ends
least_says-requires-clause-ends c =
    let p = c.args.program.now.lp in
    let run = subst (IsOutcome p MAX_PIVOTS) c.in-Least.is c.in_ok-multipliers.ensures.outcome in
    let (d, reached, is) = run in
    subst (EndsLeast p) (sym c.deref.ensures.value) (record {
      end = outcome.Least c.in-Least.point c.in-Least.multipliers c.in-Least.value;
      run = run;
      has = refl;
      size = is.rows;
      point = number_at c.in-Least.point.items;
      value = c.in-Least.value;
      best = subst (IsCertain p) c.in-Least.is c.in_ok-multipliers.ensures.certain;
    })

pub empty_says-requires-clause-ends : goal.empty_says-requires-clause-ends
empty_says-requires-clause-ends c =
    let p = c.args.program.now.lp in
    let run = subst (IsOutcome p MAX_PIVOTS) c.in-Empty.is c.in_ok-multipliers.ensures.outcome in
    let (d, reached, is) = run in
    subst (EndsEmpty p) (sym c.deref-in-Empty.ensures.value) (record {
      end = outcome.Empty c.in-Empty.multipliers;
      run = run;
      has = refl;
      size = is.rows;
      empty = subst (IsCertain p) c.in-Empty.is c.in_ok-multipliers.ensures.certain;
    })

pub returns-in-Stopped : goal.returns-in-Stopped
returns-in-Stopped c = λ total totals.
    let p = c.args.program.now.lp in
    let run = subst (IsOutcome p MAX_PIVOTS) c.in-Stopped.is c.in_ok-multipliers.ensures.outcome in
    record { program = p; is_program = (c.requires.ready.made total totals).program; run = (refl, run.1) }

pub returns : goal.returns
returns c = λ total totals.
    let p = c.args.program.now.lp in
    record { program = p; is_program = (c.requires.ready.made total totals).program; run = subst (IsOutcome p MAX_PIVOTS) c.in-Passed.is c.in_ok-multipliers.ensures.outcome }
