use Rattle.std.proofs.Common.{refl, subst}
use Rattle.tableau.specs.Outcomes.{IsCertain, IsOutcome}
use Rattle.lp_relaxation.specs.declared.limits.TheConstants.{MAX_PIVOTS}
use Rattle.lp_root.proofs.RootRounds.{cell_passes, figured, stops}
use Rattle.lp_root.proofs.round.make_round.Goals as goal

pub least_round-requires-clause-least : goal.least_round-requires-clause-least
least_round-requires-clause-least c =
    let p = c.args.state.now.program.lp in
    (c.in-Least.value, subst (IsOutcome p MAX_PIVOTS) c.in-Least.is c.in_ok-point.ensures.outcome, subst (IsCertain p) c.in-Least.is c.in_ok-point.ensures.certain)

pub returns-in-Stopped-clause-ends : goal.returns-in-Stopped-clause-ends
returns-in-Stopped-clause-ends c =
    let m = c.args.instance.now in
    let state = c.args.state.now in
    let run = subst (IsOutcome state.program.lp MAX_PIVOTS) c.in-Stopped.is c.in_ok-point.ensures.outcome in
    stops m c.args.round c.requires.low c.requires.high state c.requires.rounds (figured m c.args.explosion.now c.requires.explosion) c.without_leaf.result c.without_leaf.ensures.says c.without_leaf.ensures.leaf (refl, run.1)

pub returns-in-Passed-clause-ends : goal.returns-in-Passed-clause-ends
returns-in-Passed-clause-ends c =
    let m = c.args.instance.now in
    let state = c.args.state.now in
    let run = subst (IsOutcome state.program.lp MAX_PIVOTS) c.in-Passed.is c.in_ok-point.ensures.outcome in
    cell_passes m c.args.round c.requires.low c.requires.high state c.requires.rounds (figured m c.args.explosion.now c.requires.explosion) c.cell_passed.result c.in-Passed.pivot c.in-Passed.row c.in-Passed.column c.cell_passed.ensures.says c.cell_passed.ensures.leaf run
