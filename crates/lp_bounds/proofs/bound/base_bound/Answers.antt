use Rattle.std.proofs.Common.{◌≤◌, arith}
use Rattle.std.proofs.lemmas.Result.{IfOk-weaker}
use Rattle.lot_sizing.specs.Best.{IsFloor, IsImpossible}
use Rattle.lp_relaxation.specs.declared.limits.TheConstants.{MAX_CELLS}
use Rattle.lp_bounds.specs.Bounds.{HasNoBasePoint, IfBound, IfEmpty, IsBaseBound, PassesAsRun, SkipsExactly, cell_count}
use Rattle.lp_bounds.specs.Solved.{IsSolved}
use Rattle.lp_bounds.proofs.BasePoints.{bounds, none}
use Rattle.lp_bounds.proofs.Saying.{few, if_bound, if_empty, passes}
use Rattle.lp_bounds.proofs.bound.base_bound.Goals as goal

pub returns-clause-bound : goal.returns-clause-bound
returns-clause-bound c =
    let m = c.args.instance.now in
    let p = c.in_ok-round.round.lp in
    IfOk-weaker c.solved.result (IsSolved p) (IfBound (IsBaseBound m))
    (if_bound p (IsBaseBound m) (λ n best total totals. bounds c.least_is_said.ensures c.base_names_are_all.ensures m total p c.an_instance_breaks_no_rule.ensures.limits (c.in_ok-round.ensures.round total totals).program n best)) c.solved.ensures

pub returns-clause-floor : goal.returns-clause-floor
returns-clause-floor c =
    let m = c.args.instance.now in
    let p = c.in_ok-round.round.lp in
    let ranked = c.an_instance_breaks_no_rule.ensures.ranked in
    let totals = c.an_instance_breaks_no_rule.ensures.totals in
    IfOk-weaker c.solved.result (IsSolved p) (IfBound (IsFloor m))
    (if_bound p (IsFloor m) (λ n best. c.base_bounds_are_floors.ensures.bound m ranked.0 totals.0 c.an_instance_breaks_no_rule.ensures.limits.some_period ranked.1 totals.1 n (λ total are. bounds c.least_is_said.ensures c.base_names_are_all.ensures m total p c.an_instance_breaks_no_rule.ensures.limits (c.in_ok-round.ensures.round total are).program n best))) c.solved.ensures

pub returns-clause-empty : goal.returns-clause-empty
returns-clause-empty c =
    let m = c.args.instance.now in
    let p = c.in_ok-round.round.lp in
    IfOk-weaker c.solved.result (IsSolved p) (IfEmpty (HasNoBasePoint m))
    (if_empty p (HasNoBasePoint m) (λ y are total totals. none c.empty_is_said.ensures c.base_names_are_all.ensures m total p y c.an_instance_breaks_no_rule.ensures.limits (c.in_ok-round.ensures.round total totals).program are)) c.solved.ensures

pub returns-clause-impossible : goal.returns-clause-impossible
returns-clause-impossible c =
    let m = c.args.instance.now in
    let p = c.in_ok-round.round.lp in
    let ranked = c.an_instance_breaks_no_rule.ensures.ranked in
    let totals = c.an_instance_breaks_no_rule.ensures.totals in
    IfOk-weaker c.solved.result (IsSolved p) (IfEmpty (IsImpossible m))
    (if_empty p (IsImpossible m) (λ y are. c.base_bounds_are_floors.ensures.empty m ranked.0 totals.0 c.an_instance_breaks_no_rule.ensures.limits.some_period ranked.1 totals.1 (λ total other. none c.empty_is_said.ensures c.base_names_are_all.ensures m total p y c.an_instance_breaks_no_rule.ensures.limits (c.in_ok-round.ensures.round total other).program are))) c.solved.ensures

pub returns-clause-skipped : goal.returns-clause-skipped
returns-clause-skipped c =
    let m = c.args.instance.now in
    let p = c.in_ok-round.round.lp in
    let low : cell_count p ≤ MAX_CELLS = omega (arith, c.if-cells-gt-MAX_CELLS.false, c.cells-cells.ensures) in
    IfOk-weaker c.solved.result (IsSolved p) (SkipsExactly m)
    (few m p (λ total totals. (c.in_ok-round.ensures.round total totals).program) low) c.solved.ensures

pub returns-clause-passed : goal.returns-clause-passed
returns-clause-passed c =
    let m = c.args.instance.now in
    let p = c.in_ok-round.round.lp in
    IfOk-weaker c.solved.result (IsSolved p) (PassesAsRun m)
    (passes m p (λ total totals. (c.in_ok-round.ensures.round total totals).program)) c.solved.ensures
