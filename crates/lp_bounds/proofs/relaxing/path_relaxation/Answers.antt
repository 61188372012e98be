use Rattle.std.proofs.lemmas.Result.{IfOk-weaker}
use Rattle.lp_bounds.specs.Path.{IfAtLeast, IfExempt, IfNoPoint, IsExempt, IsMetAt, SaysAtLeast, SaysNone}
use Rattle.lp_bounds.specs.Steps.{IsSaid}
use Rattle.lp_bounds.proofs.Found.{said_bound, said_exempt, said_none, said_point}
use Rattle.lp_bounds.proofs.relaxing.path_relaxation.Goals as goal

pub returns-clause-bound : goal.returns-clause-bound
returns-clause-bound c =
    let m = c.args.instance.now in
    let path = c.args.path.now in
    IfOk-weaker c.program_says.result (IsSaid m path) (IfAtLeast (SaysAtLeast m path)) (said_bound m path) c.program_says.ensures

pub returns-clause-point : goal.returns-clause-point
returns-clause-point c =
    let m = c.args.instance.now in
    let path = c.args.path.now in
    IfOk-weaker c.program_says.result (IsSaid m path) (IfAtLeast (λ _ bound. IsMetAt m path bound)) (said_point m path) c.program_says.ensures

pub returns-clause-none : goal.returns-clause-none
returns-clause-none c =
    let m = c.args.instance.now in
    let path = c.args.path.now in
    IfOk-weaker c.program_says.result (IsSaid m path) (IfNoPoint (SaysNone m path)) (said_none m path) c.program_says.ensures

pub returns-clause-exempt : goal.returns-clause-exempt
returns-clause-exempt c =
    let m = c.args.instance.now in
    let path = c.args.path.now in
    IfOk-weaker c.program_says.result (IsSaid m path) (IfExempt (IsExempt m path)) (said_exempt m path) c.program_says.ensures
