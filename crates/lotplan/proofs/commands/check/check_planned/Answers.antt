use Rattle.std.specs.Prelude.{Some}
use Rattle.std.proofs.lemmas.Result.{IfOk-weaker}
use Rattle.lotplan.specs.Checking.{GivenExplains, PlannedExplains, check_meant}
use Rattle.lotplan.proofs.Checked.{planned}
use Rattle.lotplan.proofs.Fetched.{checked_on}
use Rattle.lotplan.proofs.commands.check.check_planned.Goals as goal

pub returns-in-Ok-clause-answer : goal.returns-in-Ok-clause-answer
returns-in-Ok-clause-answer g c =
    let m = c.args.instance.now in
    let p = c.args.plan.now in
    let name = c.args.certificate.now in
    let plan = c.in-Ok.given in
    let old = g.S.Shelf.shown c.args.shelf.now in
    let mid = g.S.Shelf.shown c.read_plan_file.new.shelf in
    let new = g.S.Shelf.shown c.check_given.new.shelf in
    IfOk-weaker c.check_given.result (λ a. GivenExplains m (Some plan) name mid new (check_meant a)) (λ a. PlannedExplains m p name old new (check_meant a))
    (λ a x. planned m p name old mid new plan (check_meant a) c.in-Ok.ensures.plan c.read_plan_file.ensures.reads x)
    c.check_given.ensures.answer

pub returns-in-Ok-clause-found : goal.returns-in-Ok-clause-found
returns-in-Ok-clause-found g c = checked_on (g.S.Shelf.shown c.args.shelf.now) (g.S.Shelf.shown c.read_plan_file.new.shelf) (g.S.Shelf.shown c.check_given.new.shelf) c.in-Ok.ensures.found c.check_given.result c.check_given.ensures.found
