use Rattle.std.specs.Prelude.{Some, None}
use Rattle.std.proofs.lemmas.Result.{IfOk-weaker}
use Rattle.cert_lines.specs.declared.parts.Claim.TheVariants.{Optimal, Infeasible, Bound as BoundOf}
use Rattle.lotplan.specs.Checking.{GivenExplains, IsRefusal, check_meant}
use Rattle.lotplan.specs.Drawing.{WithPlanExplains}
use Rattle.lotplan.proofs.Paged.{claim_refused, with_plan}
use Rattle.lotplan.proofs.Fetched.{checked_on, refused_fetches}
use Rattle.lotplan.proofs.commands.check.check_with.Goals as goal

pub returns-in-Ok-Optimal-clause-answer : goal.returns-in-Ok-Optimal-clause-answer
returns-in-Ok-Optimal-clause-answer g c =
    let m = c.args.instance.now in
    let plan = c.args.plan.now in
    let name = c.args.certificate.now in
    let old = g.S.Shelf.shown c.args.shelf.now in
    let mid = g.S.Shelf.shown c.read_claim.new.shelf in
    let new = g.S.Shelf.shown c.check_given.new.shelf in
    let claims = rw (c.in-Ok-Optimal.field-0-is) at c.in-Ok-Optimal.ensures.claim in
    IfOk-weaker c.check_given.result (λ a. GivenExplains m (Some plan) name mid new (check_meant a)) (λ a. WithPlanExplains m plan name old new (check_meant a))
    (λ a x. with_plan c.texts_mean_one_thing.ensures m plan name old mid new (Optimal c.in-Ok-Optimal.field-0-0) (check_meant a) claims c.read_claim.ensures.reads x)
    c.check_given.ensures.answer

pub returns-in-Ok-Infeasible-clause-answer : goal.returns-in-Ok-Infeasible-clause-answer
returns-in-Ok-Infeasible-clause-answer g c =
    let m = c.args.instance.now in
    let plan = c.args.plan.now in
    let name = c.args.certificate.now in
    let old = g.S.Shelf.shown c.args.shelf.now in
    let mid = g.S.Shelf.shown c.read_claim.new.shelf in
    let new = g.S.Shelf.shown c.check_given-in-Ok-Infeasible.new.shelf in
    let claims = rw (c.in-Ok-Infeasible.field-0-is) at c.in-Ok-Infeasible.ensures.claim in
    IfOk-weaker c.check_given-in-Ok-Infeasible.result (λ a. GivenExplains m None name mid new (check_meant a)) (λ a. WithPlanExplains m plan name old new (check_meant a))
    (λ a x. with_plan c.texts_mean_one_thing.ensures m plan name old mid new Infeasible (check_meant a) claims c.read_claim.ensures.reads x)
    c.check_given-in-Ok-Infeasible.ensures.answer

pub returns-in-Ok-Bound-clause-answer : goal.returns-in-Ok-Bound-clause-answer
returns-in-Ok-Bound-clause-answer g c =
    let m = c.args.instance.now in
    let plan = c.args.plan.now in
    let name = c.args.certificate.now in
    let old = g.S.Shelf.shown c.args.shelf.now in
    let mid = g.S.Shelf.shown c.read_claim.new.shelf in
    let new = g.S.Shelf.shown c.check_given-in-Ok-Bound.new.shelf in
    let claims = rw (c.in-Ok-Bound.field-0-is) at c.in-Ok-Bound.ensures.claim in
    IfOk-weaker c.check_given-in-Ok-Bound.result (λ a. GivenExplains m None name mid new (check_meant a)) (λ a. WithPlanExplains m plan name old new (check_meant a))
    (λ a x. with_plan c.texts_mean_one_thing.ensures m plan name old mid new (BoundOf c.in-Ok-Bound.field-0-0) (check_meant a) claims c.read_claim.ensures.reads x)
    c.check_given-in-Ok-Bound.ensures.answer

pub returns-in-Err-clause-answer : goal.returns-in-Err-clause-answer
returns-in-Err-clause-answer g c =
    let m = c.args.instance.now in
    let plan = c.args.plan.now in
    let name = c.args.certificate.now in
    let old = g.S.Shelf.shown c.args.shelf.now in
    let new = g.S.Shelf.shown c.read_claim.new.shelf in
    IfOk-weaker c.refusal.result (λ a. IsRefusal name c.in-Err.fault (check_meant a)) (λ a. WithPlanExplains m plan name old new (check_meant a))
    (λ a is. claim_refused m plan name old new c.in-Err.fault (check_meant a) c.in-Err.ensures.fault is)
    c.refusal.ensures

pub returns-in-Ok-Optimal-clause-found : goal.returns-in-Ok-Optimal-clause-found
returns-in-Ok-Optimal-clause-found g c = checked_on (g.S.Shelf.shown c.args.shelf.now) (g.S.Shelf.shown c.read_claim.new.shelf) (g.S.Shelf.shown c.check_given.new.shelf) c.in-Ok-Optimal.ensures.counts c.check_given.result c.check_given.ensures.found

pub returns-in-Ok-Infeasible-clause-found : goal.returns-in-Ok-Infeasible-clause-found
returns-in-Ok-Infeasible-clause-found g c = checked_on (g.S.Shelf.shown c.args.shelf.now) (g.S.Shelf.shown c.read_claim.new.shelf) (g.S.Shelf.shown c.check_given-in-Ok-Infeasible.new.shelf) c.in-Ok-Infeasible.ensures.counts c.check_given-in-Ok-Infeasible.result c.check_given-in-Ok-Infeasible.ensures.found

pub returns-in-Ok-Bound-clause-found : goal.returns-in-Ok-Bound-clause-found
returns-in-Ok-Bound-clause-found g c = checked_on (g.S.Shelf.shown c.args.shelf.now) (g.S.Shelf.shown c.read_claim.new.shelf) (g.S.Shelf.shown c.check_given-in-Ok-Bound.new.shelf) c.in-Ok-Bound.ensures.counts c.check_given-in-Ok-Bound.result c.check_given-in-Ok-Bound.ensures.found

pub returns-in-Err-clause-found : goal.returns-in-Err-clause-found
returns-in-Err-clause-found g c = refused_fetches (g.S.Shelf.shown c.args.shelf.now) (g.S.Shelf.shown c.read_claim.new.shelf) c.args.certificate.now c.in-Err.fault c.refusal.result c.in-Err.ensures.counts c.refusal.ensures
