use Rattle.std.proofs.Common.{◌≢◌, ◌∙◌, rules, refl, ap, Ok, Err, [], ◌∷◌}
use Rattle.std.proofs.lemmas.Result.{IfOk-weaker}
use Rattle.plan_rules.specs.Held.{plan_of}
use Rattle.replan.specs.declared.fault.RestFault.TheVariants.{Memory}
use Rattle.lotplan.specs.Replanning.{NextSays, StartSays, no_rest, no_start, replan_line, replan_status}
use Rattle.lotplan.specs.Saying.{IsSaid}
use Rattle.lotplan.proofs.Continued.{no_rest_of, says_next}
use Rattle.lotplan.proofs.Readings.{same_reads}
use Rattle.lotplan.proofs.Appended.{reads_append}
use Rattle.lotplan.proofs.commands.replanning.replan_instance.Goals as goal

pub write_next-requires-clause-found : goal.write_next-requires-clause-found
write_next-requires-clause-found g c =
    let e = c.in-Ok-Planned.ensures in
    let is = c.in-Ok-Planned.field-0-is in
    record {
      proved = rw (is) at e.proved;
      version = rw (is) at e.version;
      within = rw (is) at e.within;
      plan = rw (is) at e.plan;
      together = rw (is) at e.goes;
      kept = tt;
      own = rw (is) at e.own;
      cause = rw (is) at e.cause;
      evidence = rw (is) at e.evidence;
      small = rw (is) at e.complete;
      root = rw (is) at e.root;
      uncoupled = rw (is) at e.uncoupled;
      used = rw (is) at e.uses;
      apart = rw (is) at e.apart;
    }

pub returns-in-Ok-Planned-clause-said : goal.returns-in-Ok-Planned-clause-said
returns-in-Ok-Planned-clause-said g c =
    let m = c.args.instance.now in
    let p = plan_of c.args.plan.now in
    let names = c.args.names in
    let n = names.next_model.now in
    let q = names.next_plan.now in
    let k = names.certificate.now in
    let old = g.S.Shelf.shown c.args.shelf.now in
    let new = g.S.Shelf.shown c.write_next.new.shelf in
    let rest = c.in-Ok-Planned.rest in
    let laws = c.rests_decide.ensures in
    let is = rw (c.in-Ok-Planned.field-0-is) at c.in-Ok-Planned.ensures.rest in
    IfOk-weaker c.write_next.result (NextSays rest n q k c.args.budget old new) (StartSays m p c.args.first n q k c.args.budget old new)
    (says_next c.joins_are_feasible.ensures laws.none laws.floors laws.best m p c.args.first rest is c.args.budget n q k c.requires.apart old new) c.write_next.ensures.said

pub returns-in-Ok-NoStart-clause-said : goal.returns-in-Ok-NoStart-clause-said
returns-in-Ok-NoStart-clause-said g c =
    let m = c.args.instance.now in
    let p = plan_of c.args.plan.now in
    let names = c.args.names in
    let n = names.next_model.now in
    let q = names.next_plan.now in
    let k = names.certificate.now in
    let old = g.S.Shelf.shown c.args.shelf.now in
    let is = c.in-Ok-NoStart.is ∙ ap Ok c.in-Ok-NoStart.field-0-is in
    let none = c.replan.ensures.none.0 is in
    IfOk-weaker c.answer_line.result (IsSaid (replan_line no_start) (replan_status no_start)) (StartSays m p c.args.first n q k c.args.budget old old)
    (λ said says. (no_start, (λ t. record { may = none.0; falls = none.1; none = c.replan.ensures.dead is }, same_reads old old refl), says)) c.answer_line.ensures

pub returns-in-Err-clause-said : goal.returns-in-Err-clause-said
returns-in-Err-clause-said g c =
    let m = c.args.instance.now in
    let p = plan_of c.args.plan.now in
    let names = c.args.names in
    let n = names.next_model.now in
    let q = names.next_plan.now in
    let k = names.certificate.now in
    let old = g.S.Shelf.shown c.args.shelf.now in
    let fault = c.in-Err.fault in
    let some : fault ≢ Memory = search rules in
    let given = c.replan.ensures in
    let why = no_rest_of m p c.args.first fault some (λ e. given.first.0 (c.in-Err.is ∙ ap Err e)) (λ item e. (given.lead item).0 (c.in-Err.is ∙ ap Err e)) (λ broken e. given.draft broken (c.in-Err.is ∙ ap Err e)) in
    IfOk-weaker c.answer_line-in-Err.result (IsSaid (replan_line (no_rest fault)) (replan_status (no_rest fault))) (StartSays m p c.args.first n q k c.args.budget old old)
    (λ said says. (no_rest fault, (λ t. why, same_reads old old refl), says)) c.answer_line-in-Err.ensures

pub returns-in-Ok-NoStart-clause-appended : goal.returns-in-Ok-NoStart-clause-appended
returns-in-Ok-NoStart-clause-appended g c = reads_append (c.args.names.next_model.now ∷ c.args.names.next_plan.now ∷ c.args.names.certificate.now ∷ []) (g.S.Shelf.shown c.args.shelf.now) (g.S.Shelf.shown c.args.shelf.now) c.answer_line.result (same_reads (g.S.Shelf.shown c.args.shelf.now) (g.S.Shelf.shown c.args.shelf.now) refl)

pub returns-in-Err-clause-appended : goal.returns-in-Err-clause-appended
returns-in-Err-clause-appended g c = reads_append (c.args.names.next_model.now ∷ c.args.names.next_plan.now ∷ c.args.names.certificate.now ∷ []) (g.S.Shelf.shown c.args.shelf.now) (g.S.Shelf.shown c.args.shelf.now) c.answer_line-in-Err.result (same_reads (g.S.Shelf.shown c.args.shelf.now) (g.S.Shelf.shown c.args.shelf.now) refl)
