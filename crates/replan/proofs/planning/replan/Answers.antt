use Rattle.std.proofs.Common.{◌≡◌, ⊎_elim, inl, inr, ap}
use Rattle.std.specs.Prelude.{Err}
use Rattle.plan_rules.specs.Held.{plan_of}
use Rattle.replan.specs.declared.fault.RestFault.TheVariants.{Lead, Draft, Memory}
use Rattle.replan.proofs.Telling.{decides, joined_if, leaves_back, none_given, rest_given}
use Rattle.replan.proofs.planning.replan.Goals as goal

pub returns-in_ok-found-in-Ok-Some-clause-refused : goal.returns-in_ok-found-in-Ok-Some-clause-refused
returns-in_ok-found-in-Ok-Some-clause-refused g c = λ fault broken.
    ⊎_elim
    (λ e. absurd (cc e))
    (λ e. absurd (cc e))
    (c.in-Ok-Some.ensures.refused fault (leaves_back c.args.instance.now c.args.plan.now c.args.first broken.0, broken.1))

pub returns-in_ok-found-in-Ok-Some-clause-joined : goal.returns-in_ok-found-in-Ok-Some-clause-joined
returns-in_ok-found-in-Ok-Some-clause-joined g c =
    let m = c.args.instance.now in
    let p = c.args.plan.now in
    let first = c.args.first in
    let rest = c.in-Ok-Some.rest in
    let is = rest_given m p first c.in-Ok-Some.field-0 rest c.in-Ok-Some.field-0-is c.in-Ok-Some.ensures.rest in
    joined_if c.joins_are_feasible.ensures m (plan_of p) first rest is c.in_ok-found-in-Ok-Some.found.plan c.in_ok-found-in-Ok-Some.ensures.plan

pub returns-in_ok-found-in-Ok-Some-clause-decides : goal.returns-in_ok-found-in-Ok-Some-clause-decides
returns-in_ok-found-in-Ok-Some-clause-decides g c =
    let m = c.args.instance.now in
    let p = c.args.plan.now in
    let first = c.args.first in
    let rest = c.in-Ok-Some.rest in
    let found = c.in_ok-found-in-Ok-Some.found in
    let laws = c.rests_decide.ensures in
    let is = rest_given m p first c.in-Ok-Some.field-0 rest c.in-Ok-Some.field-0-is c.in-Ok-Some.ensures.rest in
    decides laws.none laws.floors laws.best m (plan_of p) first rest is found.certificate.claim found.plan c.in_ok-found-in-Ok-Some.ensures.proved.claim

pub returns-in-Ok-None-clause-dead : goal.returns-in-Ok-None-clause-dead
returns-in-Ok-None-clause-dead g c = λ same.
    none_given c.args.instance.now c.args.plan.now c.args.first c.in-Ok-None.field-0 c.in-Ok-None.field-0-is c.in-Ok-None.ensures.dead

pub returns-in-Err-clause-lead : goal.returns-in-Err-clause-lead
returns-in-Err-clause-lead g c = λ item.
    let given = c.in-Err.ensures.lead item in
    (λ e. let same : c.in-Err.fault ≡ Lead item = cc e in given.0 (ap Err same), λ h. let same : c.in-Err.fault ≡ Lead item = cc (given.1 h) in ap Err same)

pub returns-in-Err-clause-refused : goal.returns-in-Err-clause-refused
returns-in-Err-clause-refused g c = λ fault broken.
    ⊎_elim
    (λ e. let same : c.in-Err.fault ≡ Draft fault = cc e in inl (ap Err same))
    (λ e. let same : c.in-Err.fault ≡ Memory = cc e in inr (ap Err same))
    (c.in-Err.ensures.refused fault (leaves_back c.args.instance.now c.args.plan.now c.args.first broken.0, broken.1))
