use Rattle.std.proofs.Common.{◌<◌, ◌∙◌, ⊎_elim, inl, inr, ap, arith}
use Rattle.std.specs.Prelude.{Err}
use Rattle.frozen_start.specs.Held.{start_of}
use Rattle.replan.specs.declared.fault.RestFault.TheVariants.{Draft}
use Rattle.replan.proofs.Resting.{not_both, same_fault}
use Rattle.replan.proofs.going_on.rest.Goals as goal

pub returns-then-not-start_stands-clause-dead : goal.returns-then-not-start_stands-clause-dead
returns-then-not-start_stands-clause-dead c =
    let m = c.args.instance.now in
    let inside : c.args.first < m.periods = omega (arith, c.if-first-periods.false, c.periods.ensures.value) in
    c.rests_decide.ensures.starts m (start_of c.args.make.now c.args.setup.now) c.args.first c.in_default.ensures inside (λ stands. absurd (cc (c.start_stands.ensures.1 stands)))

pub returns-in-Ok-clause-refused : goal.returns-in-Ok-clause-refused
returns-in-Ok-clause-refused c = λ fault broken.
    absurd (not_both c.a_model_means_one_thing.ensures c.args.instance.now (start_of c.args.make.now c.args.setup.now) c.args.first c.in-Ok.found.instance fault c.in-Ok.ensures.rest.means broken.1)

pub returns-in-Err-clause-refused : goal.returns-in-Err-clause-refused
returns-in-Err-clause-refused c = λ fault broken.
    ⊎_elim
    (λ memory. inr (ap Err memory))
    (λ why. inl (ap Err (why.1 ∙ ap Draft (same_fault c.a_model_means_one_thing.ensures c.args.instance.now (start_of c.args.make.now c.args.setup.now) c.args.first why.0 fault why.2 broken.1))))
    c.in-Err.ensures.draft
