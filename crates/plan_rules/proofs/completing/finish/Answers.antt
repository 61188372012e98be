use Rattle.std.proofs.Common.{refl}
use Rattle.plan_rules.specs.Held.{plan_of}
use Rattle.plan_rules.proofs.Choices.{none_too_large, none_infeasible, least_with}
use Rattle.plan_rules.proofs.completing.finish.Goals as goal

pub returns-then-not-fill-clause-none : goal.returns-then-not-fill-clause-none
returns-then-not-fill-clause-none c = none_too_large _ _ _ c.if-not-fill.ensures.instance (c.if-not-fill.ensures.too_large refl)

pub returns-in-Ok-clause-least : goal.returns-in-Ok-clause-least
returns-in-Ok-clause-least c = least_with _ (plan_of (record { make = c.args.make; setup = c.args.setup; stock = c.fill.new.stock; backlog = c.fill.new.backlog })) (c.if-not-fill.ensures.rows refl)

pub returns-in-Err-clause-none : goal.returns-in-Err-clause-none
returns-in-Err-clause-none c =
    let p = plan_of (record { make = c.args.make; setup = c.args.setup; stock = c.fill.new.stock; backlog = c.fill.new.backlog }) in
    none_infeasible _ p c.if-not-fill.ensures.instance.limits.some_period (c.if-not-fill.ensures.rows refl) (c.in-Err.ensures.refused (record { make = c.requires.make; setup = c.requires.setup; stock = c.fill.ensures.stock; backlog = c.fill.ensures.backlog }))
