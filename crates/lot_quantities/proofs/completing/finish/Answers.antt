use Rattle.std.proofs.Common.{refl}
use Rattle.plan_rules.specs.Held.{plan_of}
use Rattle.lot_quantities.proofs.Filled.{least_filled, none_filled}
use Rattle.lot_quantities.proofs.completing.finish.Goals as goal

pub returns-in-Ok-clause-least : goal.returns-in-Ok-clause-least
returns-in-Ok-clause-least c = least_filled _ (plan_of (record { make = c.args.make; setup = c.args.setup; stock = c.fill.new.stock; backlog = c.fill.new.backlog })) c.fill.ensures.instance c.fill.ensures.rows c.in-Ok.ensures.feasible.1

pub returns-in-Err-clause-none : goal.returns-in-Err-clause-none
returns-in-Err-clause-none c =
    let p = plan_of (record { make = c.args.make; setup = c.args.setup; stock = c.fill.new.stock; backlog = c.fill.new.backlog }) in
    none_filled _ p c.fill.ensures.instance c.fill.ensures.rows (c.in-Err.ensures.refused (record { make = c.requires.make; setup = c.requires.setup; stock = c.fill.ensures.stock; backlog = c.fill.ensures.backlog }))

pub returns-in-Err-clause-broken : goal.returns-in-Err-clause-broken
returns-in-Err-clause-broken c =
    let p = plan_of (record { make = c.args.make; setup = c.args.setup; stock = c.fill.new.stock; backlog = c.fill.new.backlog }) in
    (p, record { make = refl; setup = refl; each = c.fill.ensures.rows }, c.in-Err.ensures.broken (record { make = c.requires.make; setup = c.requires.setup; stock = c.fill.ensures.stock; backlog = c.fill.ensures.backlog }))
