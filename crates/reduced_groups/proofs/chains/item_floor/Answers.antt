use Rattle.std.proofs.Common.{◌≤◌, ◌+◌, ◌∙◌, ap, length, arith}
use Rattle.std.specs.Prelude.{Err}
use Rattle.chain_dp.specs.Chains.{level_of}
use Rattle.quantity_dp.specs.declared.limits.TheConstants.{MAX_PRICE}
use Rattle.item_groups.specs.declared.group.ChainLink.{ChainLink}
use Rattle.reduced_groups.specs.Prices.{price_in}
use Rattle.reduced_groups.proofs.Found.{item_found, item_not_dear, memory_only}
use Rattle.reduced_groups.proofs.chains.item_floor.Goals as goal

pub returns-in-Ok-clause-least : goal.returns-in-Ok-clause-least
returns-in-Ok-clause-least c =
    let link : ChainLink = record { item = c.args.item; opening_price = c.first_unit.result } in
    let level = c.in_ok-level.level in
    item_found c.args.given.instance.now c.args.given.started.now (price_in c.args.given.prices.now) link (level_of level) (length level.need.items) c.in-Ok.cost
    c.in_ok-level.ensures.sizes.need c.must_start_holds.ensures.rises c.stocks_are_unused.ensures.law c.requires.started (c.requires.low, c.requires.high)
    (omega (arith, c.first_unit.ensures)) c.in_ok-level.ensures.level c.in-Ok.ensures.least

pub returns-clause-memory : goal.returns-clause-memory
returns-clause-memory c =
    let m = c.args.given.instance.now in
    let some = c.an_instance_breaks_no_rule.ensures.limits.some_period in
    let link : ChainLink = record { item = c.args.item; opening_price = c.first_unit.result } in
    let level = c.in_ok-level.level in
    let small : c.first_unit.result ≤ MAX_PRICE + MAX_PRICE =
    omega (
      arith,
      c.first_unit.ensures,
      c.requires.setups 1 (omega arith) (omega (arith, some, (c.requires.prices.rows c.args.item c.requires.low c.requires.high).0)),
      c.requires.units 1 (omega arith) (omega (arith, some, (c.requires.prices.rows c.args.item c.requires.low c.requires.high).1)),
    ) in
    memory_only c.in-Err.error (λ e.
    item_not_dear m c.args.given.started.now (price_in c.args.given.prices.now) link (level_of level) (length level.need.items) c.in_ok-level.ensures.sizes.need some c.must_start_holds.ensures.rises c.requires.started (c.requires.low, c.requires.high) small c.in_ok-level.ensures.level
    (c.solve_one.ensures.too_dear.0 (c.in-Err.is ∙ ap Err e)))
