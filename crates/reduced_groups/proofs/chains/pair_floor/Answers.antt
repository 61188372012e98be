use Rattle.std.proofs.Common.{◌∙◌, length, sym, [], ◌∷◌}
use Rattle.must_start.specs.Rows.{start_in}
use Rattle.chain_dp.specs.Chains.{level_of}
use Rattle.reduced_groups.specs.Groups.{chain_levels}
use Rattle.reduced_groups.specs.Prices.{price_in}
use Rattle.reduced_groups.proofs.Found.{capped_one, chain_floor, too_dear_same}
use Rattle.reduced_groups.proofs.Limits.{fits_same}
use Rattle.reduced_groups.proofs.chains.pair_floor.Goals as goal

pub returns-in-Ok-clause-floor : goal.returns-in-Ok-clause-floor
returns-in-Ok-clause-floor c =
    let m = c.args.given.instance.now in
    let lower = c.in_ok-lower.lower in
    let upper = c.in_ok-upper.upper in
    chain_floor m (start_in c.args.given.started.now) (price_in c.args.given.prices.now) c.args.low.now (c.args.top.now ∷ [])
    (level_of lower ∷ (level_of upper ∷ [])) (length upper.need.items) c.in-Ok.cost c.worth.result c.left_of.result
    c.in_ok-upper.ensures.sizes.need (c.in_ok-lower.ensures.level, (c.in_ok-upper.ensures.level, tt)) c.in-Ok.ensures.least
    (capped_one _ c.worth.result c.worth.ensures) c.left_of.ensures.small c.left_of.ensures.value

pub returns-clause-too_dear : goal.returns-clause-too_dear
returns-clause-too_dear c = λ e.
    let m = c.args.given.instance.now in
    let lower = c.in_ok-lower.lower in
    let upper = c.in_ok-upper.upper in
    too_dear_same m.periods (length upper.need.items) (level_of lower ∷ (level_of upper ∷ []))
    (chain_levels m (start_in c.args.given.started.now) (price_in c.args.given.prices.now) c.args.low.now (c.args.top.now ∷ []))
    c.in_ok-upper.ensures.sizes.need (c.in_ok-lower.ensures.level, (c.in_ok-upper.ensures.level, tt)) (c.solve_two.ensures.too_dear.0 (c.in-Err.is ∙ e))

pub returns-in-Ok-clause-fits : goal.returns-in-Ok-clause-fits
returns-in-Ok-clause-fits c =
    let m = c.args.given.instance.now in
    let lower = c.in_ok-lower.lower in
    let upper = c.in_ok-upper.upper in
    fits_same m.periods (length upper.need.items) (level_of lower ∷ (level_of upper ∷ []))
    (chain_levels m (start_in c.args.given.started.now) (price_in c.args.given.prices.now) c.args.low.now (c.args.top.now ∷ []))
    c.in_ok-upper.ensures.sizes.need (c.in_ok-lower.ensures.level, (c.in_ok-upper.ensures.level, tt)) (λ dear. cc (sym c.in-Ok.is ∙ c.solve_two.ensures.too_dear.1 dear))
