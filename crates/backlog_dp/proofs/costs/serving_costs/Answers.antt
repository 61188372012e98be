use Rattle.std.proofs.Common.{◌≤◌, ◌*◌, ◌∙◌, refl, sym, subst, ℕ, false, [], length}
use Rattle.lot_sizing.specs.Problem.{IsSeries, entry}
use Rattle.lot_sizing.specs.Single.{unit_price}
use Rattle.lot_sizing.specs.declared.limits.TheConstants.{MAX_PERIODS}
use Rattle.echelon.specs.Views.{HasEach}
use Rattle.echelon_rows.specs.Rows.{single_with}
use Rattle.echelon_rows.specs.declared.limits.TheConstants.{MAX_PRICE}
use Rattle.backlog_dp.proofs.Serving.{costs_small, each_serving, each_small, period_in}
use Rattle.backlog_dp.proofs.costs.serving_costs.Goals as goal

pub costs_at-requires-clause-net : goal.costs_at-requires-clause-net
costs_at-requires-clause-net c = each_small c.args.net.now _ c.requires.net

pub costs_at-requires-clause-low : goal.costs_at-requires-clause-low
costs_at-requires-clause-low c =
    let s = single_with c.args.net.now [] [] [] [] false in
    subst (λ ps. (p : ℕ) → 1 ≤ p → p ≤ length ps → 1 ≤ entry ps p) (sym c.requires.periods) (λ p low high. (period_in s p low high).low)

pub costs_at-requires-clause-high : goal.costs_at-requires-clause-high
costs_at-requires-clause-high c =
    let s = single_with c.args.net.now [] [] [] [] false in
    subst (λ ps. (p : ℕ) → 1 ≤ p → p ≤ length ps → entry ps p ≤ length c.args.net.now) (sym c.requires.periods) (λ p low high. (period_in s p low high).high)

pub costs_at-requires-clause-prices : goal.costs_at-requires-clause-prices
costs_at-requires-clause-prices c =
    let each = c.in_ok-prices.ensures.each [] [] in
    subst (IsSeries (length c.args.net.now) (MAX_PERIODS * MAX_PRICE)) (sym c.deref.ensures.value) (record { size = each.size ∙ c.requires.prices.unit.size; small = c.in_ok-prices.ensures.small })

pub returns-clause-each : goal.returns-clause-each
returns-clause-each c setup =
    let net = c.args.net.now in
    let s = single_with net setup c.args.rates.now.unit.now c.args.rates.now.hold.now c.args.rates.now.back.now c.args.rates.now.backlogged in
    let u = c.args.server in
    let prices = c.deref.result.now in
    let priced = subst (λ n. HasEach n (unit_price s u) prices) c.requires.prices.unit.size (subst (HasEach (length c.args.rates.now.unit.now) (unit_price s u)) (sym c.deref.ensures.value) (c.in_ok-prices.ensures.each net setup)) in
    let has = subst (λ ps. HasEach (length ps) (λ p. entry net (entry ps p) * entry prices (entry ps p)) c.in_ok-costs.costs.items) c.requires.periods c.in_ok-costs.ensures in
    each_serving s net prices c.in_ok-costs.costs.items u refl priced has

pub returns-clause-small : goal.returns-clause-small
returns-clause-small c =
    let net = c.args.net.now in
    let s = single_with net [] [] [] [] false in
    let prices = c.deref.result.now in
    let each = c.in_ok-prices.ensures.each [] [] in
    let priced = subst (IsSeries (length net) (MAX_PERIODS * MAX_PRICE)) (sym c.deref.ensures.value) (record { size = each.size ∙ c.requires.prices.unit.size; small = c.in_ok-prices.ensures.small }) in
    let has = subst (λ ps. HasEach (length ps) (λ p. entry net (entry ps p) * entry prices (entry ps p)) c.in_ok-costs.costs.items) c.requires.periods c.in_ok-costs.ensures in
    costs_small net prices c.in_ok-costs.costs.items s refl priced c.requires.net has
