use Rattle.std.proofs.Common.{◌≡◌, ◌+◌, ◌-◌, ◌*◌, ◌∙◌, [], suc, ap, subst, sym, arith, length}
use Rattle.std.specs.Prelude.{if◌then◌else◌, nat_le}
use Rattle.lot_sizing.specs.Problem.{entry}
use Rattle.lot_sizing.specs.Single.{unit_price}
use Rattle.lot_sizing.specs.declared.limits.TheConstants.{MAX_PERIODS}
use Rattle.echelon.specs.Views.{HasEach}
use Rattle.echelon.proofs.Nets.{each_more}
use Rattle.echelon_rows.specs.Rows.{single_with}
use Rattle.echelon_rows.specs.declared.limits.TheConstants.{MAX_PRICE}
use Rattle.echelon_rows.proofs.Lists.{each_at_most}
use Rattle.echelon_rows.proofs.Transport.{next_is, price_most}
use Rattle.echelon_rows.proofs.serving.serving_prices.Goals as goal

pub next_price-price-requires-clause-hold : goal.next_price-price-requires-clause-hold
next_price-price-requires-clause-hold c =
    let t = c.loop-period.period in
    c.requires.prices.hold.small (t - 1) 0 (omega (arith, c.requires.prices.hold.size))

pub next_price-price-requires-clause-small : goal.next_price-price-requires-clause-small
next_price-price-requires-clause-small c =
    let t = c.loop-period.period in
    let most = price_most [] [] c.args.unit.now c.args.hold.now c.args.back.now c.args.backlogged (length c.args.unit.now) c.args.server t c.requires.prices c.requires.low c.requires.high c.loop-period.auto.period (omega arith) in
    omega (arith, most, c.loop-period.invariant.price, c.requires.periods)

pub loop-period-preserved : goal.loop-period-preserved
loop-period-preserved c =
    let unit = c.args.unit.now in
    let hold = c.args.hold.now in
    let back = c.args.back.now in
    let owing = c.args.backlogged in
    let u = c.args.server in
    let t = c.loop-period.period in
    let s = single_with [] [] unit hold back owing in
    let inv = c.loop-period.invariant in
    let next : t + 1 - 1 ≡ suc (t - 1) = omega (arith, c.loop-period.auto.period) in
    let same : t ≡ t + 1 - 1 = omega arith in
    record {
      each = subst (HasEach (t + 1 - 1) (unit_price s u)) (sym c.in_ok-push.ensures.items) (each_more (t - 1) (t + 1 - 1) c.loop-period.price (unit_price s u) c.loop-period.list.items next inv.each (inv.price ∙ ap (unit_price s u) same));
      price = c.next_price-price.ensures ∙ ap (λ k. if nat_le u t then k + entry hold t else k - c.back_price-owed.result) inv.price ∙ ap (λ k. if nat_le u t then unit_price s u t + entry hold t else unit_price s u t - k) c.back_price-owed.ensures.value ∙ next_is [] [] unit hold back owing u t;
    }

pub returns-clause-small : goal.returns-clause-small
returns-clause-small c =
    let unit = c.args.unit.now in
    let hold = c.args.hold.now in
    let back = c.args.back.now in
    let owing = c.args.backlogged in
    let u = c.args.server in
    let s = single_with [] [] unit hold back owing in
    let T = length unit in
    let e : c.loop-period.period - 1 ≡ T = omega arith in
    each_at_most T (MAX_PERIODS * MAX_PRICE) (unit_price s u) c.loop-period.list.items (subst (λ k. HasEach k (unit_price s u) c.loop-period.list.items) e c.loop-period.invariant.each)
    (λ t low high. omega (arith, price_most [] [] unit hold back owing T u t c.requires.prices c.requires.low c.requires.high low high, c.requires.periods))
