use Rattle.std.proofs.Common.{ℕ, List, length, IfOk, subst}
use Rattle.lot_sizing.specs.Single.{unit_price}
use Rattle.echelon.specs.Views.{HasEach}
use Rattle.echelon_rows.specs.Rows.{single_with}
use Rattle.facility_form.proofs.gains.costs_of.Goals as goal

pub returns : goal.returns
returns c =
    let owing = c.args.backlogged in
    let u = c.args.server in
    let P : List ℕ → List ℕ → List ℕ → Type 0 = λ us hs bs. IfOk c.serving_prices.result (λ found. (net setup : List ℕ) → HasEach (length us) (unit_price (single_with net setup us hs bs owing) u) found.items) in
    let prices = c.args.prices.now in
    subst (λ bs. P prices.unit.items prices.hold.items bs) c.deref-3.ensures.value
    (subst (λ hs. P prices.unit.items hs c.deref-3.result.now) c.deref-2.ensures.value
    (subst (λ us. P us c.deref-2.result.now c.deref-3.result.now) c.deref.ensures.value c.serving_prices.ensures.each))
