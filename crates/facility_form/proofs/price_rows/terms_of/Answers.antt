use Rattle.std.proofs.Common.{◌∙◌, ℕ, [], ap, subst, sym}
use Rattle.lot_sizing.specs.Problem.{entry}
use Rattle.echelon.specs.Views.{HasEach}
use Rattle.lin_rows.specs.Base.{some_terms}
use Rattle.valid_inequalities.specs.Inequalities.{all_gain}
use Rattle.echelon_rows.specs.Rows.{cost_terms, echelon_in, priced}
use Rattle.facility_form.proofs.Pricing.{all_gains}
use Rattle.facility_form.proofs.price_rows.terms_of.Goals as goal

pub returns : goal.returns
returns c =
    let E = echelon_in c.args.echelon.now in
    let prices = c.args.prices.now in
    let unit = prices.unit.items in
    let hold = prices.hold.items in
    let back = prices.back.items in
    let worth : ℕ → ℕ = entry prices.price.items in
    let times : ℕ → ℕ = all_gain E.asked (priced E [] unit hold back) worth in
    let gains = all_gains E c.args.net.now unit hold back c.in_ok-gains.gains.items worth (c.priced_is_net.ensures E [] unit hold back) c.requires.net c.in_ok-gains.ensures.each in
    c.in_ok-terms.ensures times (subst (HasEach E.asked.periods times) (sym c.deref.ensures.value) gains)
    ∙ ap (λ us. some_terms (cost_terms E times (entry us) (entry c.deref-3.result.now) (entry c.deref-4.result.now))) c.deref-2.ensures.value
    ∙ ap (λ hs. some_terms (cost_terms E times (entry unit) (entry hs) (entry c.deref-4.result.now))) c.deref-3.ensures.value
    ∙ ap (λ bs. some_terms (cost_terms E times (entry unit) (entry hold) (entry bs))) c.deref-4.ensures.value
