use Rattle.std.proofs.Common.{◌≡◌, ◌≤◌, ◌+◌, ◌-◌, ◌*◌, ◌∙◌, ℕ, [], ◌∷◌, suc, ap, subst, sym, arith, length}
use Rattle.std.specs.Prelude.{nat_le, ◌||◌, if◌then◌else◌}
use Rattle.std.proofs.lemmas.List.Elements.{All-append, All-cons, All-nil}
use Rattle.lot_sizing.specs.Sums.{sum_to}
use Rattle.lot_sizing.specs.Problem.{AllAtMost, entry}
use Rattle.lot_sizing.specs.Single.{unit_price}
use Rattle.echelon.specs.Views.{HasEach}
use Rattle.echelon.proofs.Nets.{each_more}
use Rattle.valid_inequalities.specs.Inequalities.{gain}
use Rattle.echelon_rows.specs.Rows.{single_with}
use Rattle.echelon_rows.specs.declared.limits.TheConstants.{MAX_STEP}
use Rattle.facility_form.proofs.Pricing.{gains_are}
use Rattle.facility_form.proofs.gains.gains_of.Goals as goal

pub gain_of-requires-clause-costs : goal.gain_of-requires-clause-costs
gain_of-requires-clause-costs c = ap length c.deref-in-loop-server.ensures.value ∙ (c.in_ok-costs.ensures [] []).size ∙ c.requires.lengths.unit

pub loop-server-preserved : goal.loop-server-preserved
loop-server-preserved c =
    let net = c.args.net.now in
    let prices = c.args.prices.now in
    let owing = c.args.backlogged in
    let u = c.loop-server.server in
    let T = length net in
    let s = single_with net [] prices.unit.items prices.hold.items prices.back.items owing in
    let worth : ℕ → ℕ = entry prices.price.items in
    let F : ℕ → ℕ = λ k. sum_to T (gain s worth k) in
    let x = c.gain_of.result in
    let xs = c.loop-server.list.items in
    let costs = c.in_ok-costs.costs.items in
    let has : HasEach T (unit_price s u) costs = subst (λ k. HasEach k (unit_price s u) costs) c.requires.lengths.unit (c.in_ok-costs.ensures net []) in
    let next : u + 1 - 1 ≡ suc (u - 1) = omega (arith, c.loop-server.auto.server) in
    let same : u ≡ u + 1 - 1 = omega arith in
    let value : x ≡ F u =
    c.gain_of.ensures.value
    ∙ ap (λ ps. sum_to T (λ t. if owing || nat_le u t then entry net t * (entry ps t - entry c.deref-in-loop-server.result.now t) else 0)) c.deref.ensures.value
    ∙ ap (λ cs. sum_to T (λ t. if owing || nat_le u t then entry net t * (worth t - entry cs t) else 0)) c.deref-in-loop-server.ensures.value
    ∙ gains_are net prices.unit.items prices.hold.items prices.back.items costs owing worth u T has in
    let Small : ℕ → Type 0 = λ k. k ≤ MAX_STEP in
    record {
      each = subst (HasEach (u + 1 - 1) F) (sym c.in_ok-push.ensures.items) (each_more (u - 1) (u + 1 - 1) x F xs next c.loop-server.invariant.each (value ∙ ap F same));
      small = subst (AllAtMost MAX_STEP) (sym c.in_ok-push.ensures.items) (All-append Small xs (x ∷ []) c.loop-server.invariant.small (All-cons Small x [] c.gain_of.ensures.small (All-nil Small)));
    }
