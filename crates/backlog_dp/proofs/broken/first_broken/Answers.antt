use Rattle.std.proofs.Common.{◌≡◌, ◌+◌, ◌-◌, ◌∙◌, refl, sym, subst, arith, length}
use Rattle.lot_sizing.specs.Single.{period_count, position_count, serving_cost}
use Rattle.echelon.specs.Views.{HasEach}
use Rattle.backlog_dp.specs.Search.{AnswersOf, AnswersTo}
use Rattle.echelon_rows.specs.Rows.{single_with}
use Rattle.backlog_dp.proofs.Firsts.{all_servers, answers_of, count_most, merge}
use Rattle.backlog_dp.proofs.broken.first_broken.Goals as goal

pub broken_of-other-requires-clause-few : goal.broken_of-other-requires-clause-few
broken_of-other-requires-clause-few c =
    let s = single_with c.args.net.now c.args.setup.now c.args.rates.now.unit.now c.args.rates.now.hold.now c.args.rates.now.back.now c.args.rates.now.backlogged in
    omega (arith, c.requires.size, count_most s (length c.args.net.now), c.requires.periods)

pub loop-server-preserved : goal.loop-server-preserved
loop-server-preserved c =
    let net = c.args.net.now in
    let setup = c.args.setup.now in
    let unit = c.args.rates.now.unit.now in
    let hold = c.args.rates.now.hold.now in
    let back = c.args.rates.now.back.now in
    let owing = c.args.rates.now.backlogged in
    let g = c.args.steps.now in
    let s = single_with net setup unit hold back owing in
    let u = c.loop-server.server in
    let n = u - 1 in
    let e : n + 1 ≡ u = omega arith in
    let i : n + 1 ≡ u + 1 - 1 = omega arith in
    let other = c.broken_of-other.result in
    let costs = subst (HasEach (position_count s) (serving_cost s u)) (sym c.deref.ensures.value) (c.in_ok-costs.ensures.each setup) in
    let one : AnswersOf s g u other = answers_of net setup unit hold back owing g c.deref.result.now c.as_slice-periods.result.now _ u (length g) other costs (c.as_slice-periods.ensures.value ∙ c.in_ok-list.ensures) c.requires.size refl c.loop-server.auto.server (omega arith) c.broken_of-other.ensures in
    let merged = merge s g n c.loop-server.found other c.loop-server.invariant (subst (λ k. AnswersOf s g k other) (sym e) one) in
    subst (λ k. AnswersTo s g k c.earlier-found.result) i (subst (AnswersTo s g (n + 1)) (sym c.earlier-found.ensures) merged)

pub returns : goal.returns
returns c =
    let net = c.args.net.now in
    let s = single_with net c.args.setup.now c.args.rates.now.unit.now c.args.rates.now.hold.now c.args.rates.now.back.now c.args.rates.now.backlogged in
    let e : c.loop-server.server - 1 ≡ period_count s = omega arith in
    all_servers s c.args.steps.now c.loop-server.found (subst (λ k. AnswersTo s c.args.steps.now k c.loop-server.found) e c.loop-server.invariant)
