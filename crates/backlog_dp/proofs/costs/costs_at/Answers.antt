use Rattle.std.proofs.Common.{◌≡◌, ◌≤◌, ◌+◌, ◌-◌, ◌*◌, ◌∙◌, rules, sym, subst, ap, ℕ, arith}
use Rattle.std.proofs.lemmas.Nat.{mul-le}
use Rattle.lot_sizing.specs.Problem.{entry}
use Rattle.lot_sizing.specs.declared.limits.TheConstants.{MAX_PERIODS}
use Rattle.echelon.specs.Views.{HasEach}
use Rattle.echelon.specs.declared.net.TheConstants.{MAX_ASKED}
use Rattle.echelon_rows.specs.declared.limits.TheConstants.{MAX_PRICE}
use Rattle.echelon.proofs.Nets.{each_more}
use Rattle.backlog_dp.proofs.costs.costs_at.Goals as goal

pub overflow_mul-net : goal.overflow_mul-net
overflow_mul-net c =
    let p = c.loop-position.position in
    let t = entry c.args.periods.now p in
    let high = c.requires.high p c.loop-position.auto.position (omega arith) in
    let low = c.requires.low p c.loop-position.auto.position (omega arith) in
    let asked : entry c.args.net.now t ≤ MAX_ASKED = c.requires.net (t - 1) 0 (omega (arith, low, high)) in
    let price : entry c.args.prices.now t ≤ MAX_PERIODS * MAX_PRICE = c.requires.prices.small (t - 1) 0 (omega (arith, low, high, c.requires.prices.size)) in
    let all : entry c.args.net.now t * c.from.result ≤ MAX_ASKED * (MAX_PERIODS * MAX_PRICE) = mul-le (entry c.args.net.now t) c.from.result MAX_ASKED (MAX_PERIODS * MAX_PRICE) asked (omega (arith, price)) in
    search rules

pub loop-position-preserved : goal.loop-position-preserved
loop-position-preserved c =
    let p = c.loop-position.position in
    let f : ℕ → ℕ = λ k. entry c.args.net.now (entry c.args.periods.now k) * entry c.args.prices.now (entry c.args.periods.now k) in
    let e : p ≡ p + 1 - 1 = omega arith in
    let is : entry c.args.net.now (entry c.args.periods.now p) * c.from.result ≡ f p = ap (λ k. entry c.args.net.now (entry c.args.periods.now p) * k) (omega arith) in
    let put = each_more (p - 1) (p + 1 - 1) _ f c.loop-position.costs.items (omega arith) c.loop-position.invariant (is ∙ ap f e) in
    subst (HasEach (p + 1 - 1) f) (sym c.in_ok-push.ensures.items) put
