use Rattle.std.proofs.Common.{◌≡◌, ◌≤◌, ◌<◌, ◌-◌, ◌*◌, ◌∷◌, [], ℕ, subst, arith, length}
use Rattle.lot_sizing.specs.Sums.{sum_to}
use Rattle.lot_sizing.specs.Problem.{entry}
use Rattle.chain_dp.specs.Chains.{level_of}
use Rattle.chain_dp.specs.Numbers.{most}
use Rattle.chain_dp.specs.Lists.{AreListsOf, moved_level}
use Rattle.chain_dp.proofs.Leads.{one_capped}
use Rattle.chain_dp.proofs.Exact.{exact, fits_one}
use Rattle.chain_dp.proofs.solving.ChainTables.solve_one.Goals as goal

pub returns-clause-least : goal.returns-clause-least
returns-clause-least c =
    let level = c.args.level.now in
    let l = level_of level in
    let periods = length level.need.items in
    let lead = c.lead_of.result in
    let size : c.len-periods.result ≡ periods = omega (arith, c.len-periods.ensures) in
    let lists = subst (λ n. AreListsOf n (moved_level lead 0 periods l) c.in_ok-lists.lists) size c.in_ok-lists.ensures in
    let same = subst (λ n. (t : ℕ) → t ≤ n → t - level.lead ≡ t - lead) size c.lead_of.ensures.same in
    let small : c.opening_cost.result < most = omega (arith, c.if-opening_cost-eq340282366920938463463374607431768211455.false, c.opening_cost.type_inv) in
    exact periods (l ∷ []) c.in_ok-cost.cost
    (one_capped periods lead l c.in_ok-cost.cost same (c.in_ok-cost.ensures periods (moved_level lead 0 periods l) lists))
    (fits_one (level.opening_price * sum_to periods (entry level.need.items)) c.opening_cost.result c.opening_cost.ensures small)
