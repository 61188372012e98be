use Rattle.std.proofs.Common.{◌≡◌, ◌≤◌, ◌<◌, ◌+◌, ◌-◌, ◌*◌, ◌∷◌, [], ℕ, subst, arith, length, refl}
use Rattle.lot_sizing.specs.Sums.{sum_to}
use Rattle.lot_sizing.specs.Problem.{entry}
use Rattle.chain_dp.specs.Chains.{level_of}
use Rattle.chain_dp.specs.Numbers.{IsCapped, most}
use Rattle.chain_dp.specs.Lists.{AreListsOf, moved_level}
use Rattle.chain_dp.proofs.Leads.{two_capped}
use Rattle.chain_dp.proofs.Exact.{exact, fits_two}
use Rattle.chain_dp.proofs.solving.ChainTables.solve_two.Goals as goal

pub returns-clause-least : goal.returns-clause-least
returns-clause-least c =
    let low = c.args.low.now in
    let top = c.args.top.now in
    let l = level_of low in
    let t = level_of top in
    let periods = length top.need.items in
    let size : c.len-periods.result ≡ periods = omega (arith, c.len-periods.ensures) in
    let lead_1 = c.lead_of.result in
    let lead_2 = c.lead_of-top_shift.result in
    let shift = lead_1 + lead_2 in
    let horizon = c.len-periods.result + lead_2 in
    let same_1 = subst (λ n. (k : ℕ) → k ≤ n → k - low.lead ≡ k - lead_1) size c.lead_of.ensures.same in
    let same_2 = subst (λ n. (k : ℕ) → k ≤ n → k - top.lead ≡ k - lead_2) size c.lead_of-top_shift.ensures.same in
    let lists = subst (λ n. AreListsOf horizon (moved_level shift lead_2 n l) c.in_ok-low_lists.low_lists) c.requires.low.need c.in_ok-low_lists.ensures in
    let least = c.in_ok-cost.ensures horizon (moved_level shift lead_2 periods l) (moved_level lead_2 0 periods t) lists c.in_ok-top_lists.ensures in
    let small : c.saturating_add.result < most = omega (arith, c.if-saturating_add.false, c.saturating_add.type_inv) in
    let first = subst (λ n. IsCapped (low.opening_price * sum_to n (entry low.need.items)) c.opening_cost.result) c.requires.low.need c.opening_cost.ensures in
    exact periods (l ∷ t ∷ []) c.in_ok-cost.cost
    (two_capped periods horizon lead_1 lead_2 shift l t c.in_ok-cost.cost same_1 same_2 refl (omega (arith, size)) least)
    (fits_two (low.opening_price * sum_to periods (entry low.need.items)) (top.opening_price * sum_to periods (entry top.need.items)) c.opening_cost.result c.opening_cost-2.result c.saturating_add.result first c.opening_cost-2.ensures c.saturating_add.ensures small)
