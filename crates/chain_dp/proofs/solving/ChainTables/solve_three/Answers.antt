use Rattle.std.proofs.Common.{◌≡◌, ◌≤◌, ◌<◌, ◌+◌, ◌-◌, ◌*◌, ◌∷◌, [], ℕ, subst, arith, length, refl}
use Rattle.lot_sizing.specs.Sums.{sum_to}
use Rattle.lot_sizing.specs.Problem.{entry}
use Rattle.chain_dp.specs.Chains.{level_of}
use Rattle.chain_dp.specs.Numbers.{IsCapped, most}
use Rattle.chain_dp.specs.Lists.{AreListsOf, moved_level}
use Rattle.chain_dp.proofs.Leads.{AreMoved, three_capped}
use Rattle.chain_dp.proofs.Exact.{exact, fits_three}
use Rattle.chain_dp.proofs.solving.ChainTables.solve_three.Goals as goal

pub returns-clause-least : goal.returns-clause-least
returns-clause-least c =
    let low = c.args.low.now in
    let mid = c.args.mid.now in
    let top = c.args.top.now in
    let l = level_of low in
    let m = level_of mid in
    let t = level_of top in
    let periods = length top.need.items in
    let size : c.len-periods.result ≡ periods = omega (arith, c.len-periods.ensures) in
    let lead_1 = c.lead_of-2.result in
    let lead_2 = c.lead_of.result in
    let lead_3 = c.lead_of-top_shift.result in
    let shift_2 = lead_2 + lead_3 in
    let shift_1 = lead_1 + shift_2 in
    let horizon = c.len-periods.result + shift_2 in
    let moves : AreMoved periods horizon l m t lead_1 lead_2 lead_3 shift_1 shift_2 = record {
      same_1 = subst (λ n. (k : ℕ) → k ≤ n → k - low.lead ≡ k - lead_1) size c.lead_of-2.ensures.same;
      same_2 = subst (λ n. (k : ℕ) → k ≤ n → k - mid.lead ≡ k - lead_2) size c.lead_of.ensures.same;
      same_3 = subst (λ n. (k : ℕ) → k ≤ n → k - top.lead ≡ k - lead_3) size c.lead_of-top_shift.ensures.same;
      is_shift_1 = refl;
      is_shift_2 = refl;
      long = omega (arith, size);
    } in
    let low_lists = subst (λ n. AreListsOf horizon (moved_level shift_1 shift_2 n l) c.in_ok-low_lists.low_lists) c.requires.low.need c.in_ok-low_lists.ensures in
    let mid_lists = subst (λ n. AreListsOf horizon (moved_level shift_2 lead_3 n m) c.in_ok-mid_lists.mid_lists) c.requires.mid.need c.in_ok-mid_lists.ensures in
    let least = c.in_ok-cost.ensures horizon (moved_level shift_1 shift_2 periods l) (moved_level shift_2 lead_3 periods m) (moved_level lead_3 0 periods t) low_lists mid_lists c.in_ok-top_lists.ensures in
    let small : c.saturating_add.result < most = omega (arith, c.if-saturating_add.false, c.saturating_add.type_inv) in
    let first = subst (λ n. IsCapped (low.opening_price * sum_to n (entry low.need.items)) c.opening_cost.result) c.requires.low.need c.opening_cost.ensures in
    let second = subst (λ n. IsCapped (mid.opening_price * sum_to n (entry mid.need.items)) c.opening_cost-2.result) c.requires.mid.need c.opening_cost-2.ensures in
    let third = top.opening_price * sum_to periods (entry top.need.items) in
    exact periods (l ∷ m ∷ t ∷ []) c.in_ok-cost.cost
    (three_capped periods horizon l m t lead_1 lead_2 lead_3 shift_1 shift_2 c.in_ok-cost.cost moves least)
    (fits_three (low.opening_price * sum_to periods (entry low.need.items)) (mid.opening_price * sum_to periods (entry mid.need.items)) third c.opening_cost.result c.opening_cost-2.result c.opening_cost-3.result c.saturating_add-parts.result c.saturating_add.result
    first second c.opening_cost-3.ensures c.saturating_add-parts.ensures c.saturating_add.ensures small)
