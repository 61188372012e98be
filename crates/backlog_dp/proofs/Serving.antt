-- What it costs to serve all positions.
use Rattle.std.proofs.Common.{◌≡◌, ◌≤◌, ◌+◌, ◌-◌, ◌*◌, ◌∙◌, ⊎_elim, ℕ, zero, suc, refl, sym, ap, arith, List, length, slice_index_or}
use Rattle.std.proofs.lemmas.Bool.{cases_lt}
use Rattle.std.proofs.lemmas.List.{get_or_default}
use Rattle.std.proofs.Math.Nat.{mul-le-mul_left}
use Rattle.lot_sizing.specs.Sums.{sum_to}
use Rattle.lot_sizing.specs.Problem.{AllAtMost, IsSeries, entry}
use Rattle.lot_sizing.specs.Single.{Single, net_demand, period_count, period_of, position_count, serving_cost, unit_price}
use Rattle.lot_sizing.proofs.Sums.{sum_to-front, sum_to-le, sum_to-same, sum_to-times, sum_to_at}
use Rattle.lot_sizing.proofs.Positions.{count, count_idle, count_next, period_of_count, place}
use Rattle.echelon.specs.Views.{HasEach}
use Rattle.lot_sizing.specs.declared.limits.TheConstants.{MAX_PERIODS}
use Rattle.echelon.specs.declared.net.TheConstants.{MAX_ASKED}
use Rattle.echelon_rows.specs.declared.limits.TheConstants.{MAX_PRICE, MAX_STEP}

-- the net demands of the positions add to those of the periods
positions_net : (s : Single) (n : ℕ) → n ≤ period_count s → sum_to (count s n) (λ p. net_demand s (period_of s p)) ≡ sum_to n (net_demand s)
positions_net s zero h = refl
positions_net s (suc n) h =
    let F = λ (p : ℕ). net_demand s (period_of s p) in
    let before = positions_net s n (omega (arith, h)) in
    ⊎_elim
    (λ some.
    let next = count_next s n some in
    let here : period_of s (suc (count s n)) ≡ suc n = ap (period_of s) (sym next) ∙ period_of_count s n h some in
    omega (arith, before, ap (λ k. sum_to k F) next, ap (net_demand s) here))
    (λ idle.
    let free : net_demand s (suc n) ≡ 0 = omega (arith, idle) in
    omega (arith, before, ap (λ k. sum_to k F) (count_idle s n free), free))
    (cases_lt 0 (net_demand s (suc n)))

-- each number is at most all together
pub each_small : (net : List ℕ) (most : ℕ) → sum_to (length net) (entry net) ≤ most → AllAtMost most net
each_small net most small k d less =
    let e : k + 1 - 1 ≡ k = omega arith in
    omega (arith, get_or_default net k d 0 less, ap (λ j. slice_index_or net j 0) e, sum_to_at (k + 1) (entry net) (omega arith), sum_to-front (k + 1) (length net) (entry net) (omega (arith, less)), small)

-- a position's period is one
pub record IsIn (n t : ℕ) : Type 0 where
  pub low : 1 ≤ t
  pub high : t ≤ n

pub period_in : (s : Single) (p : ℕ) → 1 ≤ p → p ≤ position_count s → IsIn (period_count s) (period_of s p)
period_in s p low high = let found = place s p low high in record { low = omega (arith, found.3); high = omega (arith, found.1, found.3) }

-- what positions cost, by what a unit costs for each period
pub each_serving : (s : Single) (net prices costs : List ℕ) (u : ℕ) → s.net ≡ net → HasEach (length net) (unit_price s u) prices → HasEach (position_count s) (λ p. entry s.net (period_of s p) * entry prices (period_of s p)) costs → HasEach (position_count s) (serving_cost s u) costs
each_serving s net prices costs u same priced has = record {
  size = has.size;
  each = λ p low high.
      let is = period_in s p low high in
      has.each p low high ∙ ap (λ k. net_demand s (period_of s p) * k) (priced.each (period_of s p) is.low (omega (arith, is.high, ap length same)));
}

pub costs_small : (net prices costs : List ℕ) (s : Single) → s.net ≡ net → IsSeries (length net) (MAX_PERIODS * MAX_PRICE) prices → sum_to (length net) (entry net) ≤ MAX_ASKED → HasEach (position_count s) (λ p. entry s.net (period_of s p) * entry prices (period_of s p)) costs → sum_to (length costs) (entry costs) ≤ MAX_PERIODS * MAX_STEP
costs_small net prices costs s same priced most has =
    let m = position_count s in
    let T = period_count s in
    let f : ℕ → ℕ = λ p. entry s.net (period_of s p) * entry prices (period_of s p) in
    let size : T ≡ length net = ap length same in
    let each = sum_to-le m f (λ p. MAX_PERIODS * MAX_PRICE * net_demand s (period_of s p)) (λ p low high.
    let is = period_in s p low high in
    let price : entry prices (period_of s p) ≤ MAX_PERIODS * MAX_PRICE = priced.small (period_of s p - 1) 0 (omega (arith, is.low, is.high, size, priced.size)) in
    omega (arith, mul-le-mul_left (net_demand s (period_of s p)) price)) in
    omega (
      arith,
      ap (λ k. sum_to k (entry costs)) has.size,
      sum_to-same m (entry costs) f has.each,
      each,
      sum_to-times m (MAX_PERIODS * MAX_PRICE) (λ p. net_demand s (period_of s p)),
      positions_net s T (omega arith),
      ap (λ ns. sum_to (length ns) (entry ns)) same,
      most,
    )
