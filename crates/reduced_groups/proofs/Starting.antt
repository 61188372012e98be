-- What must have been started, as a table: sums over it fit, and lists of differences.
use Rattle.std.proofs.Common.{◌≡◌, ◌≤◌, ◌+◌, ◌-◌, ◌*◌, ◌∙◌, ⊎_elim, ℕ, zero, suc, sym, ap, arith, Bool, true, false, List, [], ◌∷◌, ◌++◌, length}
use Rattle.std.specs.Prelude.{if◌then◌else◌, ◌==◌}
use Rattle.std.proofs.lemmas.Bool.{cases_lt}
use Rattle.std.proofs.lemmas.List.{length_push, get_or_push, get_or_append_left}
use Rattle.std.proofs.Math.Nat.{mul-le-mul_left}
use Rattle.lot_sizing.specs.Sums.{sum_to}
use Rattle.lot_sizing.specs.Problem.{Problem, demand, item_count, per_unit}
use Rattle.lot_sizing.specs.Totals.{AreLargestTotals}
use Rattle.lot_sizing.specs.declared.limits.TheConstants.{MAX_AMOUNT, MAX_TOTAL}
use Rattle.lot_sizing.proofs.Sums.{sum_to-le, sum_to_at}
use Rattle.lot_model.specs.Views.{IsInstance}
use Rattle.must_start.specs.MustStart.{StartIsWithinTotals}
use Rattle.must_start.specs.Rows.{IsMustStartOf, start_in}
use Rattle.must_start.specs.Steps.{IsTable}
use Rattle.must_start.proofs.Tables.{arrivals_small, taken_small}
use Rattle.reduced_groups.specs.Groups.{asked_besides}
use Rattle.reduced_groups.specs.Levels.{HasSeries}

-- a list takes the entry of the next period
pub series_next : (n k x : ℕ) (f : ℕ → ℕ) (xs : List ℕ) → k ≡ n + 1 → HasSeries n f xs → x ≡ f k → HasSeries k f (xs ++ x ∷ [])
series_next n k x f xs next has is = record {
  size = omega (arith, length_push xs x, has.size, next);
  each = λ t low high. ⊎_elim
      (λ before. get_or_append_left xs (x ∷ []) 0 (t - 1) (omega (arith, before, low, has.size, next)) ∙ has.each t low (omega (arith, before, next)))
      (λ last. let e : t ≡ k = omega (arith, last, high) in get_or_push xs x 0 (t - 1) (omega (arith, e, low, has.size, next)) ∙ is ∙ ap f (sym e))
      (cases_lt t k);
}

pub series_none : (f : ℕ → ℕ) (xs : List ℕ) → xs ≡ [] → HasSeries 0 f xs
series_none f xs none = record { size = ap length none; each = λ t low high. absurd (omega (arith, low, high)) }

module _ (m : Problem) (rows : List (List ℕ)) (within : StartIsWithinTotals) (is : IsInstance m) (are : IsMustStartOf m rows) where
  table : IsTable m rows
  table = record {
    size = are.size;
    row_sizes = are.row_sizes;
    within = λ total totals i low high t t_high. at total totals i low high t t_high;
  }
    where
      at : (total : ℕ → ℕ) → AreLargestTotals m total → (i : ℕ) → 1 ≤ i → i ≤ item_count m → (t : ℕ) → t ≤ m.periods → start_in rows i t ≤ total i
      at total totals i low high zero h = omega (arith, are.starts.none i low high)
      at total totals i low high (suc t) h =
          let (rank, ranks) = is.ranked in
          within m rank total (start_in rows) ranks totals are.starts (λ j j_low j_high. (is.limits.each_item j j_low j_high).ends) i (suc t) low high (omega arith) h

  either : (b : Bool) (k : ℕ) → (if b then 0 else k) ≤ k
  either true k = omega arith
  either false k = omega arith

  pub product_small : (i j u : ℕ) → 1 ≤ i → i ≤ item_count m → 1 ≤ j → j ≤ item_count m → u ≤ m.periods → per_unit m i j * start_in rows j u ≤ MAX_TOTAL + MAX_AMOUNT
  product_small i j u low high j_low j_high u_high =
      omega (arith, taken_small m rows i u j is table low high u_high j_high, sum_to_at j (λ k. per_unit m i k * start_in rows k u) j_low)

  less : (i next u k : ℕ) → sum_to k (λ j. per_unit m i j * (if j == next then 0 else start_in rows j u)) ≤ sum_to k (λ j. per_unit m i j * start_in rows j u)
  less i next u k = sum_to-le k (λ j. per_unit m i j * (if j == next then 0 else start_in rows j u)) (λ j. per_unit m i j * start_in rows j u) (λ j low high. mul-le-mul_left (per_unit m i j) (either (j == next) (start_in rows j u)))

  pub besides_small : (i next u k : ℕ) → 1 ≤ i → i ≤ item_count m → u ≤ m.periods → k ≤ item_count m → sum_to k (λ j. per_unit m i j * (if j == next then 0 else start_in rows j u)) ≤ MAX_TOTAL + MAX_AMOUNT
  besides_small i next u k low high u_high k_high = omega (arith, less i next u k, taken_small m rows i u k is table low high u_high k_high)

  pub asked_small : (i next u : ℕ) → 1 ≤ i → i ≤ item_count m → u ≤ m.periods → asked_besides m (start_in rows) i next u ≤ MAX_TOTAL + MAX_AMOUNT
  asked_small i next u low high u_high = omega (arith, less i next u (item_count m), arrivals_small m rows i u is table low high u_high)

  pub demand_small : (i u : ℕ) → 1 ≤ i → i ≤ item_count m → u ≤ m.periods → sum_to u (demand m i) ≤ MAX_TOTAL + MAX_AMOUNT
  demand_small i u low high u_high = omega (arith, arrivals_small m rows i u is table low high u_high)
