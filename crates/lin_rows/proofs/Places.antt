-- Columns that are found by their numbers.
use Rattle.std.proofs.Common.{◌≡◌, ◌≤◌, ◌<◌, ◌+◌, ◌-◌, ◌*◌, ◌∙◌, ⊎_elim, ℕ, ap, arith}
use Rattle.std.proofs.lemmas.Bool.{cases_lt}
use Rattle.lot_sizing.specs.Problem.{Problem}
use Rattle.lot_sizing.proofs.Sums.{sum_to_at}
use Rattle.lin_rows.specs.Columns.{owes, owing_count}

-- the backlogs of one more item
owing_step : (m : Problem) (i : ℕ) → 1 ≤ i → owing_count m (i + 1 - 1) ≡ owing_count m (i - 1) + owes m i * (m.periods - 1)
owing_step m i low =
    let e : i + 1 - 1 ≡ i = omega arith in
    omega (arith, ap (λ k. owing_count m k) e, ap (λ k. k * (m.periods - 1)) (sum_to_at i (owes m) low))

-- and they are passed by
pub owing_past : (m : Problem) (i owed each left place : ℕ) → 1 ≤ i → owed ≡ owes m i → each ≡ m.periods - 1 → owing_count m (i - 1) + left ≡ place → (left < owed * each → ⊥) → owing_count m (i + 1 - 1) + (left - owed * each) ≡ place
owing_past m i owed each left place low is_owed is_each so_far past =
    let product : owed * each ≡ owes m i * (m.periods - 1) = ap (λ k. k * each) is_owed ∙ ap (λ k. owes m i * k) is_each in
    ⊎_elim (λ less. absurd (past less)) (λ enough. omega (arith, owing_step m i low, product, so_far, enough)) (cases_lt left (owed * each))
