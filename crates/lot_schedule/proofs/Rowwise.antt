-- The first place at which a rule is broken, row by row.
use Rattle.std.proofs.Common.{◌≤◌, ◌<◌, ◌+◌, ⊎_elim, inl, ℕ, sym, subst, arith}
use Rattle.std.proofs.lemmas.Bool.{cases_lt}
use Rattle.plan_rules.specs.Order.{HoldsBefore, HoldsInRow, IsFirst, IsFirstInRow}

-- one column more
pub column_next : (R : ℕ → Type 0) (t : ℕ) → ((u : ℕ) → 1 ≤ u → u < t → R u) → R t → (u : ℕ) → 1 ≤ u → u < t + 1 → R u
column_next R t so_far here u low high = ⊎_elim (λ before. so_far u low before) (λ no. subst R (omega (arith, no, high)) here) (cases_lt u t)

-- one row more
pub row_next : (rows columns : ℕ) (R : ℕ → ℕ → Type 0) (k : ℕ) → HoldsBefore rows columns R k 1 → HoldsInRow columns R k → HoldsBefore rows columns R (k + 1) 1
row_next rows columns R k so_far here j u low high u_low u_high before =
    ⊎_elim
    (λ row. ⊎_elim (λ less. so_far j u low high u_low u_high (inl less)) (λ no. subst (λ i. R i u) (omega (arith, no, row)) (here u u_low u_high)) (cases_lt j k))
    (λ same. absurd (omega (arith, same.1, u_low)))
    before

-- the first in the first row that isn't whole
pub first_place : (rows columns : ℕ) (R : ℕ → ℕ → Type 0) (k t : ℕ) → 1 ≤ k → k ≤ rows → HoldsBefore rows columns R k 1 → IsFirstInRow columns R k t → IsFirst rows columns R k t
first_place rows columns R k t low high so_far first = record {
  row_low = low;
  row_high = high;
  column_low = first.low;
  column_high = first.high;
  broken = first.broken;
  before = λ j u j_low j_high u_low u_high before. ⊎_elim (λ row. so_far j u j_low j_high u_low u_high (inl row)) (λ same. subst (λ i. R i u) (sym same.0) (first.before u u_low same.1)) before;
}
