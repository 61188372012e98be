-- Multipliers bound the cost of every point.
use Rattle.std.proofs.Common.{◌≡◌, ◌<◌, ℕ, refl, sym, subst}
use Rattle.std.specs.Prelude.{pos}
use Rattle.rational.specs.Rational.{ℚ, ◌*ℚ◌, ◌≤ℚ◌}
use Rattle.rational.proofs.Rationals as Q
use Rattle.rational.proofs.Rationals.{rational_ring, rational_ordered}
use Rattle.algebra.proofs.Ordered.{mul_le, mul_le_right}
use Rattle.algebra.proofs.Rings.{con, ◌⊗◌, ◌⊜◌, ring1}
use Rattle.algebra.proofs.Sums.{dot-swap, sum-le, sum-zero}
use Rattle.tableau.specs.Program.{Program, column_count, cost_at, entry_at, right_at, row_count, sum_ℚ, zero_ℚ}
use Rattle.tableau.specs.Meaning.{AreNonnegative, IsFeasible, column_sum, right_sum}
use Rattle.tableau.specs.Proves.{OutcomesProve}

duality : (p : Program) (y z most : ℕ → ℚ) → AreNonnegative p y → IsFeasible p z → ((c : ℕ) → c < column_count p → column_sum p y c ≤ℚ most c) → right_sum p y ≤ℚ sum_ℚ (column_count p) (λ c. most c *ℚ z c)
duality p y z most low feasible columns =
    let m = row_count p in
    let n = column_count p in
    let left : ℕ → ℚ = λ k. sum_ℚ n (λ c. entry_at p k c *ℚ z c) in
    Q.le_trans (right_sum p y) (sum_ℚ m (λ k. y k *ℚ left k)) (sum_ℚ n (λ c. most c *ℚ z c))
    (sum-le rational_ordered m (λ k. y k *ℚ right_at p k) (λ k. y k *ℚ left k) (λ k high. mul_le rational_ordered (y k) (right_at p k) (left k) (low k high) (feasible.rows k high)))
    (subst (λ s. s ≤ℚ sum_ℚ n (λ c. most c *ℚ z c)) (sym (dot-swap rational_ordered m n (entry_at p) y z))
    (sum-le rational_ordered n (λ c. column_sum p y c *ℚ z c) (λ c. most c *ℚ z c) (λ c high. mul_le_right rational_ordered (z c) (column_sum p y c) (most c) (feasible.columns c high) (columns c high))))

none_of : (x : ℚ) → zero_ℚ *ℚ x ≡ zero_ℚ
none_of x = ring1 rational_ring (λ x. con (pos 0) ⊗ x ⊜ con (pos 0)) refl x

pub prove_all : (p : Program) → OutcomesProve p
prove_all p = record {
  best = λ x y z value best feasible. subst (λ v. v ≤ℚ sum_ℚ (column_count p) (λ c. cost_at p c *ℚ z c)) best.right (duality p y z (cost_at p) best.multipliers feasible best.columns);
  empty = λ y z none feasible. none.right (subst (λ s. right_sum p y ≤ℚ s) (sum-zero rational_ring (column_count p) (λ c. zero_ℚ *ℚ z c) (λ c high. none_of (z c))) (duality p y z (λ c. zero_ℚ) none.multipliers feasible none.columns));
}
