-- Whole multipliers prove what fractions prove.
use Rattle.std.proofs.Common.{◌≡◌, ◌≤◌, ◌<◌, ◌∙◌, ℕ, refl, sym, ap, subst, arith}
use Rattle.std.proofs.lemmas.Int.{ints}
use Rattle.algebra.proofs.Rings.{con, ◌⊗◌, ◌⊜◌, ring1}
use Rattle.std.specs.Prelude.{pos, ℤ}
use Rattle.rational.specs.Rational.{ℚ, inv_ℚ, whole, ◌*ℚ◌, ◌≤ℚ◌}
use Rattle.rational.proofs.Rationals as Q
use Rattle.rational.proofs.Rationals.{rational_ring, rational_ordered}
use Rattle.algebra.proofs.Ordered.{mul_le}
use Rattle.algebra.proofs.Sums.{sum-same, sum-scale}
use Rattle.tableau.specs.Program.{Program, cost_at, entry_at, right_at, row_count, sum_ℚ, zero_ℚ}
use Rattle.tableau.specs.Run.{IsPositive}
use Rattle.tableau.specs.Meaning.{column_sum, right_sum}
use Rattle.tableau.specs.Leaves.{AreOfLeaf, AreWholeTimes, LeavesProve}
use Rattle.tableau.proofs.Keeps.{inverse_le, not_zero, positive_le}

whole_positive : (n : ℕ) → 1 ≤ n → IsPositive (whole (pos n))
whole_positive n some = subst (λ x. whole (pos n) ≤ℚ x → ⊥) Q.zero_is (Q.make-above_whole (pos n) (pos 0) (pos 1) (omega (arith, ints)) (omega (arith, ints, some)))

-- a nonnegative factor out of an inequality with 0
none_left : (x : ℚ) → x *ℚ zero_ℚ ≡ zero_ℚ
none_left x = ring1 rational_ring (λ x. x ⊗ con (pos 0) ⊜ con (pos 0)) refl x

cancel : (x y : ℚ) → IsPositive x → IsPositive y → IsPositive (x *ℚ y)
cancel x y first second low =
    second (subst (λ z. y ≤ℚ z) (none_left (inv_ℚ x)) (subst (λ z. z ≤ℚ inv_ℚ x *ℚ zero_ℚ)
    (sym (Q.mul_assoc (inv_ℚ x) x y) ∙ ap (λ z. z *ℚ y) (Q.inv-mul x (not_zero x first)) ∙ Q.one_mul y)
    (mul_le rational_ordered (inv_ℚ x) (x *ℚ y) zero_ℚ (inverse_le x first) low)))

module _ (p : Program) (y : ℕ → ℚ) (den : ℕ) (z : ℕ → ℤ) (is : AreWholeTimes (row_count p) y den z) where
  positive : IsPositive (whole (pos den))
  positive = whole_positive den is.positive

  scaled : (f : ℕ → ℚ) → sum_ℚ (row_count p) (λ k. whole (z k) *ℚ f k) ≡ whole (pos den) *ℚ sum_ℚ (row_count p) (λ k. y k *ℚ f k)
  scaled f =
      sum-same rational_ring (row_count p) (λ k. whole (z k) *ℚ f k) (λ k. whole (pos den) *ℚ (y k *ℚ f k)) (λ k high. ap (λ x. x *ℚ f k) (is.each k high) ∙ Q.mul_assoc (whole (pos den)) (y k) (f k))
      ∙ sum-scale rational_ring (row_count p) (whole (pos den)) (λ k. y k *ℚ f k)

  nonnegative : ((k : ℕ) → k < row_count p → zero_ℚ ≤ℚ y k) → (k : ℕ) → k < row_count p → zero_ℚ ≤ℚ whole (z k)
  nonnegative low k high = subst (λ x. zero_ℚ ≤ℚ x) (sym (is.each k high)) (Q.mul_nonneg (whole (pos den)) (y k) (positive_le (whole (pos den)) positive) (low k high))

  column : (c : ℕ) (most : ℚ) → column_sum p y c ≤ℚ most → column_sum p (λ k. whole (z k)) c ≤ℚ whole (pos den) *ℚ most
  column c most low = subst (λ x. x ≤ℚ whole (pos den) *ℚ most) (sym (scaled (λ k. entry_at p k c))) (mul_le rational_ordered (whole (pos den)) (column_sum p y c) most (positive_le (whole (pos den)) positive) low)

pub prove : (p : Program) (y : ℕ → ℚ) (den : ℕ) (z : ℕ → ℤ) → AreOfLeaf (row_count p) y den z → LeavesProve p y den z
prove p y den z leaf = record {
  best = λ x value best. record {
    multipliers = nonnegative p y den z leaf.times best.multipliers;
    columns = λ c high. column p y den z leaf.times c (cost_at p c) (best.columns c high);
    right = scaled p y den z leaf.times (right_at p) ∙ ap (λ x. whole (pos den) *ℚ x) best.right;
  };
  empty = λ none. record {
    multipliers = nonnegative p y den z leaf.times none.multipliers;
    columns = λ c high. subst (λ x. column_sum p (λ k. whole (z k)) c ≤ℚ x) (none_left (whole (pos den))) (column p y den z leaf.times c zero_ℚ (none.columns c high));
    right = subst IsPositive (sym (scaled p y den z leaf.times (right_at p))) (cancel (whole (pos den)) (right_sum p y) (positive p y den z leaf.times) none.right);
  };
}
