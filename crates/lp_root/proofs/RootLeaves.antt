-- Where the multipliers of a round make a leaf, it says what the relaxation comes to, or its sums aren't small.
use Rattle.std.proofs.Common.{◌≡◌, ℕ, sym, subst, arith, slice_index_or}
use Rattle.std.specs.Prelude.{ℤ, pos, Option, Some, None, IsSomeAnd}
use Rattle.std.proofs.lemmas.Int.{ints}
use Rattle.algebra.proofs.Sums.{sum-nonneg}
use Rattle.rational.specs.Rational.{ℚ, whole, ceil_ℚ, ◌*ℚ◌, ◌≤ℚ◌}
use Rattle.rational.proofs.Rationals as Q
use Rattle.rational.proofs.Rationals.{rational_ordered}
use Rattle.rational.proofs.Facts.{is_ceiling, whole-le, le-whole}
use Rattle.cert_lines.specs.declared.parts.Leaf.{Leaf}
use Rattle.cert_lines.specs.Shapes.{LeafShape, leaf_shape}
use Rattle.tableau.specs.Meaning.{AreBest}
use Rattle.tableau.specs.Program.{Program, column_count as width_of, cost_at, zero_ℚ}
use Rattle.cert_meaning.specs.Says.{IsRoundedUp}
use Rattle.cert_checker.specs.declared.fault.Why.TheVariants as why
use Rattle.lp_relaxation.proofs.Common.{natural}

pub rounded_up : (p : Program) (x y : ℕ → ℚ) (value : ℚ) → AreBest p x y value → (c : ℕ) × (pos c ≡ ceil_ℚ value)
rounded_up p x y value best =
    let low : zero_ℚ ≤ℚ value = subst (λ v. zero_ℚ ≤ℚ v) best.cost (sum-nonneg rational_ordered (width_of p) (λ c. cost_at p c *ℚ x c) (λ c high. Q.mul_nonneg (cost_at p c) (x c) (whole-le (pos 0) (pos (slice_index_or p.costs c 0)) (omega (arith, ints))) (best.feasible.columns c high))) in
    natural (ceil_ℚ value) (le-whole (pos 0) (ceil_ℚ value) (Q.le_trans zero_ℚ value (whole (ceil_ℚ value)) low (is_ceiling value).above))

pub one_amount : (den a : ℤ) (n k : ℕ) → IsRoundedUp den a n → IsRoundedUp den a k → n ≡ k
one_amount den a n k is also = omega (arith, is.least k also.above, also.least n is.above)

-- ---- the leaf that is kept
pub kept_leaf : (leaf : Option Leaf) (shape : LeafShape) (P : LeafShape → Type 0) → P shape → IsSomeAnd leaf (λ a. leaf_shape a ≡ shape) → IsSomeAnd leaf (λ a. P (leaf_shape a))
kept_leaf None shape P is kept = kept
kept_leaf (Some a) shape P is kept = subst P (sym kept) is
