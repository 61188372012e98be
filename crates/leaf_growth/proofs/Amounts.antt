-- A leaf says no more than the amount of its right sides.
use Rattle.std.proofs.Common.{◌≤◌, ◌<◌, ◌-◌, ◌*◌, ◌^◌, ℕ, zero, suc, arith, List, [], ◌∷◌}
use Rattle.std.specs.Prelude.{ℤ, pos, negsuc, ◌*ℤ◌, ◌≤ℤ◌, unsigned_abs}
use Rattle.algebra.proofs.Order.{add_le, le_trans, linear}
use Rattle.lin_rows.specs.Combining.{sum_of}
use Rattle.lin_rows.specs.Rows.{LinRow}
use Rattle.round_cuts.specs.Rounding.{amount_of}
use Rattle.cert_lines.specs.Shapes.{FarkasLeaf, LeafShape, LinearLeaf, PointLeaf, ReducedLeaf}
use Rattle.cert_trees.specs.Ranges.{Ranges}
use Rattle.cert_meaning.specs.declared.says.LeafSays.TheVariants.{AtLeast}
use Rattle.cert_meaning.specs.Named.{Named}
use Rattle.cert_meaning.specs.Parts.{rows_of, times_of}
use Rattle.cert_meaning.specs.Says.{IsRoundedUp}
use Rattle.leaf_growth.specs.Growth.{IsOfRows, SaysAt}

below_abs : (z : ℤ) → z ≤ℤ pos (unsigned_abs z)
below_abs (pos n) = omega (arith, linear)
below_abs (negsuc n) = omega (arith, linear)

below_amount : (rows : List LinRow) (times : List ℤ) (f : LinRow → ℤ) → sum_of rows times f ≤ℤ pos (amount_of rows times f)
below_amount [] times f = omega (arith, linear)
below_amount (r ∷ rows) [] f = omega (arith, linear)
below_amount (r ∷ rows) (z ∷ times) f =
    add_le (z *ℤ f r) (pos (unsigned_abs (z *ℤ f r))) (sum_of rows times f) (pos (amount_of rows times f)) (below_abs (z *ℤ f r)) (below_amount rows times f)

times_more : (d k : ℕ) → k ≤ suc d * k
times_more d k = grind arith

more_of : (den : ℤ) (k : ℕ) → pos 1 ≤ℤ den → pos k ≤ℤ (den *ℤ pos k)
more_of (pos zero) k low = absurd (omega (arith, linear, low))
more_of (pos (suc d)) k low = omega (arith, linear, times_more d k)
more_of (negsuc d) k low = absurd (omega (arith, linear, low))

rounded_most : (den a : ℤ) (n most : ℕ) → pos 1 ≤ℤ den → a ≤ℤ pos most → IsRoundedUp den a n → n ≤ most
rounded_most den a n most low below is = is.least most (le_trans a (pos most) (den *ℤ pos most) below (more_of den most low))

pub amount_small : (n : Named) (ranges : Ranges) (leaf : LeafShape) (amount : ℕ) → IsOfRows leaf → SaysAt n ranges leaf (AtLeast amount) → amount < 2 ^ 127
amount_small n ranges (LinearLeaf den parts) amount of is =
    let right : LinRow → ℤ = λ r. r.right in
    let most = amount_of (rows_of n parts) (times_of parts) right in
    let less = rounded_most den (sum_of (rows_of n parts) (times_of parts) right) amount most is.said.positive (below_amount (rows_of n parts) (times_of parts) right) is.said.right in
    omega (arith, less, is.small.right)
amount_small n ranges (FarkasLeaf parts) amount of is = absurd is.said
amount_small n ranges PointLeaf amount of is = absurd of
amount_small n ranges (ReducedLeaf den parts lists groups) amount of is =
    let sum : ℤ = is.said.sum in
    let small = (is.small.1 sum is.said.adds).small in
    let less = rounded_most (pos den) sum amount (2 ^ 127 - 1) (omega (arith, linear, is.said.positive)) (omega (arith, linear, small)) is.said.right in
    omega (arith, less)
