-- Sums of multiples of rows at points at which the rows hold.
use Rattle.std.proofs.Common.{◌≡◌, ◌∙◌, refl, ap, arith, Bool, true, false, List, [], ◌∷◌}
use Rattle.std.specs.Prelude.{ℕ, ℤ, pos, ◌+ℤ◌, ◌*ℤ◌, ◌≤ℤ◌}
use Rattle.algebra.proofs.Integers.{add_mul, mul_assoc, zero_mul}
use Rattle.algebra.proofs.Order.{linear, mul_le}
use Rattle.lin_rows.specs.declared.column.Column.{Column}
use Rattle.lin_rows.specs.declared.row.Term.{Term}
use Rattle.lin_rows.specs.Combining.{AllHold, AreSigned, column_sum, right_sum, sum_of}
use Rattle.lin_rows.specs.Rows.{IsHeld, LinPoint, LinRow, sum_at}
use Rattle.lin_rows.specs.Sums.{coefficient}
use Rattle.lin_rows.proofs.Below.{AreBelow, sum_below, sum_terms, sum_terms_add, sum_terms_take, times_coefficient, times_sum, times_terms}

-- a row that holds, taken so many times
held_times : (b : Bool) (z left right : ℤ) → (b ≡ false → pos 0 ≤ℤ z) → IsHeld b left right → (z *ℤ right) ≤ℤ (z *ℤ left)
held_times true z left right sign held = omega (arith, linear, ap (λ y. z *ℤ y) held)
held_times false z left right sign held = mul_le z right left (sign refl) held

-- rows that hold add to one that holds
rows_add : (q : LinPoint) (rows : List LinRow) (times : List ℤ) → AreSigned rows times → AllHold q rows → (right_sum rows times *ℤ pos q.den) ≤ℤ sum_of rows times (λ r. sum_at q.values r.terms)
rows_add q [] times signed hold = omega (arith, linear, zero_mul (pos q.den))
rows_add q (r ∷ rows) [] signed hold = omega (arith, linear, zero_mul (pos q.den))
rows_add q (r ∷ rows) (z ∷ times) signed hold =
    omega (arith, linear, held_times r.equal z (sum_at q.values r.terms) (r.right *ℤ pos q.den) signed.0 hold.0, rows_add q rows times signed.1 hold.1, add_mul (z *ℤ r.right) (right_sum rows times) (pos q.den), mul_assoc z r.right (pos q.den))

pub sums_hold_at : (rows : List LinRow) (times : List ℤ) (den : ℕ) (terms : List Term) → AreSigned rows times → ((c : Column) → column_sum rows times c ≤ℤ (pos den *ℤ coefficient terms c)) → (q : LinPoint) → AllHold q rows → (right_sum rows times *ℤ pos q.den) ≤ℤ (pos den *ℤ sum_at q.values terms)
sums_hold_at rows times den terms signed most q hold =
    let v = q.values in
    let xs = sum_terms rows times in
    let ys = times_terms (pos den) terms in
    let below : AreBelow xs ys = λ c. omega (arith, linear, sum_terms_take rows times c, times_coefficient (pos den) terms c, most c) in
    omega (arith, linear, rows_add q rows times signed hold, sum_terms_add v rows times, sum_below v xs ys below, times_sum v (pos den) terms)
