-- The rows of bounds.
use Rattle.std.proofs.Common.{◌<◌, ◌*◌, ◌^◌, ℕ, arith, Bool, true, false}
use Rattle.std.specs.Prelude.{ℤ, pos, ◌+ℤ◌, ◌*ℤ◌, ◌≤ℤ◌}
use Rattle.std.proofs.lemmas.Int.{ints}
use Rattle.algebra.proofs.Integers.{neg_mul, one_mul}
use Rattle.frac128.specs.Limits.{IsSmall}
use Rattle.lin_rows.specs.declared.bound.Bound.{Bound}
use Rattle.lin_rows.specs.Bounds.{MeetsBound, IsWithinNumber, bound_right, bound_row, bound_times}
use Rattle.lin_rows.specs.Rows.{HoldsAt, LinPoint}
use Rattle.lin_rows.proofs.Terms.{all_one as one_term}
use Rattle.lp_relaxation.specs.Laws.{HasSmallNumbers}

times_small : (most : Bool) → IsSmall (bound_times most)
times_small true = omega arith
times_small false = omega arith

right_small : (most : Bool) (number : ℕ) → number < 2 ^ 64 → IsSmall (bound_right most number)
right_small true number less = omega (arith, ints, less)
right_small false number less = omega (arith, ints, less)

pub bound_small : (b : Bound) → b.number < 2 ^ 64 → HasSmallNumbers (bound_row b)
bound_small b less = record {
  terms = one_term (λ a. IsSmall a.times) _ (times_small b.most);
  right = right_small b.most b.number less;
}

-- it holds only at points within the bound
within : (most : Bool) (number den v : ℕ) → (bound_right most number *ℤ pos den) ≤ℤ (bound_times most *ℤ pos v +ℤ pos 0) → IsWithinNumber most (number * den) v
within true number den v holds = omega (arith, ints, holds, neg_mul (pos number) (pos den), neg_mul (pos 1) (pos v), one_mul (pos v))
within false number den v holds = omega (arith, ints, holds, one_mul (pos v))

pub bound_holds : (q : LinPoint) (b : Bound) → HoldsAt q (bound_row b) → MeetsBound q b
bound_holds q b holds = within b.most b.number q.den (q.values b.column) holds
