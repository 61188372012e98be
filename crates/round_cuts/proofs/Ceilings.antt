-- Terms divided and rounded up, and that the row they make holds.
use Rattle.std.proofs.Common.{◌≡◌, ◌≤◌, ◌<◌, ◌+◌, ◌∙◌, ⊎_elim, ℕ, zero, suc, refl, sym, ap, subst, arith, Bool, true, false, List, [], ◌∷◌, ◌++◌}
use Rattle.std.specs.Prelude.{if◌then◌else◌, map, ℤ, pos, negsuc, neg_ℤ, ◌+ℤ◌, ◌-ℤ◌, ◌*ℤ◌, ◌≤ℤ◌, ◌<ℤ◌}
use Rattle.std.specs.Int.{int_div_euclid}
use Rattle.std.proofs.lemmas.Bool.{cases_Bool}
use Rattle.std.proofs.lemmas.List.{map-append}
use Rattle.std.proofs.lemmas.List.Elements.{filter-append}
use Rattle.algebra.proofs.Integers.{add_mul, add_zero, mul_add, mul_comm, mul_neg, mul_one, mul_zero, one_mul, zero_add}
use Rattle.algebra.proofs.Lowest.{floor_is}
use Rattle.algebra.proofs.Order.{cancel_lt, linear}
use Rattle.lin_rows.specs.declared.column.Column.{Column}
use Rattle.lin_rows.specs.declared.row.Term.{Term}
use Rattle.lin_rows.specs.Base.{is_some_term, some_terms, term}
use Rattle.lin_rows.specs.Columns.{order_of}
use Rattle.lin_rows.specs.Combining.{AllHold, AreSigned, SumsHold, column_sum, right_sum}
use Rattle.lin_rows.specs.Rows.{AreTerms, HoldsAt, IsHeld, LinPoint, LinRow, sum_at}
use Rattle.lin_rows.specs.Sums.{coefficient, same_column}
use Rattle.lin_rows.proofs.Below.{one_by_parts}
use Rattle.lin_rows.proofs.Terms.{RiseTo, are_terms}
use Rattle.round_cuts.specs.Merging.{AreSums, ceiling, rounded_terms}
use Rattle.round_cuts.specs.Rounding.{IsCeiling, IsRounded}

-- ---- ceilings
pub ceiling_is : (q : ℕ) (a : ℤ) → 1 ≤ q → IsCeiling q a (ceiling (pos q) a)
ceiling_is q a some =
    let low = int_div_euclid (neg_ℤ a) (pos q) in
    let floor = floor_is (neg_ℤ a) (pos q) (omega (arith, linear, some)) in
    let turned : pos q *ℤ neg_ℤ low ≡ neg_ℤ (low *ℤ pos q) = mul_neg (pos q) low ∙ ap neg_ℤ (mul_comm (pos q) low) in
    record {
      above = omega (arith, linear, floor.0, turned);
      least = omega (arith, linear, floor.1, turned, add_mul low (pos 1) (pos q), one_mul (pos q));
    }

zero_is : (q : ℕ) → 1 ≤ q → IsCeiling q (pos 0) (pos 0)
zero_is q some = record { above = omega (arith, linear, mul_zero (pos q)); least = omega (arith, linear, some, mul_zero (pos q)) }

-- a number over q has one ceiling
pub ceilings_are_one : (q : ℕ) (a y z : ℤ) → 1 ≤ q → IsCeiling q a y → IsCeiling q a z → y ≡ z
ceilings_are_one q a y z some one other =
    let q_some : pos 0 <ℤ pos q = omega (arith, linear, some) in
    let up : y <ℤ (z +ℤ pos 1) = cancel_lt (pos q) y (z +ℤ pos 1) q_some (omega (arith, linear, one.least, other.above, mul_add (pos q) z (pos 1), mul_one (pos q))) in
    let down : z <ℤ (y +ℤ pos 1) = cancel_lt (pos q) z (y +ℤ pos 1) q_some (omega (arith, linear, other.least, one.above, mul_add (pos q) y (pos 1), mul_one (pos q))) in
    omega (arith, linear, up, down)

-- ---- rounded terms
pub rounded_append : (q : ℤ) (xs ys : List Term) → rounded_terms q (xs ++ ys) ≡ rounded_terms q xs ++ rounded_terms q ys
rounded_append q xs ys =
    let f : Term → Term = λ a. term a.column (ceiling q a.times) in
    ap some_terms (map-append f xs ys) ∙ filter-append (λ a. is_some_term a.times) (map f xs) (map f ys)

rise_map : (q : ℤ) (ts : List Term) (low high : ℕ) → RiseTo low ts high → RiseTo low (map (λ a. term a.column (ceiling q a.times)) ts) high
rise_map q [] low high rising = rising
rise_map q (a ∷ ts) low high rising = (rising.0, rise_map q ts (order_of a.column + 1) high rising.1)

-- terms of nothing add nothing
none_added : (z : ℤ) (b : Bool) → is_some_term z ≡ false → (if b then z else pos 0) ≡ pos 0
none_added (pos zero) true none = refl
none_added (pos zero) false none = refl
none_added (pos (suc n)) b none = cc none
none_added (negsuc n) b none = cc none

sum_some : (ts : List Term) (c : Column) → coefficient (some_terms ts) c ≡ coefficient ts c
sum_some [] c = refl
sum_some (a ∷ ts) c =
    ⊎_elim
    (λ some. rw some (ap (λ z. (if same_column a.column c then a.times else pos 0) +ℤ z) (sum_some ts c)))
    (λ none. rw none (sum_some ts c ∙ sym (zero_add (coefficient ts c)) ∙ ap (λ z. z +ℤ coefficient ts c) (sym (none_added a.times (same_column a.column c) none))))
    (cases_Bool (is_some_term a.times))

sum_later : (ts : List Term) (low high : ℕ) (c : Column) → RiseTo low ts high → order_of c < low → coefficient ts c ≡ pos 0
sum_later [] low high c rising less = refl
sum_later (a ∷ ts) low high c rising less =
    ⊎_elim
    (λ same. absurd (omega (arith, rising.0, less, ap order_of (one_by_parts a.column c same))))
    (λ other. ap (λ b. (if b then a.times else pos 0) +ℤ coefficient ts c) other ∙ zero_add (coefficient ts c) ∙ sum_later ts (order_of a.column + 1) high c rising.1 (omega (arith, rising.0, less)))
    (cases_Bool (same_column a.column c))

first_is : (a : Term) (ts : List Term) (high : ℕ) (c : Column) → RiseTo (order_of a.column + 1) ts high → same_column a.column c ≡ true → coefficient (a ∷ ts) c ≡ a.times
first_is a ts high c rising same =
    ap (λ b. (if b then a.times else pos 0) +ℤ coefficient ts c) same
    ∙ ap (λ z. a.times +ℤ z) (sum_later ts (order_of a.column + 1) high c rising (omega (arith, ap order_of (one_by_parts a.column c same))))
    ∙ add_zero a.times

others_are : (a : Term) (ts : List Term) (c : Column) → same_column a.column c ≡ false → coefficient (a ∷ ts) c ≡ coefficient ts c
others_are a ts c other = ap (λ b. (if b then a.times else pos 0) +ℤ coefficient ts c) other ∙ zero_add (coefficient ts c)

-- each column's sum is rounded up
sum_map : (q : ℕ) (ts : List Term) (low high : ℕ) (c : Column) → 1 ≤ q → RiseTo low ts high → IsCeiling q (coefficient ts c) (coefficient (map (λ a. term a.column (ceiling (pos q) a.times)) ts) c)
sum_map q [] low high c some rising = zero_is q some
sum_map q (a ∷ ts) low high c some rising =
    let f : Term → Term = λ b. term b.column (ceiling (pos q) b.times) in
    ⊎_elim
    (λ same.
    subst (λ z. IsCeiling q z (coefficient (map f (a ∷ ts)) c)) (sym (first_is a ts high c rising.1 same))
    (subst (IsCeiling q a.times) (sym (first_is (f a) (map f ts) high c (rise_map (pos q) ts (order_of a.column + 1) high rising.1) same)) (ceiling_is q a.times some)))
    (λ other.
    subst (λ z. IsCeiling q z (coefficient (map f (a ∷ ts)) c)) (sym (others_are a ts c other))
    (subst (IsCeiling q (coefficient ts c)) (sym (others_are (f a) (map f ts) c other)) (sum_map q ts (order_of a.column + 1) high c some rising.1)))
    (cases_Bool (same_column a.column c))

-- ---- the row
pub is_rounded : (rows : List LinRow) (times : List ℤ) (q : ℕ) (merged : List Term) (right : ℤ) (row : LinRow) → 1 ≤ q → AreSums rows times merged → right ≡ right_sum rows times → row.terms ≡ rounded_terms (pos q) merged → row.right ≡ ceiling (pos q) right → row.equal ≡ false → IsRounded rows times q row
is_rounded rows times q merged right row some sums is_right terms rounded equal =
    let f : Term → Term = λ b. term b.column (ceiling (pos q) b.times) in
    record {
      terms = subst (λ ts. AreTerms 0 ts) (sym terms) (are_terms (map f merged) 0 sums.high (rise_map (pos q) merged 0 sums.high sums.rising));
      columns = λ c. subst (λ z. IsCeiling q z (coefficient row.terms c)) (sums.sums c) (subst (IsCeiling q (coefficient merged c)) (sym (ap (λ ts. coefficient ts c) terms ∙ sum_some (map f merged) c)) (sum_map q merged 0 sums.high c some sums.rising));
      right = subst (λ z. IsCeiling q z row.right) is_right (subst (IsCeiling q right) (sym rounded) (ceiling_is q right some));
      equal = equal;
    }

-- a whole number that is at least b over q is at least its ceiling
ceiling_least : (q : ℕ) (b z left : ℤ) → 1 ≤ q → IsCeiling q b z → b ≤ℤ (pos q *ℤ left) → z ≤ℤ left
ceiling_least q b z left some is h =
    let next : (pos q *ℤ z) <ℤ (pos q *ℤ (left +ℤ pos 1)) = omega (arith, linear, is.least, h, mul_add (pos q) left (pos 1), mul_one (pos q)) in
    let less = cancel_lt (pos q) z (left +ℤ pos 1) (omega (arith, linear, some)) next in
    omega (arith, linear, less)

pub rounded_holds : SumsHold → (rows : List LinRow) (times : List ℤ) (q : ℕ) (row : LinRow) → 1 ≤ q → AreSigned rows times → IsRounded rows times q row → (p : LinPoint) → p.den ≡ 1 → AllHold p rows → HoldsAt p row
rounded_holds sums_hold rows times q row some signed is p one hold =
    let most = sums_hold rows times q row.terms signed (λ c. (is.columns c).above) p hold in
    let whole = ap (λ n. right_sum rows times *ℤ pos n) one ∙ mul_one (right_sum rows times) in
    let enough : right_sum rows times ≤ℤ (pos q *ℤ sum_at p.values row.terms) = subst (λ z. z ≤ℤ (pos q *ℤ sum_at p.values row.terms)) whole most in
    let least = ceiling_least q (right_sum rows times) row.right (sum_at p.values row.terms) some is.right enough in
    let right : row.right *ℤ pos p.den ≡ row.right = ap (λ n. row.right *ℤ pos n) one ∙ mul_one row.right in
    subst (λ b. IsHeld b (sum_at p.values row.terms) (row.right *ℤ pos p.den)) (sym is.equal) (subst (λ z. z ≤ℤ sum_at p.values row.terms) (sym right) least)

pub are_rounded_terms : (rows : List LinRow) (times : List ℤ) (q : ℕ) (merged lent terms : List Term) → AreSums rows times merged → lent ≡ merged → terms ≡ rounded_terms (pos q) lent → AreTerms 0 terms
are_rounded_terms rows times q merged lent terms sums same is =
    let f : Term → Term = λ b. term b.column (ceiling (pos q) b.times) in
    subst (AreTerms 0) (sym (is ∙ ap (rounded_terms (pos q)) same)) (are_terms (map f merged) 0 sums.high (rise_map (pos q) merged 0 sums.high sums.rising))
