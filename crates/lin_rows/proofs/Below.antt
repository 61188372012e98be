-- Terms that take no column more often than others add to no more.
use Rattle.std.proofs.Common.{◌≡◌, ◌≤◌, ◌+◌, ◌∙◌, ⊎_elim, ℕ, zero, suc, refl, sym, ap, subst, arith, Bool, true, false, List, [], ◌∷◌, ◌++◌, length}
use Rattle.std.specs.Prelude.{if◌then◌else◌, ℤ, pos, ◌+ℤ◌, ◌*ℤ◌, ◌≤ℤ◌}
use Rattle.std.proofs.lemmas.Bool.{cases_Bool}
use Rattle.algebra.proofs.Integers.{add_assoc, add_mul, mul_add, mul_assoc, mul_comm, mul_zero, zero_add, zero_mul}
use Rattle.algebra.proofs.Order.{linear, mul_le}
use Rattle.lin_rows.specs.declared.column.Column.{Column}
use Rattle.lin_rows.specs.declared.column.Column.TheVariants.{X, Y, S, R}
use Rattle.lin_rows.specs.declared.row.Term.{Term}
use Rattle.lin_rows.specs.Combining.{column_sum, sum_of}
use Rattle.lin_rows.specs.Rows.{LinRow, Values, sum_at}
use Rattle.lin_rows.specs.Sums.{coefficient, same_column}
use Rattle.lin_rows.proofs.Cells.{same_parts, same_self}
use Rattle.lin_rows.proofs.Terms.{sum_append}

-- the terms of other columns
without : Column → List Term → List Term
without c [] = []
without c (a ∷ ts) = if same_column a.column c then without c ts else a ∷ without c ts

-- columns of the same kind, item and period are one
pub one_by_parts : (c d : Column) → same_column c d ≡ true → c ≡ d
one_by_parts (X i t) (X j s) is = let (k, e, f) = same_parts (X i t) (X j s) is in rw (e, f) refl
one_by_parts (Y i t) (Y j s) is = let (k, e, f) = same_parts (Y i t) (Y j s) is in rw (e, f) refl
one_by_parts (S i t) (S j s) is = let (k, e, f) = same_parts (S i t) (S j s) is in rw (e, f) refl
one_by_parts (R i t) (R j s) is = let (k, e, f) = same_parts (R i t) (R j s) is in rw (e, f) refl
one_by_parts (X i t) (Y j s) is = let (k, e, f) = same_parts (X i t) (Y j s) is in absurd (omega (arith, k))
one_by_parts (X i t) (S j s) is = let (k, e, f) = same_parts (X i t) (S j s) is in absurd (omega (arith, k))
one_by_parts (X i t) (R j s) is = let (k, e, f) = same_parts (X i t) (R j s) is in absurd (omega (arith, k))
one_by_parts (Y i t) (X j s) is = let (k, e, f) = same_parts (Y i t) (X j s) is in absurd (omega (arith, k))
one_by_parts (Y i t) (S j s) is = let (k, e, f) = same_parts (Y i t) (S j s) is in absurd (omega (arith, k))
one_by_parts (Y i t) (R j s) is = let (k, e, f) = same_parts (Y i t) (R j s) is in absurd (omega (arith, k))
one_by_parts (S i t) (X j s) is = let (k, e, f) = same_parts (S i t) (X j s) is in absurd (omega (arith, k))
one_by_parts (S i t) (Y j s) is = let (k, e, f) = same_parts (S i t) (Y j s) is in absurd (omega (arith, k))
one_by_parts (S i t) (R j s) is = let (k, e, f) = same_parts (S i t) (R j s) is in absurd (omega (arith, k))
one_by_parts (R i t) (X j s) is = let (k, e, f) = same_parts (R i t) (X j s) is in absurd (omega (arith, k))
one_by_parts (R i t) (Y j s) is = let (k, e, f) = same_parts (R i t) (Y j s) is in absurd (omega (arith, k))
one_by_parts (R i t) (S j s) is = let (k, e, f) = same_parts (R i t) (S j s) is in absurd (omega (arith, k))

-- what a term adds to the coefficient of a column
adds : Term → Column → ℤ
adds a c = if same_column a.column c then a.times else pos 0

adds_own : (a : Term) (c : Column) → same_column a.column c ≡ true → adds a c ≡ a.times
unfolding adds
adds_own a c is = ap (λ b. if b then a.times else pos 0) is

adds_none : (a : Term) (c : Column) → same_column a.column c ≡ false → adds a c ≡ pos 0
unfolding adds
adds_none a c is = ap (λ b. if b then a.times else pos 0) is

coefficient_more : (a : Term) (ts : List Term) (c : Column) → coefficient (a ∷ ts) c ≡ adds a c +ℤ coefficient ts c
unfolding adds
coefficient_more a ts c = refl

without_own : (a : Term) (ts : List Term) (c : Column) → same_column a.column c ≡ true → without c (a ∷ ts) ≡ without c ts
unfolding without
without_own a ts c is = ap (λ b. if b then without c ts else a ∷ without c ts) is

without_other : (a : Term) (ts : List Term) (c : Column) → same_column a.column c ≡ false → without c (a ∷ ts) ≡ a ∷ without c ts
unfolding without
without_other a ts c is = ap (λ b. if b then without c ts else a ∷ without c ts) is

-- the terms of a column add to its coefficient times its value
split_sum : (x k s y : ℤ) → x *ℤ y +ℤ (k *ℤ y +ℤ s) ≡ (x +ℤ k) *ℤ y +ℤ s
split_sum x k s y = omega (arith, linear, add_mul x k y)

skip_sum : (x k s y : ℤ) → x +ℤ (k *ℤ y +ℤ s) ≡ (pos 0 +ℤ k) *ℤ y +ℤ (x +ℤ s)
skip_sum x k s y = omega (arith, linear, ap (λ z. z *ℤ y) (zero_add k))

split_at : (v : Values) (c : Column) (ts : List Term) → sum_at v ts ≡ coefficient ts c *ℤ pos (v c) +ℤ sum_at v (without c ts)
unfolding without
split_at v c [] = omega (arith, linear, zero_mul (pos (v c)))
split_at v c (a ∷ ts) =
    let before = split_at v c ts in
    ⊎_elim
    (λ yes.
    ap (λ z. a.times *ℤ pos (v a.column) +ℤ z) before
    ∙ ap (λ d. a.times *ℤ pos (v d) +ℤ (coefficient ts c *ℤ pos (v c) +ℤ sum_at v (without c ts))) (one_by_parts a.column c yes)
    ∙ split_sum a.times (coefficient ts c) (sum_at v (without c ts)) (pos (v c))
    ∙ ap (λ z. (z +ℤ coefficient ts c) *ℤ pos (v c) +ℤ sum_at v (without c ts)) (sym (adds_own a c yes))
    ∙ ap (λ z. z *ℤ pos (v c) +ℤ sum_at v (without c ts)) (sym (coefficient_more a ts c))
    ∙ ap (λ us. coefficient (a ∷ ts) c *ℤ pos (v c) +ℤ sum_at v us) (sym (without_own a ts c yes)))
    (λ no.
    ap (λ z. a.times *ℤ pos (v a.column) +ℤ z) before
    ∙ skip_sum (a.times *ℤ pos (v a.column)) (coefficient ts c) (sum_at v (without c ts)) (pos (v c))
    ∙ ap (λ z. (z +ℤ coefficient ts c) *ℤ pos (v c) +ℤ (a.times *ℤ pos (v a.column) +ℤ sum_at v (without c ts))) (sym (adds_none a c no))
    ∙ ap (λ z. z *ℤ pos (v c) +ℤ (a.times *ℤ pos (v a.column) +ℤ sum_at v (without c ts))) (sym (coefficient_more a ts c))
    ∙ ap (λ us. coefficient (a ∷ ts) c *ℤ pos (v c) +ℤ sum_at v us) (sym (without_other a ts c no)))
    (cases_Bool (same_column a.column c))

-- coefficients of what is left
gone : (ts : List Term) (c : Column) → coefficient (without c ts) c ≡ pos 0
unfolding without
gone [] c = refl
gone (a ∷ ts) c =
    ⊎_elim
    (λ yes. ap (λ us. coefficient us c) (without_own a ts c yes) ∙ gone ts c)
    (λ no. ap (λ us. coefficient us c) (without_other a ts c no) ∙ coefficient_more a (without c ts) c ∙ ap (λ z. z +ℤ coefficient (without c ts) c) (adds_none a c no) ∙ zero_add (coefficient (without c ts) c) ∙ gone ts c)
    (cases_Bool (same_column a.column c))

same_with : (a c d : Column) → same_column a c ≡ true → same_column c d ≡ false → same_column a d ≡ false
same_with a c d same apart = ap (λ x. same_column x d) (one_by_parts a c same) ∙ apart

stays : (ts : List Term) (c d : Column) → same_column c d ≡ false → coefficient (without c ts) d ≡ coefficient ts d
unfolding without
stays [] c d apart = refl
stays (a ∷ ts) c d apart =
    ⊎_elim
    (λ yes. ap (λ us. coefficient us d) (without_own a ts c yes) ∙ stays ts c d apart ∙ sym (zero_add (coefficient ts d)) ∙ ap (λ z. z +ℤ coefficient ts d) (sym (adds_none a d (same_with a.column c d yes apart))) ∙ sym (coefficient_more a ts d))
    (λ no. ap (λ us. coefficient us d) (without_other a ts c no) ∙ coefficient_more a (without c ts) d ∙ ap (λ z. adds a d +ℤ z) (stays ts c d apart) ∙ sym (coefficient_more a ts d))
    (cases_Bool (same_column a.column c))

fewer : (ts : List Term) (c : Column) → length (without c ts) ≤ length ts
unfolding without
fewer [] c = omega arith
fewer (a ∷ ts) c =
    ⊎_elim
    (λ yes. omega (arith, ap length (without_own a ts c yes), fewer ts c))
    (λ no. omega (arith, ap length (without_other a ts c no), fewer ts c))
    (cases_Bool (same_column a.column c))

-- no coefficient is greater
abbrev pub AreBelow : List Term → List Term → Type 0
AreBelow xs ys = (c : Column) → coefficient xs c ≤ℤ coefficient ys c

below_without : (xs ys : List Term) (c : Column) → AreBelow xs ys → AreBelow (without c xs) (without c ys)
below_without xs ys c below d =
    ⊎_elim
    (λ yes. let e = one_by_parts c d yes in subst (λ k. coefficient (without c xs) k ≤ℤ coefficient (without c ys) k) e (omega (arith, linear, gone xs c, gone ys c)))
    (λ no. omega (arith, linear, stays xs c d no, stays ys c d no, below d))
    (cases_Bool (same_column c d))

-- one column is taken out of both
take_out : (v : Values) (xs ys : List Term) (c : Column) → AreBelow xs ys → sum_at v (without c xs) ≤ℤ sum_at v (without c ys) → sum_at v xs ≤ℤ sum_at v ys
take_out v xs ys c below rest =
    let here = mul_le (pos (v c)) (coefficient xs c) (coefficient ys c) (omega (arith, linear)) (below c) in
    omega (arith, linear, split_at v c xs, split_at v c ys, rest, here, mul_comm (coefficient xs c) (pos (v c)), mul_comm (coefficient ys c) (pos (v c)))

sums_below : (v : Values) (n : ℕ) (xs ys : List Term) → length xs + length ys ≤ n → AreBelow xs ys → sum_at v xs ≤ℤ sum_at v ys
sums_below v n [] [] few below = omega (arith, linear)
sums_below v zero (a ∷ xs) ys few below = absurd (omega (arith, few))
sums_below v zero [] (b ∷ ys) few below = absurd (omega (arith, few))
sums_below v (suc n) (a ∷ xs) ys few below =
    let c = a.column in
    let own : length (without c (a ∷ xs)) ≤ length xs = omega (arith, ap length (without_own a xs c (same_self c)), fewer xs c) in
    take_out v (a ∷ xs) ys c below (sums_below v n (without c (a ∷ xs)) (without c ys) (omega (arith, few, own, fewer ys c)) (below_without (a ∷ xs) ys c below))
sums_below v (suc n) [] (b ∷ ys) few below =
    let c = b.column in
    let own : length (without c (b ∷ ys)) ≤ length ys = omega (arith, ap length (without_own b ys c (same_self c)), fewer ys c) in
    take_out v [] (b ∷ ys) c below (sums_below v n (without c []) (without c (b ∷ ys)) (omega (arith, few, own, fewer [] c)) (below_without [] (b ∷ ys) c below))

-- terms with no smaller coefficients add to no less, at values of at least 0
pub sum_below : (v : Values) (xs ys : List Term) → AreBelow xs ys → sum_at v xs ≤ℤ sum_at v ys
sum_below v xs ys below = sums_below v (length xs + length ys) xs ys (omega arith) below

-- each term taken so many times more
pub times_terms : ℤ → List Term → List Term
times_terms z [] = []
times_terms z (a ∷ ts) = record { column = a.column; times = z *ℤ a.times } ∷ times_terms z ts

pub times_sum : (v : Values) (z : ℤ) (ts : List Term) → sum_at v (times_terms z ts) ≡ z *ℤ sum_at v ts
unfolding times_terms
times_sum v z [] = sym (mul_zero z)
times_sum v z (a ∷ ts) = omega (arith, linear, times_sum v z ts, mul_assoc z a.times (pos (v a.column)), mul_add z (a.times *ℤ pos (v a.column)) (sum_at v ts))

times_adds : (z t : ℤ) (b : Bool) → (if b then z *ℤ t else pos 0) ≡ z *ℤ (if b then t else pos 0)
times_adds z t true = refl
times_adds z t false = sym (mul_zero z)

pub times_coefficient : (z : ℤ) (ts : List Term) (c : Column) → coefficient (times_terms z ts) c ≡ z *ℤ coefficient ts c
unfolding times_terms
times_coefficient z [] c = sym (mul_zero z)
times_coefficient z (a ∷ ts) c =
    ap (λ y. y +ℤ coefficient (times_terms z ts) c) (times_adds z a.times (same_column a.column c))
    ∙ ap (λ y. z *ℤ (if same_column a.column c then a.times else pos 0) +ℤ y) (times_coefficient z ts c)
    ∙ sym (mul_add z (if same_column a.column c then a.times else pos 0) (coefficient ts c))

pub coefficient_append : (xs ys : List Term) (c : Column) → coefficient (xs ++ ys) c ≡ coefficient xs c +ℤ coefficient ys c
coefficient_append [] ys c = sym (zero_add (coefficient ys c))
coefficient_append (a ∷ xs) ys c = ap (λ z. (if same_column a.column c then a.times else pos 0) +ℤ z) (coefficient_append xs ys c) ∙ sym (add_assoc (if same_column a.column c then a.times else pos 0) (coefficient xs c) (coefficient ys c))

-- all terms of a sum of rows
pub sum_terms : List LinRow → List ℤ → List Term
sum_terms [] times = []
sum_terms (r ∷ rows) [] = []
sum_terms (r ∷ rows) (z ∷ times) = times_terms z r.terms ++ sum_terms rows times

pub sum_terms_add : (v : Values) (rows : List LinRow) (times : List ℤ) → sum_at v (sum_terms rows times) ≡ sum_of rows times (λ r. sum_at v r.terms)
unfolding sum_terms
sum_terms_add v [] times = refl
sum_terms_add v (r ∷ rows) [] = refl
sum_terms_add v (r ∷ rows) (z ∷ times) = sum_append v (times_terms z r.terms) (sum_terms rows times) ∙ ap (λ y. y +ℤ sum_at v (sum_terms rows times)) (times_sum v z r.terms) ∙ ap (λ y. z *ℤ sum_at v r.terms +ℤ y) (sum_terms_add v rows times)

pub sum_terms_take : (rows : List LinRow) (times : List ℤ) (c : Column) → coefficient (sum_terms rows times) c ≡ column_sum rows times c
unfolding sum_terms
sum_terms_take [] times c = refl
sum_terms_take (r ∷ rows) [] c = refl
sum_terms_take (r ∷ rows) (z ∷ times) c = coefficient_append (times_terms z r.terms) (sum_terms rows times) c ∙ ap (λ y. y +ℤ coefficient (sum_terms rows times) c) (times_coefficient z r.terms c) ∙ ap (λ y. z *ℤ coefficient r.terms c +ℤ y) (sum_terms_take rows times c)
