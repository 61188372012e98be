-- Rows and multipliers, one after the other.
use Rattle.std.proofs.Common.{◌≡◌, ◌≤◌, ◌<◌, ◌+◌, ◌^◌, ◌∙◌, ⊎_elim, ℕ, zero, suc, refl, sym, ap, subst, arith, Bool, true, false, List, [], ◌∷◌, ◌++◌, append_assoc, length, take, slice_index_or}
use Rattle.std.specs.Prelude.{if◌then◌else◌, ℤ, pos, ◌+ℤ◌, ◌*ℤ◌, ◌≤ℤ◌, unsigned_abs}
use Rattle.std.specs.List.{All}
use Rattle.std.proofs.lemmas.Bool.{cases_Bool}
use Rattle.std.proofs.lemmas.List.{take_more}
use Rattle.std.proofs.lemmas.List.Elements.{All-append}
use Rattle.algebra.proofs.Integers.{add_assoc, add_zero, mul_add, mul_zero, zero_add}
use Rattle.algebra.proofs.Order.{linear}
use Rattle.lin_rows.specs.declared.column.Column.{Column}
use Rattle.lin_rows.specs.declared.row.Term.{Term}
use Rattle.lin_rows.specs.Base.{term}
use Rattle.lin_rows.specs.Columns.{order_of}
use Rattle.lin_rows.specs.Combining.{AreSigned, column_sum, sum_of}
use Rattle.lin_rows.specs.Rows.{AreTerms, LinRow}
use Rattle.lin_rows.specs.declared.total.Total.{Total}
use Rattle.lin_rows.specs.Sums.{FitsAdded, coefficient, same_column}
use Rattle.lin_rows.proofs.Below.{coefficient_append, one_by_parts}
use Rattle.lin_rows.proofs.Coefficients.{own_coefficient}
use Rattle.lin_rows.proofs.Terms.{all_one}
use Rattle.round_cuts.specs.Merging.{AreProducts, IsSmallTerm, amount_in, products, weight_in}
use Rattle.round_cuts.specs.Rounding.{amount_of, column_amount, right_amount}

-- ---- one more row
pub signed_more : (rows : List LinRow) (times : List ℤ) (r : LinRow) (z : ℤ) → length rows ≡ length times → AreSigned rows times → (r.equal ≡ false → pos 0 ≤ℤ z) → AreSigned (rows ++ r ∷ []) (times ++ z ∷ [])
signed_more [] [] r z same signed here = (here, tt)
signed_more [] (y ∷ times) r z same signed here = absurd (omega (arith, same))
signed_more (s ∷ rows) [] r z same signed here = absurd (omega (arith, same))
signed_more (s ∷ rows) (y ∷ times) r z same signed here = (signed.0, signed_more rows times r z (omega (arith, same)) signed.1 here)

pub sum_more : (f : LinRow → ℤ) (rows : List LinRow) (times : List ℤ) (r : LinRow) (z : ℤ) → length rows ≡ length times → sum_of (rows ++ r ∷ []) (times ++ z ∷ []) f ≡ sum_of rows times f +ℤ z *ℤ f r
sum_more f [] [] r z same = add_zero (z *ℤ f r) ∙ sym (zero_add (z *ℤ f r))
sum_more f [] (y ∷ times) r z same = absurd (omega (arith, same))
sum_more f (s ∷ rows) [] r z same = absurd (omega (arith, same))
sum_more f (s ∷ rows) (y ∷ times) r z same = ap (λ x. y *ℤ f s +ℤ x) (sum_more f rows times r z (omega (arith, same))) ∙ sym (add_assoc (y *ℤ f s) (sum_of rows times f) (z *ℤ f r))

pub amount_more : (f : LinRow → ℤ) (rows : List LinRow) (times : List ℤ) (r : LinRow) (z : ℤ) → length rows ≡ length times → amount_of (rows ++ r ∷ []) (times ++ z ∷ []) f ≡ amount_of rows times f + unsigned_abs (z *ℤ f r)
amount_more f [] [] r z same = omega arith
amount_more f [] (y ∷ times) r z same = absurd (omega (arith, same))
amount_more f (s ∷ rows) [] r z same = absurd (omega (arith, same))
amount_more f (s ∷ rows) (y ∷ times) r z same = omega (arith, amount_more f rows times r z (omega (arith, same)))

-- the first ones have no greater amounts
pub amount_front : (f : LinRow → ℤ) (rows : List LinRow) (times : List ℤ) (k : ℕ) → amount_of (take k rows) (take k times) f ≤ amount_of rows times f
amount_front f rows times zero = omega arith
amount_front f [] times (suc k) = omega arith
amount_front f (r ∷ rows) [] (suc k) = omega arith
amount_front f (r ∷ rows) (z ∷ times) (suc k) = omega (arith, amount_front f rows times k)

-- the sign of one of them
pub signed_at : (rows : List LinRow) (times : List ℤ) (k : ℕ) (r d : LinRow) (z e : ℤ) → AreSigned rows times → k < length rows → k < length times → r ≡ slice_index_or rows k d → z ≡ slice_index_or times k e → r.equal ≡ false → pos 0 ≤ℤ z
signed_at [] times k r d z e signed less other is at free = absurd (omega (arith, less))
signed_at (s ∷ rows) [] k r d z e signed less other is at free = absurd (omega (arith, other))
signed_at (s ∷ rows) (y ∷ times) zero r d z e signed less other is at free = subst (λ x. pos 0 ≤ℤ x) (sym at) (signed.0 (ap (λ x. x.equal) (sym is) ∙ free))
signed_at (s ∷ rows) (y ∷ times) (suc k) r d z e signed less other is at free = signed_at rows times k r d z e signed.1 (omega (arith, less)) (omega (arith, other)) is at free

-- ---- what the terms of a column weigh
pub weight_append : (w : ℤ → ℕ) (xs ys : List Term) (c : Column) → weight_in w (xs ++ ys) c ≡ weight_in w xs c + weight_in w ys c
weight_append w [] ys c = omega arith
weight_append w (a ∷ xs) ys c = omega (arith, weight_append w xs ys c)

-- ---- the multiples of a row's terms
times_if : (z t : ℤ) (b : Bool) → (if b then z *ℤ t else pos 0) ≡ z *ℤ (if b then t else pos 0)
times_if z t true = refl
times_if z t false = sym (mul_zero z)

pub products_sum : (z : ℤ) (ts : List Term) (c : Column) → coefficient (products z ts) c ≡ z *ℤ coefficient ts c
products_sum z [] c = sym (mul_zero z)
products_sum z (a ∷ ts) c =
    ap (λ y. y +ℤ coefficient (products z ts) c) (times_if z a.times (same_column a.column c))
    ∙ ap (λ y. z *ℤ (if same_column a.column c then a.times else pos 0) +ℤ y) (products_sum z ts c)
    ∙ sym (mul_add z (if same_column a.column c then a.times else pos 0) (coefficient ts c))

-- the columns of terms that rise are different
sum_later : (ts : List Term) (low : ℕ) (c : Column) → AreTerms low ts → order_of c < low → coefficient ts c ≡ pos 0
sum_later [] low c h less = refl
sum_later (a ∷ ts) low c h less =
    ap (λ b. (if b then a.times else pos 0) +ℤ coefficient ts c) (apart a c (omega (arith, h.0, less)))
    ∙ zero_add (coefficient ts c) ∙ sum_later ts (order_of a.column + 1) c h.2 (omega (arith, h.0, less))
  where
    apart : (a : Term) (c : Column) → order_of c < order_of a.column → same_column a.column c ≡ false
    apart a c less = ⊎_elim (λ same. absurd (omega (arith, less, ap order_of (one_by_parts a.column c same)))) (λ other. other) (cases_Bool (same_column a.column c))

amount_later : (z : ℤ) (ts : List Term) (low : ℕ) (c : Column) → AreTerms low ts → order_of c < low → amount_in (products z ts) c ≡ 0
amount_later z [] low c h less = refl
amount_later z (a ∷ ts) low c h less =
    ⊎_elim
    (λ same. absurd (omega (arith, h.0, less, ap order_of (one_by_parts a.column c same))))
    (λ other. omega (arith, ap (λ b. if b then unsigned_abs (z *ℤ a.times) else 0) other, amount_later z ts (order_of a.column + 1) c h.2 (omega (arith, h.0, less))))
    (cases_Bool (same_column a.column c))

none_first : (n : ℕ) → 0 + n ≡ n
none_first n = omega arith

no_more : (n : ℕ) → n + 0 ≡ n
no_more n = omega arith

pub products_amount : (z : ℤ) (ts : List Term) (low : ℕ) (c : Column) → AreTerms low ts → amount_in (products z ts) c ≡ unsigned_abs (z *ℤ coefficient ts c)
products_amount z [] low c h = ap unsigned_abs (sym (mul_zero z))
products_amount z (a ∷ ts) low c h =
    ⊎_elim
    (λ same.
    let after : order_of c < order_of a.column + 1 = omega (arith, ap order_of (one_by_parts a.column c same)) in
    ap (λ b. (if b then unsigned_abs (z *ℤ a.times) else 0) + amount_in (products z ts) c) same
    ∙ ap (λ n. unsigned_abs (z *ℤ a.times) + n) (amount_later z ts (order_of a.column + 1) c h.2 after) ∙ no_more (unsigned_abs (z *ℤ a.times))
    ∙ ap (λ y. unsigned_abs (z *ℤ y)) (sym (ap (λ b. (if b then a.times else pos 0) +ℤ coefficient ts c) same ∙ ap (λ y. a.times +ℤ y) (sum_later ts (order_of a.column + 1) c h.2 after) ∙ add_zero a.times)))
    (λ other.
    ap (λ b. (if b then unsigned_abs (z *ℤ a.times) else 0) + amount_in (products z ts) c) other
    ∙ none_first (amount_in (products z ts) c) ∙ products_amount z ts (order_of a.column + 1) c h.2
    ∙ ap (λ y. unsigned_abs (z *ℤ y)) (sym (ap (λ b. (if b then a.times else pos 0) +ℤ coefficient ts c) other ∙ zero_add (coefficient ts c))))
    (cases_Bool (same_column a.column c))

pub products_append : (z : ℤ) (xs ys : List Term) → products z (xs ++ ys) ≡ products z xs ++ products z ys
products_append z [] ys = refl
products_append z (a ∷ xs) ys = ap (λ ts. term a.column (z *ℤ a.times) ∷ ts) (products_append z xs ys)

-- the multiples of one more row's terms
pub products_more : (rows : List LinRow) (times : List ℤ) (r : LinRow) (z : ℤ) (ts : List Term) → length rows ≡ length times → AreTerms 0 r.terms → AreProducts rows times ts → All IsSmallTerm (ts ++ products z r.terms) → AreProducts (rows ++ r ∷ []) (times ++ z ∷ []) (ts ++ products z r.terms)
products_more rows times r z ts same rising so_far small =
    record {
      sums = λ c. coefficient_append ts (products z r.terms) c ∙ ap (λ y. y +ℤ coefficient (products z r.terms) c) (so_far.sums c) ∙ ap (λ y. column_sum rows times c +ℤ y) (products_sum z r.terms c) ∙ sym (sum_more (λ s. coefficient s.terms c) rows times r z same);
      amounts = λ c. weight_append unsigned_abs ts (products z r.terms) c ∙ ap (λ n. n + amount_in (products z r.terms) c) (so_far.amounts c) ∙ ap (λ n. column_amount rows times c + n) (products_amount z r.terms 0 c rising) ∙ sym (amount_more (λ s. coefficient s.terms c) rows times r z same);
      small = small;
    }

-- ---- as far as a loop has come
same_takes : (rows : List LinRow) (times : List ℤ) (k : ℕ) → length rows ≡ length times → length (take k rows) ≡ length (take k times)
same_takes rows times zero same = refl
same_takes [] [] (suc k) same = refl
same_takes [] (z ∷ times) (suc k) same = absurd (omega (arith, same))
same_takes (r ∷ rows) [] (suc k) same = absurd (omega (arith, same))
same_takes (r ∷ rows) (z ∷ times) (suc k) same = omega (arith, same_takes rows times k (omega (arith, same)))

next_row : (rows : List LinRow) (k : ℕ) (r : LinRow) → k < length rows → r ≡ slice_index_or rows k r → take k rows ++ r ∷ [] ≡ take (k + 1) rows
next_row rows k r less is = sym (take_more rows k r less ∙ ap (λ s. take k rows ++ s ∷ []) (sym is))

next_times : (times : List ℤ) (k : ℕ) (z d : ℤ) → k < length times → z ≡ slice_index_or times k d → take k times ++ z ∷ [] ≡ take (k + 1) times
next_times times k z d less is = sym (take_more times k d less ∙ ap (λ s. take k times ++ s ∷ []) (sym is))

-- a row and its multiplier at a place
pub record IsPair (rows : List LinRow) (times : List ℤ) (k : ℕ) (r : LinRow) (z : ℤ) : Type 0 where
  pub same : length rows ≡ length times
  pub less : k < length rows
  pub row : r ≡ slice_index_or rows k r
  pub default : ℤ
  pub taken : z ≡ slice_index_or times k default

pub pair_next : (P : List LinRow → List ℤ → Type 0) (rows : List LinRow) (times : List ℤ) (k : ℕ) (r : LinRow) (z : ℤ) → IsPair rows times k r z → P (take k rows ++ r ∷ []) (take k times ++ z ∷ []) → P (take (k + 1) rows) (take (k + 1) times)
pair_next P rows times k r z pair here =
    subst (λ rs. P rs (take (k + 1) times)) (next_row rows k r pair.less pair.row) (subst (P (take k rows ++ r ∷ [])) (next_times times k z pair.default (omega (arith, pair.less, pair.same)) pair.taken) here)

pub signed_next : (rows : List LinRow) (times : List ℤ) (k : ℕ) (r : LinRow) (z : ℤ) → IsPair rows times k r z → AreSigned (take k rows) (take k times) → (r.equal ≡ false → pos 0 ≤ℤ z) → AreSigned (take (k + 1) rows) (take (k + 1) times)
signed_next rows times k r z pair so_far here = pair_next AreSigned rows times k r z pair (signed_more (take k rows) (take k times) r z (same_takes rows times k pair.same) so_far here)

pub signed_here : (rows : List LinRow) (times : List ℤ) (k : ℕ) (r : LinRow) (z : ℤ) → IsPair rows times k r z → AreSigned rows times → r.equal ≡ false → pos 0 ≤ℤ z
signed_here rows times k r z pair signed = signed_at rows times k r r z pair.default signed pair.less (omega (arith, pair.less, pair.same)) pair.row pair.taken

pub sum_next : (f : LinRow → ℤ) (rows : List LinRow) (times : List ℤ) (k : ℕ) (r : LinRow) (z : ℤ) → IsPair rows times k r z → sum_of (take (k + 1) rows) (take (k + 1) times) f ≡ sum_of (take k rows) (take k times) f +ℤ z *ℤ f r
sum_next f rows times k r z pair = pair_next (λ rs zs. sum_of rs zs f ≡ sum_of (take k rows) (take k times) f +ℤ z *ℤ f r) rows times k r z pair (sum_more f (take k rows) (take k times) r z (same_takes rows times k pair.same))

pub amount_next : (f : LinRow → ℤ) (rows : List LinRow) (times : List ℤ) (k : ℕ) (r : LinRow) (z : ℤ) → IsPair rows times k r z → amount_of (take (k + 1) rows) (take (k + 1) times) f ≡ amount_of (take k rows) (take k times) f + unsigned_abs (z *ℤ f r)
amount_next f rows times k r z pair = pair_next (λ rs zs. amount_of rs zs f ≡ amount_of (take k rows) (take k times) f + unsigned_abs (z *ℤ f r)) rows times k r z pair (amount_more f (take k rows) (take k times) r z (same_takes rows times k pair.same))

-- what one row adds is part of the whole amount
pub amount_part : (f : LinRow → ℤ) (rows : List LinRow) (times : List ℤ) (k : ℕ) (r : LinRow) (z : ℤ) → IsPair rows times k r z → amount_of (take k rows) (take k times) f + unsigned_abs (z *ℤ f r) ≤ amount_of rows times f
amount_part f rows times k r z pair = omega (arith, amount_next f rows times k r z pair, amount_front f rows times (k + 1))

pub products_next : (rows : List LinRow) (times : List ℤ) (k : ℕ) (r : LinRow) (z : ℤ) (ts new terms : List Term) → IsPair rows times k r z → AreTerms 0 terms → terms ≡ r.terms → AreProducts (take k rows) (take k times) ts → new ≡ ts ++ products z terms → All IsSmallTerm new → AreProducts (take (k + 1) rows) (take (k + 1) times) new
products_next rows times k r z ts new terms pair rising is so_far put small =
    let put_row : new ≡ ts ++ products z r.terms = put ∙ ap (λ us. ts ++ products z us) is in
    pair_next (λ rs zs. AreProducts rs zs new) rows times k r z pair
    (subst (AreProducts (take k rows ++ r ∷ []) (take k times ++ z ∷ [])) (sym put_row)
    (products_more (take k rows) (take k times) r z ts (same_takes rows times k pair.same) (subst (AreTerms 0) is rising) so_far (subst (All IsSmallTerm) put_row small)))

-- ---- the terms of one row
pub products_step : (z : ℤ) (ts : List Term) (k : ℕ) (a : Term) → k < length ts → a ≡ slice_index_or ts k a → products z (take (k + 1) ts) ≡ products z (take k ts) ++ term a.column (z *ℤ a.times) ∷ []
products_step z ts k a less is = ap (products z) (take_more ts k a less ∙ ap (λ b. take k ts ++ b ∷ []) (sym is)) ∙ products_append z (take k ts) (a ∷ [])

pub products_put : (z : ℤ) (old so_far new : List Term) (ts : List Term) (k : ℕ) (a b : Term) → k < length ts → a ≡ slice_index_or ts k a → so_far ≡ old ++ products z (take k ts) → b ≡ term a.column (z *ℤ a.times) → new ≡ so_far ++ b ∷ [] → new ≡ old ++ products z (take (k + 1) ts)
products_put z old so_far new ts k a b less is before made put =
    put ∙ ap (λ xs. xs ++ b ∷ []) before ∙ append_assoc old (products z (take k ts)) (b ∷ [])
    ∙ ap (λ c. old ++ (products z (take k ts) ++ c ∷ [])) made
    ∙ ap (λ xs. old ++ xs) (sym (products_step z ts k a less is))

pub small_put : (so_far new : List Term) (b : Term) → All IsSmallTerm so_far → IsSmallTerm b → new ≡ so_far ++ b ∷ [] → All IsSmallTerm new
small_put so_far new b small here put = subst (All IsSmallTerm) (sym put) (All-append IsSmallTerm so_far (b ∷ []) small (all_one IsSmallTerm b here))

-- a term whose multiple is too large is that of its column
pub product_large : (z : ℤ) (ts : List Term) (k : ℕ) (a : Term) → AreTerms 0 ts → k < length ts → a ≡ slice_index_or ts k a → (unsigned_abs (z *ℤ a.times) < 2 ^ 127 → ⊥) → (c : Column) × (2 ^ 127 ≤ unsigned_abs (z *ℤ coefficient ts c))
product_large z ts k a rising less is large =
    (a.column, subst (λ y. 2 ^ 127 ≤ unsigned_abs (z *ℤ y)) (sym (own_coefficient ts 0 k a rising less is)) (not_below (unsigned_abs (z *ℤ a.times)) (2 ^ 127) large))
  where
    not_below : (m n : ℕ) → (m < n → ⊥) → n ≤ m
    not_below m n h = grind (arith, h)

-- the column of a row that is too large is so in all
pub part_large : (rows : List LinRow) (times : List ℤ) (k : ℕ) (r : LinRow) (z : ℤ) (terms : List Term) → IsPair rows times k r z → terms ≡ r.terms → (c : Column) × (2 ^ 127 ≤ unsigned_abs (z *ℤ coefficient terms c)) → (c : Column) × (2 ^ 127 ≤ column_amount rows times c)
part_large rows times k r z terms pair is (c, large) =
    (c, omega (arith, large, ap (λ ts. unsigned_abs (z *ℤ coefficient ts c)) is, amount_part (λ s. coefficient s.terms c) rows times k r z pair))

pub right_large : (rows : List LinRow) (times : List ℤ) (k : ℕ) (r : LinRow) (z : ℤ) (total : Total) → IsPair rows times k r z → total.amount ≡ amount_of (take k rows) (take k times) (λ s. s.right) → (FitsAdded total (z *ℤ r.right) → ⊥) → 2 ^ 127 ≤ right_amount rows times
right_large rows times k r z total pair amount large = omega (arith, amount, not_below (total.amount + unsigned_abs (z *ℤ r.right)) (2 ^ 127) large, amount_part (λ s. s.right) rows times k r z pair)
  where
    not_below : (m n : ℕ) → (m < n → ⊥) → n ≤ m
    not_below m n h = grind (arith, h)
