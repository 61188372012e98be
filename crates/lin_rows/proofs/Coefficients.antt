-- How many times a row takes a column, term by term.
use Rattle.std.proofs.Common.{◌≡◌, ◌≤◌, ◌<◌, ◌+◌, ◌^◌, ◌∙◌, ⊎_elim, inl, ℕ, zero, suc, refl, sym, ap, subst, arith, true, false, List, [], ◌∷◌, ◌++◌, length, slice_index_or, take}
use Rattle.std.specs.Prelude.{ℤ, pos, ◌+ℤ◌, ◌*ℤ◌, if◌then◌else◌}
use Rattle.std.specs.List.{All}
use Rattle.std.proofs.lemmas.List.Elements.{All-append}
use Rattle.std.proofs.lemmas.List.{get_or_default, take_more}
use Rattle.algebra.proofs.Integers.{add_assoc, add_zero, mul_zero, zero_add}
use Rattle.lin_rows.specs.declared.column.Column.{Column}
use Rattle.lin_rows.specs.declared.column.Column.TheVariants.{X, Y, S, R}
use Rattle.lin_rows.specs.declared.row.Term.{Term}
use Rattle.lin_rows.specs.declared.total.Total.{Total}
use Rattle.lin_rows.specs.Columns.{order_of, order_at}
use Rattle.lin_rows.specs.Rows.{AreTerms, LinRow}
use Rattle.lin_rows.specs.Sums.{AddsTerm, AddsTerms, EachHasRoom, FitsAdded, LacksRoom, PassesWith, Summed, coefficient, item_of, kind_of, period_of, same_column, total_of, with_more}
use Rattle.lin_rows.proofs.Terms.{all_one}
use Rattle.lin_rows.proofs.Cells.{same_parts, same_self, total_same, true_or_false}

-- columns that are the same stand at one place in the order
order_by : (c : Column) → order_of c ≡ order_at (kind_of c) (item_of c) (period_of c)
order_by (X i t) = refl
order_by (Y i t) = refl
order_by (S i t) = refl
order_by (R i t) = refl

same_order : (c d : Column) → same_column c d ≡ true → order_of c ≡ order_of d
same_order c d is = let (k, i, t) = same_parts c d is in order_by c ∙ rw (k, i, t) refl ∙ sym (order_by d)

apart_by : (c d : Column) → (order_of c ≡ order_of d → ⊥) → same_column c d ≡ false
apart_by c d apart = ⊎_elim (λ same. absurd (apart (same_order c d same))) (λ no. no) (true_or_false (same_column c d))

-- terms that all come later don't take the column
later_none : (ts : List Term) (low : ℕ) (c : Column) → AreTerms low ts → order_of c < low → coefficient ts c ≡ pos 0
later_none [] low c h less = refl
later_none (a ∷ ts) low c h less = rw (apart_by a.column c (λ e. omega (arith, less, h.0, e))) (zero_add (coefficient ts c) ∙ later_none ts (order_of a.column + 1) c h.2 (omega (arith, less, h.0)))

-- the first term, or the others
first_is : (a : Term) (ts : List Term) (c : Column) → AreTerms (order_of a.column + 1) ts → same_column a.column c ≡ true → coefficient (a ∷ ts) c ≡ a.times
first_is a ts c h same =
    ap (λ b. (if b then a.times else pos 0) +ℤ coefficient ts c) same
    ∙ ap (λ z. a.times +ℤ z) (later_none ts (order_of a.column + 1) c h (omega (arith, same_order a.column c same)))
    ∙ add_zero a.times

others_are : (a : Term) (ts : List Term) (c : Column) → same_column a.column c ≡ false → coefficient (a ∷ ts) c ≡ coefficient ts c
others_are a ts c apart = ap (λ b. (if b then a.times else pos 0) +ℤ coefficient ts c) apart ∙ zero_add (coefficient ts c)

-- each column has room for its coefficient, where each term has
pub all_room : (s : Summed) (ts : List Term) (low : ℕ) (times : ℤ) → AreTerms low ts → EachHasRoom s ts times → ((c : Column) → (total_of s c).amount < 2 ^ 127) → (c : Column) → FitsAdded (total_of s c) (times *ℤ coefficient ts c)
all_room s [] low times h room small c = rw (mul_zero times) (omega (arith, small c))
all_room s (a ∷ ts) low times h room small c =
    ⊎_elim
    (λ same. subst (λ z. FitsAdded (total_of s c) (times *ℤ z)) (sym (first_is a ts c h.2 same)) (subst (λ t. FitsAdded t (times *ℤ a.times)) (sym (total_same s.items s.periods s.cells a.column c same)) (room zero a (omega arith))))
    (λ apart. subst (λ z. FitsAdded (total_of s c) (times *ℤ z)) (sym (others_are a ts c apart)) (all_room s ts (order_of a.column + 1) times h.2 (λ k d less. room (suc k) d (omega (arith, less))) small c))
    (true_or_false (same_column a.column c))

-- terms stand at or after the place from which they rise
no_earlier : (ts : List Term) (low k : ℕ) (a : Term) → AreTerms low ts → k < length ts → a ≡ slice_index_or ts k a → low ≤ order_of a.column
no_earlier [] low k a h less is = absurd (omega (arith, less))
no_earlier (b ∷ ts) low zero a h less is = omega (arith, h.0, ap (λ x. order_of x.column) is)
no_earlier (b ∷ ts) low (suc k) a h less is = omega (arith, h.0, no_earlier ts (order_of b.column + 1) k a h.2 (omega (arith, less)) is)

-- the coefficient of a term's column
pub own_coefficient : (ts : List Term) (low k : ℕ) (a : Term) → AreTerms low ts → k < length ts → a ≡ slice_index_or ts k a → coefficient ts a.column ≡ a.times
own_coefficient [] low k a h less is = absurd (omega (arith, less))
own_coefficient (b ∷ ts) low zero a h less is = subst (λ x. coefficient (b ∷ ts) x.column ≡ x.times) (sym is) (first_is b ts b.column h.2 (same_self b.column))
own_coefficient (b ∷ ts) low (suc k) a h less is =
    others_are b ts a.column (apart_by b.column a.column (λ e. omega (arith, e, no_earlier ts (order_of b.column + 1) k a h.2 (omega (arith, less)) is)))
    ∙ own_coefficient ts (order_of b.column + 1) k a h.2 (omega (arith, less)) is

-- the terms before it don't take its column
pub none_before : (ts : List Term) (low k : ℕ) (a : Term) (c : Column) → AreTerms low ts → k < length ts → a ≡ slice_index_or ts k a → same_column a.column c ≡ true → coefficient (take k ts) c ≡ pos 0
none_before [] low k a c h less is same = absurd (omega (arith, less))
none_before (b ∷ ts) low zero a c h less is same = refl
none_before (b ∷ ts) low (suc k) a c h less is same =
    others_are b (take k ts) c (apart_by b.column c (λ e. omega (arith, e, same_order a.column c same, no_earlier ts (order_of b.column + 1) k a h.2 (omega (arith, less)) is)))
    ∙ none_before ts (order_of b.column + 1) k a c h.2 (omega (arith, less)) is same

append_one : (ts : List Term) (a : Term) (c : Column) → coefficient (ts ++ a ∷ []) c ≡ coefficient ts c +ℤ (if same_column a.column c then a.times else pos 0)
append_one [] a c = add_zero (if same_column a.column c then a.times else pos 0) ∙ sym (zero_add (if same_column a.column c then a.times else pos 0))
append_one (b ∷ ts) a c = ap (λ z. (if same_column b.column c then b.times else pos 0) +ℤ z) (append_one ts a c) ∙ sym (add_assoc (if same_column b.column c then b.times else pos 0) (coefficient ts c) (if same_column a.column c then a.times else pos 0))

abbrev total_with : ℤ → ℕ → Total
total_with sum amount = record { sum = sum; amount = amount }

no_more : (n : ℕ) → n + 0 ≡ n
no_more n = omega arith

pub with_none : (a : Total) (times : ℤ) → with_more a (times *ℤ pos 0) ≡ a
with_none a times = ap (with_more a) (mul_zero times) ∙ ap (λ z. total_with z (a.amount + 0)) (add_zero a.sum) ∙ ap (total_with a.sum) (no_more a.amount)

taken_one : (ts : List Term) (k : ℕ) (a : Term) → k < length ts → a ≡ slice_index_or ts k a → take (k + 1) ts ≡ take k ts ++ a ∷ []
taken_one ts k a less is = take_more ts k a less ∙ ap (λ x. take k ts ++ x ∷ []) (sym is)

-- one more term is added
pub add_next : (old mid new : Summed) (ts : List Term) (k : ℕ) (a : Term) (times : ℤ) → AreTerms 0 ts → k < length ts → a ≡ slice_index_or ts k a → AddsTerms old mid (take k ts) times → AddsTerm mid new a times → AddsTerms old new (take (k + 1) ts) times
add_next old mid new ts k a times h less is so_far adds c =
    let next : coefficient (take (k + 1) ts) c ≡ coefficient (take k ts) c +ℤ (if same_column a.column c then a.times else pos 0) = ap (λ xs. coefficient xs c) (taken_one ts k a less is) ∙ append_one (take k ts) a c in
    ⊎_elim
    (λ same.
    let none = none_before ts 0 k a c h less is same in
    let whole : coefficient (take (k + 1) ts) c ≡ a.times = next ∙ ap (λ b. coefficient (take k ts) c +ℤ (if b then a.times else pos 0)) same ∙ ap (λ z. z +ℤ a.times) none ∙ zero_add a.times in
    adds c ∙ ap (λ b. if b then with_more (total_of mid c) (times *ℤ a.times) else total_of mid c) same
    ∙ ap (λ t. with_more t (times *ℤ a.times)) (so_far c ∙ ap (λ z. with_more (total_of old c) (times *ℤ z)) none ∙ with_none (total_of old c) times)
    ∙ ap (λ z. with_more (total_of old c) (times *ℤ z)) (sym whole))
    (λ apart.
    let whole : coefficient (take (k + 1) ts) c ≡ coefficient (take k ts) c = next ∙ ap (λ b. coefficient (take k ts) c +ℤ (if b then a.times else pos 0)) apart ∙ add_zero (coefficient (take k ts) c) in
    adds c ∙ ap (λ b. if b then with_more (total_of mid c) (times *ℤ a.times) else total_of mid c) apart ∙ so_far c ∙ ap (λ z. with_more (total_of old c) (times *ℤ z)) (sym whole))
    (true_or_false (same_column a.column c))

-- nothing is added at first
pub add_none : (s : Summed) (times : ℤ) → AddsTerms s s [] times
add_none s times c = sym (with_none (total_of s c) times)

-- and there is room for the next term as at first
pub room_next : (old mid : Summed) (ts : List Term) (k : ℕ) (a : Term) (times : ℤ) → AreTerms 0 ts → k < length ts → a ≡ slice_index_or ts k a → AddsTerms old mid (take k ts) times → EachHasRoom old ts times → FitsAdded (total_of mid a.column) (times *ℤ a.times)
room_next old mid ts k a times h less is so_far room =
    let none = none_before ts 0 k a a.column h less is (same_self a.column) in
    let total : total_of mid a.column ≡ total_of old a.column = so_far a.column ∙ ap (λ z. with_more (total_of old a.column) (times *ℤ z)) none ∙ with_none (total_of old a.column) times in
    subst (λ t. FitsAdded t (times *ℤ a.times)) (sym total) (subst (λ x. FitsAdded (total_of old x.column) (times *ℤ x.times)) (sym is) (room k a less))

abbrev pub no_term : Term
no_term = record { column = X 0 0; times = pos 0 }

-- a term that is read with a default
pub term_read : (ts : List Term) (k : ℕ) → k < length ts → slice_index_or ts k no_term ≡ slice_index_or ts k (slice_index_or ts k no_term)
term_read ts k less = get_or_default ts k no_term (slice_index_or ts k no_term) less

-- a term without room is a column without room
pub passes_by : (s : Summed) (row : LinRow) (ts : List Term) (times : ℤ) → ts ≡ row.terms → AreTerms 0 row.terms → LacksRoom s ts times → PassesWith s row times
passes_by s row ts times same h (k, a, less, is, lacks) =
    let rising : AreTerms 0 ts = subst (AreTerms 0) (sym same) h in
    inl (a.column, λ room. lacks (subst (λ z. FitsAdded (total_of s a.column) (times *ℤ z)) (ap (λ xs. coefficient xs a.column) (sym same) ∙ own_coefficient ts 0 k a rising less is) room))

-- one more term is like the first ones
pub all_more : (P : Term → Type 0) (ts : List Term) (k : ℕ) → k < length ts → All P (take k ts) → P (slice_index_or ts k no_term) → All P (take (k + 1) ts)
all_more P ts k less each here =
    let a = slice_index_or ts k no_term in
    subst (All P) (sym (taken_one ts k a less (term_read ts k less))) (All-append P (take k ts) (a ∷ []) each (all_one P a here))
