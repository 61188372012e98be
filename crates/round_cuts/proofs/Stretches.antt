-- Terms in the order of their columns become one term of each column.
use Rattle.std.proofs.Common.{◌≡◌, ◌≢◌, ◌≤◌, ◌<◌, ◌+◌, ◌^◌, ◌∙◌, ◌⊎◌, ⊎_elim, inl, inr, ℕ, zero, suc, refl, sym, ap, subst, arith, Bool, true, false, List, [], ◌∷◌, ◌++◌, length, take, slice_index_or}
use Rattle.std.specs.Prelude.{if◌then◌else◌, ℤ, pos, negsuc, ◌+ℤ◌, ◌-ℤ◌, ◌*ℤ◌, ◌≤ℤ◌, unsigned_abs, Result, Ok, Err, IfOk}
use Rattle.std.specs.List.{All, sum_by}
use Rattle.std.specs.List.Sorted.{IsPermutation}
use Rattle.std.proofs.lemmas.Bool.{cases_Bool}
use Rattle.std.proofs.lemmas.List.{get_or_default, take_more}
use Rattle.std.proofs.lemmas.List.Elements.{All-append}
use Rattle.std.proofs.lemmas.List.Sorted.{sum_by-IsPermutation}
use Rattle.std.proofs.lemmas.List.Sums.{sum_by-cons}
use Rattle.algebra.proofs.Integers.{add_assoc, add_zero, zero_add}
use Rattle.algebra.proofs.Order.{linear}
use Rattle.lin_rows.specs.declared.column.Column.{Column}
use Rattle.lin_rows.specs.declared.row.Term.{Term}
use Rattle.lin_rows.specs.declared.total.Total.{Total}
use Rattle.lin_rows.specs.Base.{term}
use Rattle.lin_rows.specs.Columns.{order_of}
use Rattle.lin_rows.specs.Sums.{FitsAdded, IsTotal, coefficient, no_total, same_column, with_more}
use Rattle.lin_rows.proofs.Below.{coefficient_append, one_by_parts}
use Rattle.lin_rows.proofs.Cells.{same_self}
use Rattle.lin_rows.proofs.Terms.{RiseTo, all_none, all_one, rise_append}
use Rattle.lin_rows.specs.Rows.{LinRow}
use Rattle.round_cuts.specs.Rounding.{column_amount}
use Rattle.round_cuts.specs.Merging.{AreProducts, AreSums, IsMerged, IsSmallTerm, TakesTerm, amount_in, stretch_term, stretch_with, weight_in}
use Rattle.round_cuts.proofs.Pairs.{weight_append}
use Rattle.round_cuts.specs.declared.merging.Stretch.{Stretch}

-- ---- another order of the terms
above : ℤ → ℕ
above (pos n) = n
above (negsuc n) = 0

below : ℤ → ℕ
below (pos n) = 0
below (negsuc n) = suc n

both_parts : (z : ℤ) → z ≡ pos (above z) -ℤ pos (below z)
unfolding above below
both_parts (pos n) = omega (arith, linear)
both_parts (negsuc n) = omega (arith, linear)

one_part : (z : ℤ) (b : Bool) → (if b then z else pos 0) ≡ pos (if b then above z else 0) -ℤ pos (if b then below z else 0)
one_part z true = both_parts z
one_part z false = omega (arith, linear)

sum_parts : (ts : List Term) (c : Column) → coefficient ts c ≡ pos (weight_in above ts c) -ℤ pos (weight_in below ts c)
sum_parts [] c = omega (arith, linear)
sum_parts (a ∷ ts) c = omega (arith, linear, one_part a.times (same_column a.column c), sum_parts ts c)

weight_sum : (w : ℤ → ℕ) (ts : List Term) (c : Column) → weight_in w ts c ≡ sum_by (λ a. if same_column a.column c then w a.times else 0) ts
weight_sum w [] c = refl
weight_sum w (a ∷ ts) c =
    let f : Term → ℕ = λ b. if same_column b.column c then w b.times else 0 in
    ap (λ n. f a + n) (weight_sum w ts c) ∙ sym (sum_by-cons f a ts)

weight_permuted : (w : ℤ → ℕ) (xs ys : List Term) (c : Column) → IsPermutation xs ys → weight_in w ys c ≡ weight_in w xs c
weight_permuted w xs ys c moved =
    weight_sum w ys c ∙ sum_by-IsPermutation (λ a. if same_column a.column c then w a.times else 0) xs ys moved ∙ sym (weight_sum w xs c)

pub sum_permuted : (xs ys : List Term) (c : Column) → IsPermutation xs ys → coefficient ys c ≡ coefficient xs c
sum_permuted xs ys c moved =
    sum_parts ys c
    ∙ ap (λ n. pos n -ℤ pos (weight_in below ys c)) (weight_permuted above xs ys c moved)
    ∙ ap (λ n. pos (weight_in above xs c) -ℤ pos n) (weight_permuted below xs ys c moved)
    ∙ sym (sum_parts xs c)

pub amount_permuted : (xs ys : List Term) (c : Column) → IsPermutation xs ys → amount_in ys c ≡ amount_in xs c
amount_permuted xs ys c moved = weight_permuted unsigned_abs xs ys c moved

-- ---- one more term
-- what a term adds to a column
adds : Term → Column → ℤ
adds a c = if same_column a.column c then a.times else pos 0

weighs : Term → Column → ℕ
weighs a c = if same_column a.column c then unsigned_abs a.times else 0

sum_one : (ts : List Term) (a : Term) (c : Column) → coefficient (ts ++ a ∷ []) c ≡ coefficient ts c +ℤ adds a c
unfolding adds
sum_one ts a c = coefficient_append ts (a ∷ []) c ∙ ap (λ z. coefficient ts c +ℤ z) (add_zero (if same_column a.column c then a.times else pos 0))

amount_one : (ts : List Term) (a : Term) (c : Column) → amount_in (ts ++ a ∷ []) c ≡ amount_in ts c + weighs a c
unfolding weighs
amount_one ts a c = omega (arith, weight_append unsigned_abs ts (a ∷ []) c)

weighs_own : (a : Term) (c : Column) → same_column a.column c ≡ true → weighs a c ≡ unsigned_abs a.times
unfolding weighs
weighs_own a c is = ap (λ b. if b then unsigned_abs a.times else 0) is

weighs_none : (a : Term) (c : Column) → same_column a.column c ≡ false → weighs a c ≡ 0
unfolding weighs
weighs_none a c is = ap (λ b. if b then unsigned_abs a.times else 0) is

adds_both : (c d : Column) (s t : ℤ) → adds (term c (s +ℤ t)) d ≡ adds (term c s) d +ℤ adds (term c t) d
unfolding adds
adds_both c d s t = split (same_column c d) s t
  where
    split : (b : Bool) (s t : ℤ) → (if b then s +ℤ t else pos 0) ≡ (if b then s else pos 0) +ℤ (if b then t else pos 0)
    split true s t = refl
    split false s t = omega (arith, linear)

-- no column is past this place
abbrev pub AreUpTo : ℕ → List Term → Type 0
AreUpTo high [] = Unit {0}
AreUpTo high (a ∷ ts) = (order_of a.column ≤ high) × AreUpTo high ts

upto_more : (low high : ℕ) (ts : List Term) (a : Term) → low ≤ high → order_of a.column ≤ high → AreUpTo low ts → AreUpTo high (ts ++ a ∷ [])
upto_more low high [] a less here each = (here, tt)
upto_more low high (b ∷ ts) a less here each = (omega (arith, each.0, less), upto_more low high ts a less here each.1)

-- a later column has no terms
amount_past : (high : ℕ) (ts : List Term) (c : Column) → AreUpTo high ts → high < order_of c → amount_in ts c ≡ 0
amount_past high [] c each past = refl
amount_past high (a ∷ ts) c each past =
    ⊎_elim
    (λ same. absurd (omega (arith, each.0, past, ap order_of (one_by_parts a.column c same))))
    (λ other. omega (arith, ap (λ b. if b then unsigned_abs a.times else 0) other, amount_past high ts c each.1 past))
    (cases_Bool (same_column a.column c))

-- the first terms are done but for those of the stretch
pub record IsStretchOf (front done : List Term) (stretch : Stretch) : Type 0 where
  pub sums : (c : Column) → coefficient (done ++ stretch_term stretch ∷ []) c ≡ coefficient front c
  pub rising : RiseTo 0 done (order_of stretch.column)
  pub upto : AreUpTo (order_of stretch.column) front
  pub amounts : (c : Column) → amount_in front c < 2 ^ 127
  pub total : stretch.total.amount ≡ amount_in front stretch.column
  pub is_total : IsTotal stretch.total
  pub small : All IsSmallTerm done

none_added : (c d : Column) → coefficient (term c (pos 0) ∷ []) d ≡ pos 0
none_added c d = same_none (same_column c d)
  where
    same_none : (b : Bool) → (if b then pos 0 else pos 0) +ℤ pos 0 ≡ pos 0
    same_none true = refl
    same_none false = refl

pub stretch_first : (c : Column) → IsStretchOf [] [] (stretch_with c no_total)
stretch_first c = record {
  sums = λ d. none_added c d;
  rising = omega arith;
  upto = tt;
  amounts = λ d. omega arith;
  total = refl;
  is_total = record { most = omega arith; small = omega arith };
  small = all_none IsSmallTerm;
}

-- a term of the stretch's column
same_step : (front done : List Term) (stretch : Stretch) (a : Term) → IsStretchOf front done stretch → same_column stretch.column a.column ≡ true → IsTotal (with_more stretch.total a.times) → IsStretchOf (front ++ a ∷ []) done (stretch_with stretch.column (with_more stretch.total a.times))
same_step front done stretch a so_far same is_total =
    let e : stretch.column ≡ a.column = one_by_parts stretch.column a.column same in
    let own : term stretch.column a.times ≡ a = ap (λ c. term c a.times) e in
    let weight : weighs a stretch.column ≡ unsigned_abs a.times = weighs_own a stretch.column (ap (λ c. same_column c stretch.column) (sym e) ∙ same_self stretch.column) in
    let total : stretch.total.amount + unsigned_abs a.times ≡ amount_in (front ++ a ∷ []) stretch.column = omega (arith, so_far.total, amount_one front a stretch.column, weight) in
    record {
      sums = λ c.
          sum_one done (term stretch.column (stretch.total.sum +ℤ a.times)) c
          ∙ ap (λ z. coefficient done c +ℤ z) (adds_both stretch.column c stretch.total.sum a.times)
          ∙ sym (add_assoc (coefficient done c) (adds (stretch_term stretch) c) (adds (term stretch.column a.times) c))
          ∙ ap (λ z. z +ℤ adds (term stretch.column a.times) c) (sym (sum_one done (stretch_term stretch) c) ∙ so_far.sums c)
          ∙ ap (λ b. coefficient front c +ℤ adds b c) own
          ∙ sym (sum_one front a c);
      rising = so_far.rising;
      upto = upto_more (order_of stretch.column) (order_of stretch.column) front a (omega arith) (omega (arith, ap order_of e)) so_far.upto;
      amounts = λ c. ⊎_elim
          (λ yes. subst (λ d. amount_in (front ++ a ∷ []) d < 2 ^ 127) (e ∙ one_by_parts a.column c yes) (omega (arith, total, is_total.small)))
          (λ other. omega (arith, amount_one front a c, weighs_none a c other, so_far.amounts c))
          (cases_Bool (same_column a.column c));
      total = total;
      is_total = is_total;
      small = so_far.small;
    }

-- a term of a later column
next_step : (front done : List Term) (stretch : Stretch) (a : Term) → IsStretchOf front done stretch → order_of stretch.column < order_of a.column → IsSmallTerm a → IsTotal (with_more no_total a.times) → IsStretchOf (front ++ a ∷ []) (done ++ stretch_term stretch ∷ []) (stretch_with a.column (with_more no_total a.times))
next_step front done stretch a so_far later here is_total =
    let none : amount_in front a.column ≡ 0 = amount_past (order_of stretch.column) front a.column so_far.upto later in
    let own : term a.column (pos 0 +ℤ a.times) ≡ a = ap (term a.column) (zero_add a.times) in
    record {
      sums = λ c.
          sum_one (done ++ stretch_term stretch ∷ []) (term a.column (pos 0 +ℤ a.times)) c
          ∙ ap (λ z. z +ℤ adds (term a.column (pos 0 +ℤ a.times)) c) (so_far.sums c)
          ∙ ap (λ b. coefficient front c +ℤ adds b c) own
          ∙ sym (sum_one front a c);
      rising = rise_append done (stretch_term stretch ∷ []) 0 (order_of stretch.column) (order_of a.column) so_far.rising (omega arith, omega (arith, later));
      upto = upto_more (order_of stretch.column) (order_of a.column) front a (omega (arith, later)) (omega arith) so_far.upto;
      amounts = λ c. ⊎_elim
          (λ yes. subst (λ d. amount_in (front ++ a ∷ []) d < 2 ^ 127) (one_by_parts a.column c yes) (omega (arith, amount_one front a a.column, none, weighs_own a a.column (same_self a.column), here)))
          (λ other. omega (arith, amount_one front a c, weighs_none a c other, so_far.amounts c))
          (cases_Bool (same_column a.column c));
      total = omega (arith, amount_one front a a.column, none, weighs_own a a.column (same_self a.column));
      is_total = is_total;
      small = All-append IsSmallTerm done (stretch_term stretch ∷ []) so_far.small (all_one IsSmallTerm (stretch_term stretch) (omega (arith, so_far.is_total.most, so_far.is_total.small)));
    }

pub stretch_step : (front done new : List Term) (stretch next : Stretch) (a : Term) → IsStretchOf front done stretch → order_of stretch.column ≤ order_of a.column → IsSmallTerm a → TakesTerm done stretch a new next → IsTotal next.total → IsStretchOf (front ++ a ∷ []) new next
stretch_step front done new stretch next a so_far order here takes is_total =
    ⊎_elim
    (λ (same : (same_column stretch.column a.column ≡ true) × (new ≡ done) × (next ≡ stretch_with stretch.column (with_more stretch.total a.times))).
    subst (λ ts. IsStretchOf (front ++ a ∷ []) ts next) (sym same.1) (subst (IsStretchOf (front ++ a ∷ []) done) (sym same.2) (same_step front done stretch a so_far same.0 (subst (λ r. IsTotal r.total) same.2 is_total))))
    (λ (other : (order_of stretch.column ≢ order_of a.column) × (new ≡ done ++ stretch_term stretch ∷ []) × (next ≡ stretch_with a.column (with_more no_total a.times))).
    subst (λ ts. IsStretchOf (front ++ a ∷ []) ts next) (sym other.1) (subst (IsStretchOf (front ++ a ∷ []) (done ++ stretch_term stretch ∷ [])) (sym other.2) (next_step front done stretch a so_far (after (order_of stretch.column) (order_of a.column) order other.0) here (subst (λ r. IsTotal r.total) other.2 is_total))))
    takes
  where
    after : (m n : ℕ) → m ≤ n → m ≢ n → m < n
    after m n h apart = grind (arith, h, apart)

-- at the end the stretch's term is put after the others
pub stretch_last : (ts done : List Term) (stretch : Stretch) → IsStretchOf ts done stretch → IsMerged ts (done ++ stretch_term stretch ∷ [])
stretch_last ts done stretch all = record {
  high = order_of stretch.column + 1;
  rising = rise_append done (stretch_term stretch ∷ []) 0 (order_of stretch.column) (order_of stretch.column + 1) all.rising (omega arith, omega arith);
  sums = all.sums;
  small = All-append IsSmallTerm done (stretch_term stretch ∷ []) all.small (all_one IsSmallTerm (stretch_term stretch) (omega (arith, all.is_total.most, all.is_total.small)));
}

amount_take : (ts : List Term) (k : ℕ) (c : Column) → amount_in (take k ts) c ≤ amount_in ts c
amount_take ts zero c = omega arith
amount_take [] (suc k) c = omega arith
amount_take (a ∷ ts) (suc k) c = omega (arith, amount_take ts k c)

-- where the stretch has no room, the column's amount is too large
pub stretch_large : (ts front done : List Term) (stretch : Stretch) (a : Term) (k : ℕ) → IsStretchOf front done stretch → front ++ a ∷ [] ≡ take k ts → same_column stretch.column a.column ≡ true → (FitsAdded stretch.total a.times → ⊥) → 2 ^ 127 ≤ amount_in ts stretch.column
stretch_large ts front done stretch a k so_far front_is same full =
    let e : stretch.column ≡ a.column = one_by_parts stretch.column a.column same in
    let weight : weighs a stretch.column ≡ unsigned_abs a.times = weighs_own a stretch.column (ap (λ c. same_column c stretch.column) (sym e) ∙ same_self stretch.column) in
    omega (arith, not_below (stretch.total.amount + unsigned_abs a.times) (2 ^ 127) full, so_far.total, amount_one front a stretch.column, weight, ap (λ xs. amount_in xs stretch.column) front_is, amount_take ts k stretch.column)
  where
    not_below : (m n : ℕ) → (m < n → ⊥) → n ≤ m
    not_below m n h = grind (arith, h)

-- the stretch after a term is of the term's column
pub next_order : (done new : List Term) (stretch next : Stretch) (a : Term) → TakesTerm done stretch a new next → order_of next.column ≡ order_of a.column
next_order done new stretch next a takes =
    ⊎_elim
    (λ (same : (same_column stretch.column a.column ≡ true) × (new ≡ done) × (next ≡ stretch_with stretch.column (with_more stretch.total a.times))).
    ap (λ r. order_of r.column) same.2 ∙ ap order_of (one_by_parts stretch.column a.column same.0))
    (λ (other : (order_of stretch.column ≢ order_of a.column) × (new ≡ done ++ stretch_term stretch ∷ []) × (next ≡ stretch_with a.column (with_more no_total a.times))).
    ap (λ r. order_of r.column) other.2)
    takes

-- terms in the order of their columns
abbrev pub AreOrdered : List Term → Type 0
AreOrdered ts = (i j : ℕ) (d : Term) → i ≤ j → j < length ts → order_of (slice_index_or ts i d).column ≤ order_of (slice_index_or ts j d).column

next_front : (ts : List Term) (k : ℕ) (a : Term) → k < length ts → a ≡ slice_index_or ts k a → take k ts ++ a ∷ [] ≡ take (k + 1) ts
next_front ts k a less is = sym (take_more ts k a less ∙ ap (λ b. take k ts ++ b ∷ []) (sym is))

-- ---- as far as a loop has come
pub record IsAt (ts : List Term) (k : ℕ) (a : Term) : Type 0 where
  pub less : k < length ts
  pub term : a ≡ slice_index_or ts k a

pub stretch_next : (ts done new : List Term) (stretch next : Stretch) (k : ℕ) (a : Term) → IsAt ts k a → IsStretchOf (take k ts) done stretch → ((j : ℕ) (d : Term) → k ≤ j → j < length ts → order_of stretch.column ≤ order_of (slice_index_or ts j d).column) → All IsSmallTerm ts → TakesTerm done stretch a new next → IsTotal next.total → IsStretchOf (take (k + 1) ts) new next
stretch_next ts done new stretch next k a at so_far later small takes is_total =
    subst (λ front. IsStretchOf front new next) (next_front ts k a at.less at.term)
    (stretch_step (take k ts) done new stretch next a so_far (omega (arith, later k a (omega arith) at.less, ap (λ b. order_of b.column) at.term)) (subst IsSmallTerm (sym at.term) (small k a at.less)) takes is_total)

pub stretch_later : (ts done new : List Term) (stretch next : Stretch) (k : ℕ) (a : Term) → IsAt ts k a → AreOrdered ts → TakesTerm done stretch a new next → (j : ℕ) (d : Term) → k + 1 ≤ j → j < length ts → order_of next.column ≤ order_of (slice_index_or ts j d).column
stretch_later ts done new stretch next k a at ordered takes j d high less =
    let here : slice_index_or ts k d ≡ a = sym (at.term ∙ get_or_default ts k a d at.less) in
    omega (arith, next_order done new stretch next a takes, ap (λ b. order_of b.column) here, ordered k j d (omega (arith, high)) less)

pub stretch_full : (ts done : List Term) (stretch : Stretch) (k : ℕ) (a : Term) → IsAt ts k a → IsStretchOf (take k ts) done stretch → same_column stretch.column a.column ≡ true → (FitsAdded stretch.total a.times → ⊥) → 2 ^ 127 ≤ amount_in ts stretch.column
stretch_full ts done stretch k a at so_far same full = stretch_large ts (take k ts) done stretch a (k + 1) so_far (next_front ts k a at.less at.term) same full

-- ---- from the products of rows to their sums
pub amounts_are : (rows : List LinRow) (times : List ℤ) (ts sorted lent : List Term) (c : Column) → AreProducts rows times ts → IsPermutation ts sorted → lent ≡ sorted → amount_in lent c ≡ column_amount rows times c
amounts_are rows times ts sorted lent c made moved same = ap (λ us. amount_in us c) same ∙ amount_permuted ts sorted c moved ∙ made.amounts c

pub are_sums : (rows : List LinRow) (times : List ℤ) (ts sorted lent merged : List Term) → AreProducts rows times ts → IsPermutation ts sorted → lent ≡ sorted → IsMerged lent merged → AreSums rows times merged
are_sums rows times ts sorted lent merged made moved same is = record {
  high = is.high;
  rising = is.rising;
  sums = λ c. is.sums c ∙ ap (λ us. coefficient us c) same ∙ sum_permuted ts sorted c moved ∙ made.sums c;
  small = is.small;
}

pub map_ok : {A E : Type 0} → (r : Result A E) (P Q : A → Type 0) → ((x : A) → P x → Q x) → IfOk r P → IfOk r Q
map_ok (Ok x) P Q f p = f x p
map_ok (Err e) P Q f p = tt
