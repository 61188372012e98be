-- Lists of terms: put together, with their columns rising, and what they add to.
use Rattle.std.proofs.Common.{◌≡◌, ◌≢◌, ◌≤◌, ◌+◌, ◌-◌, ◌*◌, ◌∙◌, ◌⊎◌, ⊎_elim, ℕ, zero, suc, refl, sym, ap, subst, arith, Bool, true, false, List, [], ◌∷◌, ◌++◌, append_assoc, append-nil, inl, inr}
use Rattle.std.specs.Prelude.{ℤ, pos, negsuc, ◌+ℤ◌, ◌*ℤ◌}
use Rattle.std.specs.List.{All}
use Rattle.std.proofs.lemmas.List.Elements.{All-append, filter-append}
use Rattle.lin_rows.specs.declared.row.Term.{Term}
use Rattle.lin_rows.specs.Columns.{order_of}
use Rattle.lin_rows.specs.Rows.{AreTerms, LinRow, Values, sum_at}
use Rattle.lin_rows.specs.Base.{is_some_term, some_terms, terms_to}
use Rattle.lin_rows.specs.Made.{PutTerms}
use Rattle.algebra.proofs.Integers.{add_assoc, zero_add, zero_mul}

-- terms that are put after others, and then more
pub put_then : (old more mid more2 new : List Term) → PutTerms old more mid → PutTerms mid more2 new → PutTerms old (more ++ more2) new
put_then old more mid more2 new first second =
    second ∙ ap (λ ts. ts ++ some_terms more2) first ∙ append_assoc old (some_terms more) (some_terms more2)
    ∙ ap (λ ts. old ++ ts) (sym (filter-append (λ a. is_some_term a.times) more more2))

pub put_none : (old : List Term) → PutTerms old [] old
put_none old = sym (append-nil old)

pub put_next : (n : ℕ) (f : ℕ → List Term) (old mid new : List Term) → 1 ≤ n → PutTerms old (terms_to (n - 1) f) mid → PutTerms mid (f n) new → PutTerms old (terms_to (n + 1 - 1) f) new
put_next n f old mid new low first second =
    let e : suc (n - 1) ≡ n + 1 - 1 = omega (arith, low) in
    let same : suc (n - 1) ≡ n = omega (arith, low) in
    subst (λ k. PutTerms old (terms_to k f) new) e (put_then old (terms_to (n - 1) f) mid (f (suc (n - 1))) new first (subst (λ k. PutTerms mid (f k) new) (sym same) second))

-- what terms add to
pub sum_append : (v : Values) (xs ys : List Term) → sum_at v (xs ++ ys) ≡ sum_at v xs +ℤ sum_at v ys
sum_append v [] ys = sym (zero_add (sum_at v ys))
sum_append v (a ∷ xs) ys = ap (λ z. a.times *ℤ pos (v a.column) +ℤ z) (sum_append v xs ys) ∙ sym (add_assoc (a.times *ℤ pos (v a.column)) (sum_at v xs) (sum_at v ys))

-- terms that are 0 times their column add nothing
none_or_some : (z : ℤ) → (is_some_term z ≡ true) ⊎ ((is_some_term z ≡ false) × (z ≡ pos 0))
none_or_some (pos zero) = inr (refl, refl)
none_or_some (pos (suc n)) = inl refl
none_or_some (negsuc n) = inl refl

pub sum_some : (v : Values) (ts : List Term) → sum_at v (some_terms ts) ≡ sum_at v ts
sum_some v [] = refl
sum_some v (a ∷ ts) =
    ⊎_elim
    (λ some. rw some (ap (λ z. a.times *ℤ pos (v a.column) +ℤ z) (sum_some v ts)))
    (λ none. rw none.0 (sum_some v ts ∙ sym (zero_add (sum_at v ts)) ∙ ap (λ z. z +ℤ sum_at v ts) (sym (zero_mul (pos (v a.column))) ∙ ap (λ z. z *ℤ pos (v a.column)) (sym none.1))))
    (none_or_some a.times)

-- columns that rise between two places
abbrev pub RiseTo : ℕ → List Term → ℕ → Type 0
RiseTo low [] high = low ≤ high
RiseTo low (a ∷ rest) high = (low ≤ order_of a.column) × RiseTo (order_of a.column + 1) rest high

pub rise_append : (xs ys : List Term) (low mid high : ℕ) → RiseTo low xs mid → RiseTo mid ys high → RiseTo low (xs ++ ys) high
rise_append [] [] low mid high x y = omega (arith, x, y)
rise_append [] (b ∷ ys) low mid high x y = (omega (arith, x, y.0), y.1)
rise_append (a ∷ xs) ys low mid high x y = (x.0, rise_append xs ys (order_of a.column + 1) mid high x.1 y)

rise_from : (ts : List Term) (low lower high : ℕ) → lower ≤ low → RiseTo low ts high → RiseTo lower ts high
rise_from [] low lower high h x = omega (arith, h, x)
rise_from (a ∷ ts) low lower high h x = (omega (arith, h, x.0), x.1)

terms_from : (ts : List Term) (low lower : ℕ) → lower ≤ low → AreTerms low ts → AreTerms lower ts
terms_from [] low lower h x = tt
terms_from (a ∷ ts) low lower h x = (omega (arith, h, x.0), x.1, x.2)

not_none : (z : ℤ) → is_some_term z ≡ true → z ≢ pos 0
not_none (pos zero) some is = cc some
not_none (pos (suc n)) some is = cc is
not_none (negsuc n) some is = cc is

-- those that aren't 0 times their column are terms of a row
pub are_terms : (ts : List Term) (low high : ℕ) → RiseTo low ts high → AreTerms low (some_terms ts)
are_terms [] low high x = tt
are_terms (a ∷ ts) low high x =
    ⊎_elim
    (λ some. rw some (x.0, not_none a.times some, are_terms ts (order_of a.column + 1) high x.1))
    (λ none. rw none.0 (terms_from (some_terms ts) (order_of a.column + 1) low (omega (arith, x.0)) (are_terms ts (order_of a.column + 1) high x.1)))
    (none_or_some a.times)

rise_below : (ts : List Term) (low mid high : ℕ) → mid ≤ high → RiseTo low ts mid → RiseTo low ts high
rise_below [] low mid high h x = omega (arith, h, x)
rise_below (a ∷ ts) low mid high h x = (x.0, rise_below ts (order_of a.column + 1) mid high h x.1)

-- terms whose columns rise with their number
pub rise_to : (n : ℕ) (f : ℕ → List Term) (low step high : ℕ) → ((k : ℕ) → 1 ≤ k → k ≤ n → RiseTo (low + k * step) (f k) (low + k * step + step)) → low + n * step + step ≤ high → RiseTo low (terms_to n f) high
rise_to zero f low step high each all = omega (arith, all)
rise_to (suc n) f low step high each all =
    let place : low + n * step + step ≡ low + suc n * step = omega arith in
    rise_append (terms_to n f) (f (suc n)) low (low + suc n * step) high
    (rise_to n f low step (low + suc n * step) (λ k k_low k_high. each k k_low (omega (arith, k_high))) (omega (arith, place)))
    (rise_below (f (suc n)) (low + suc n * step) (low + suc n * step + step) high all (each (suc n) (omega arith) (omega arith)))

pub all_one : (P : Term → Type 0) (a : Term) → P a → All P (a ∷ [])
all_one P a here zero d less = here
all_one P a here (suc k) d less = absurd (omega (arith, less))

-- each of a list of terms that are numbered
pub all_to : (P : Term → Type 0) (n : ℕ) (f : ℕ → List Term) → ((k : ℕ) → 1 ≤ k → k ≤ n → All P (f k)) → All P (terms_to n f)
all_to P zero f each = λ k d less. absurd (omega (arith, less))
all_to P (suc n) f each = All-append P (terms_to n f) (f (suc n)) (all_to P n f (λ k low high. each k low (omega (arith, high)))) (each (suc n) (omega arith) (omega arith))

pub all_none : (P : Term → Type 0) → All P []
all_none P k d less = absurd (omega (arith, less))

pub all_both : (P : Term → Type 0) (a b : Term) → P a → P b → All P (a ∷ (b ∷ []))
all_both P a b first second = All-append P (a ∷ []) (b ∷ []) (all_one P a first) (all_one P b second)

abbrev row_with : List Term → ℤ → Bool → LinRow
row_with terms right equal = record { terms = terms; right = right; equal = equal }

-- rows with the same parts
pub same_row : (r : LinRow) (terms : List Term) (right : ℤ) (equal : Bool) → r.terms ≡ terms → r.right ≡ right → r.equal ≡ equal → r ≡ row_with terms right equal
same_row r terms right equal is_terms is_right is_equal =
    ap (λ x. row_with x r.right r.equal) is_terms ∙ ap (λ x. row_with terms x r.equal) is_right ∙ ap (λ x. row_with terms right x) is_equal
