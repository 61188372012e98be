-- Rows in lists: they hold and have columns of the problem one by one, and so has what is made of them by rounding.
use Rattle.std.proofs.Common.{◌≡◌, ◌≢◌, ◌≤◌, ◌<◌, ◌+◌, ◌∙◌, ◌⊎◌, ⊎_elim, inl, inr, ℕ, zero, suc, refl, sym, ap, subst, arith, List, [], ◌∷◌, ◌++◌, length, slice_index_or}
use Rattle.std.specs.Prelude.{if◌then◌else◌, ℤ, pos, ◌+ℤ◌, ◌*ℤ◌, ◌≤ℤ◌, ◌<ℤ◌}
use Rattle.std.specs.List.{All}
use Rattle.std.proofs.lemmas.Bool.{cases_Bool}
use Rattle.std.proofs.lemmas.List.{get_or_default}
use Rattle.std.proofs.lemmas.List.Elements.{All-cons, All-head, All-nil, All-tail}
use Rattle.algebra.proofs.Integers.{mul_one, mul_zero, zero_add}
use Rattle.algebra.proofs.Order.{cancel_le, cancel_lt, le_antisym, linear}
use Rattle.lot_sizing.specs.Problem.{Problem}
use Rattle.lin_rows.specs.declared.bound.Bound.{Bound}
use Rattle.lin_rows.specs.declared.column.Column.{Column}
use Rattle.lin_rows.specs.declared.column.Column.TheVariants.{X, Y, S, R}
use Rattle.lin_rows.specs.declared.row.Term.{Term}
use Rattle.lin_rows.specs.Bounds.{bound_row}
use Rattle.lin_rows.specs.Columns.{IsColumn, order_of}
use Rattle.lin_rows.specs.Combining.{AllHold, AreOfProblem, AreSigned, column_sum}
use Rattle.lin_rows.specs.Rows.{AreTerms, HoldsAt, LinPoint, LinRow}
use Rattle.lin_rows.specs.Sums.{coefficient, same_column}
use Rattle.lin_rows.proofs.Below.{one_by_parts}
use Rattle.lin_rows.proofs.Coefficients.{own_coefficient}
use Rattle.round_cuts.specs.Rounding.{IsCeiling, IsRounded}
use Rattle.cert_lines.specs.declared.parts.Part.{Part}
use Rattle.cert_trees.specs.Ranges.{IsChoice}
use Rattle.cert_meaning.specs.Named.{Named, no_row}
use Rattle.cert_meaning.specs.Parts.{AreParts, IsPart, rows_of, times_of}

-- what holds of each row of a list holds of the one at a place
pub hold_at : (q : LinPoint) (rows : List LinRow) (k : ℕ) → k < length rows → AllHold q rows → HoldsAt q (slice_index_or rows k no_row)
hold_at q [] k less hold = absurd (omega (arith, less))
hold_at q (r ∷ rows) zero less hold = hold.0
hold_at q (r ∷ rows) (suc k) less hold = hold_at q rows k (omega (arith, less)) hold.1

pub columns_at : (m : Problem) (rows : List LinRow) (k : ℕ) → k < length rows → AreOfProblem m rows → All (λ a. IsColumn m a.column) (slice_index_or rows k no_row).terms
columns_at m [] k less are = absurd (omega (arith, less))
columns_at m (r ∷ rows) zero less are = are.0
columns_at m (r ∷ rows) (suc k) less are = columns_at m rows k (omega (arith, less)) are.1

-- one row more
pub hold_push : (q : LinPoint) (rows : List LinRow) (r : LinRow) → AllHold q rows → HoldsAt q r → AllHold q (rows ++ (r ∷ []))
hold_push q [] r hold is = (is, tt)
hold_push q (a ∷ rows) r hold is = (hold.0, hold_push q rows r hold.1 is)

pub of_push : (m : Problem) (rows : List LinRow) (r : LinRow) → AreOfProblem m rows → All (λ a. IsColumn m a.column) r.terms → AreOfProblem m (rows ++ (r ∷ []))
of_push m [] r are is = (is, tt)
of_push m (a ∷ rows) r are is = (are.0, of_push m rows r are.1 is)

-- rows of parts are taken only as often as they may
pub parts_signed : (n : Named) (parts : List Part) → AreParts n parts → AreSigned (rows_of n parts) (times_of parts)
parts_signed n [] has = tt
parts_signed n (a ∷ parts) has = ((All-head (IsPart n) a parts has).signed, parts_signed n parts (All-tail (IsPart n) a parts has))

-- ---- the row of a bound
-- a quantity or a setup is a column
choice_column : (m : Problem) (c : Column) → IsChoice m c → IsColumn m c
choice_column m (X i t) is = is
choice_column m (Y i t) is = is
choice_column m (S i t) is = absurd is
choice_column m (R i t) is = absurd is

pub bound_columns : (m : Problem) (b : Bound) → IsChoice m b.column → All (λ a. IsColumn m a.column) (bound_row b).terms
bound_columns m b is = All-cons (λ a. IsColumn m a.column) _ [] (choice_column m b.column is) (All-nil (λ a. IsColumn m a.column))

-- ---- the columns of a rounding row
-- a column that terms take is one of the problem
pub taken_or_none : (m : Problem) (ts : List Term) (c : Column) → All (λ a. IsColumn m a.column) ts → IsColumn m c ⊎ (coefficient ts c ≡ pos 0)
taken_or_none m [] c each = inr refl
taken_or_none m (a ∷ ts) c each =
    let P = λ (b : Term). IsColumn m b.column in
    ⊎_elim
    (λ same. inl (subst (IsColumn m) (one_by_parts a.column c same) (All-head P a ts each)))
    (λ apart. ⊎_elim
    (λ is. inl is)
    (λ none. inr (ap (λ b. (if b then a.times else pos 0) +ℤ coefficient ts c) apart ∙ zero_add (coefficient ts c) ∙ none))
    (taken_or_none m ts c (All-tail P a ts each)))
    (cases_Bool (same_column a.column c))

-- and so is one that a sum of rows takes
pub summed_or_none : (m : Problem) (rows : List LinRow) (times : List ℤ) (c : Column) → AreOfProblem m rows → IsColumn m c ⊎ (column_sum rows times c ≡ pos 0)
summed_or_none m [] times c each = inr refl
summed_or_none m (r ∷ rows) [] c each = inr refl
summed_or_none m (r ∷ rows) (z ∷ times) c each =
    ⊎_elim
    (λ is. inl is)
    (λ none. ⊎_elim
    (λ is. inl is)
    (λ rest. inr (ap (λ y. z *ℤ y +ℤ column_sum rows times c) none ∙ ap (λ y. y +ℤ column_sum rows times c) (mul_zero z) ∙ zero_add (column_sum rows times c) ∙ rest))
    (summed_or_none m rows times c each.1))
    (taken_or_none m r.terms c each.0)

-- nothing divided is nothing
ceiling_none : (q : ℕ) (z : ℤ) → 1 ≤ q → IsCeiling q (pos 0) z → z ≡ pos 0
ceiling_none q z some is =
    let pos_q : pos 0 <ℤ pos q = omega (arith, linear, some) in
    let low : pos 0 ≤ℤ z = cancel_le (pos q) (pos 0) z pos_q (omega (arith, linear, is.above, mul_zero (pos q))) in
    let high : z <ℤ pos 1 = cancel_lt (pos q) z (pos 1) pos_q (omega (arith, linear, is.least, mul_one (pos q), zero_add (pos q))) in
    le_antisym z (pos 0) (omega (arith, linear, high)) low

-- no term is 0 times its column
times_some : (ts : List Term) (low k : ℕ) (d : Term) → AreTerms low ts → k < length ts → (slice_index_or ts k d).times ≢ pos 0
times_some [] low k d are less = absurd (omega (arith, less))
times_some (a ∷ ts) low zero d are less = are.1
times_some (a ∷ ts) low (suc k) d are less = times_some ts (order_of a.column + 1) k d are.2 (omega (arith, less))

pub rounded_columns : (m : Problem) (rows : List LinRow) (times : List ℤ) (q : ℕ) (r : LinRow) → 1 ≤ q → AreOfProblem m rows → IsRounded rows times q r → All (λ a. IsColumn m a.column) r.terms
rounded_columns m rows times q r some are is k d less =
    let a = slice_index_or r.terms k d in
    let own : coefficient r.terms a.column ≡ a.times = own_coefficient r.terms 0 k a is.terms less (get_or_default r.terms k d a less) in
    ⊎_elim
    (λ has. has)
    (λ rest.
    let none : coefficient r.terms a.column ≡ pos 0 = ceiling_none q (coefficient r.terms a.column) some (subst (λ y. IsCeiling q y (coefficient r.terms a.column)) rest (is.columns a.column)) in
    absurd (times_some r.terms 0 k d is.terms less (sym own ∙ none)))
    (summed_or_none m rows times a.column are)
