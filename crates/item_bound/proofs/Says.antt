-- Rows that are each taken once: their sums, and what the leaf that takes them says wherever they stand.
use Rattle.std.proofs.Common.{◌≡◌, ◌≤◌, ◌<◌, ◌+◌, ◌-◌, ◌*◌, ◌^◌, ◌∙◌, ℕ, zero, suc, refl, sym, ap, arith, List, [], ◌∷◌, ◌++◌, append_assoc, length, slice_index_or}
use Rattle.std.specs.Prelude.{ℤ, pos, ◌+ℤ◌, ◌*ℤ◌, ◌≤ℤ◌, unsigned_abs}
use Rattle.std.specs.List.{sum_by}
use Rattle.std.proofs.lemmas.List.{length-append}
use Rattle.std.proofs.lemmas.List.Sums.{sum_by-cons}
use Rattle.std.proofs.lemmas.List.Elements.{All-cons, All-nil}
use Rattle.std.proofs.Math.Seq.{get_or-append_seam}
use Rattle.algebra.proofs.Order.{linear}
use Rattle.lot_sizing.specs.Problem.{Problem}
use Rattle.lin_rows.specs.declared.base.RowName.TheVariants.{Cut}
use Rattle.lin_rows.specs.declared.bound.Bound.{Bound}
use Rattle.lin_rows.specs.declared.column.Column.{Column}
use Rattle.lin_rows.specs.Columns.{column_cost}
use Rattle.lin_rows.specs.Combining.{column_sum, right_sum, sum_of}
use Rattle.lin_rows.specs.Rows.{LinRow}
use Rattle.lin_rows.specs.Sums.{coefficient}
use Rattle.round_cuts.specs.Rounding.{amount_of}
use Rattle.cert_lines.specs.declared.parts.Part.{Part}
use Rattle.cert_lines.specs.Shapes.{CutShape}
use Rattle.cert_meaning.specs.Named.{Named, names, no_row}
use Rattle.cert_meaning.specs.Parts.{AreParts, AreSmall, IsPart, rows_of, times_of}
use Rattle.cert_meaning.specs.Says.{IsLinear}
use Rattle.item_bound.specs.Cuts.{SayAnywhere, once_from}
use Rattle.item_bound.specs.Steps.{AreGoodCuts, IsNatural, IsTakenTo, rights_of, taken_by}

-- ---- the sums
pub once_more : (n m : ℕ) (x y : ℤ) → x ≡ pos n → y ≡ pos m → (pos 1 *ℤ x) +ℤ y ≡ pos (n + m)
once_more n m x y is rest = ap (λ z. (pos 1 *ℤ z) +ℤ y) is ∙ ap (λ z. (pos 1 *ℤ pos n) +ℤ z) rest ∙ ap pos (one_times n m)
  where
    one_times : (n m : ℕ) → 1 * n + m ≡ n + m
    one_times n m = omega arith

pub amount_more : (n : ℕ) (x : ℤ) → x ≡ pos n → unsigned_abs (pos 1 *ℤ x) ≡ n
amount_more n x is = ap (λ z. unsigned_abs (pos 1 *ℤ z)) is ∙ one_times n
  where
    one_times : (n : ℕ) → 1 * n ≡ n
    one_times n = omega arith

-- a number that is at least 0 in each row
abbrev IsCounted : (LinRow → ℤ) → Type 0
IsCounted f = (r : LinRow) → IsNatural r → f r ≡ pos (unsigned_abs (f r))

once_sum : (m : Problem) (f : LinRow → ℤ) → IsCounted f → (cuts : List CutShape) (rows : List LinRow) (k : ℕ) → AreGoodCuts m cuts rows → sum_of rows (times_of (once_from k (length rows))) f ≡ pos (sum_by (λ r. unsigned_abs (f r)) rows)
once_sum m f counts [] [] k good = refl
once_sum m f counts [] (r ∷ rows) k good = absurd good
once_sum m f counts (c ∷ cuts) [] k good = absurd good
once_sum m f counts (c ∷ cuts) (r ∷ rows) k good =
    once_more (unsigned_abs (f r)) (sum_by (λ a. unsigned_abs (f a)) rows) (f r) (sum_of rows (times_of (once_from (suc k) (length rows))) f) (counts r good.0.natural) (once_sum m f counts cuts rows (suc k) good.1)
    ∙ ap pos (sym (sum_by-cons (λ a. unsigned_abs (f a)) r rows))

once_amount : (m : Problem) (f : LinRow → ℤ) → IsCounted f → (cuts : List CutShape) (rows : List LinRow) (k : ℕ) → AreGoodCuts m cuts rows → amount_of rows (times_of (once_from k (length rows))) f ≡ sum_by (λ r. unsigned_abs (f r)) rows
once_amount m f counts [] [] k good = refl
once_amount m f counts [] (r ∷ rows) k good = absurd good
once_amount m f counts (c ∷ cuts) [] k good = absurd good
once_amount m f counts (c ∷ cuts) (r ∷ rows) k good =
    omega (arith, amount_more (unsigned_abs (f r)) (f r) (counts r good.0.natural), once_amount m f counts cuts rows (suc k) good.1, sum_by-cons (λ a. unsigned_abs (f a)) r rows)

-- ---- the parts
are_parts : (n : Named) (k count : ℕ) → 1 ≤ k → k + count ≤ length n.cuts + 1 → AreParts n (once_from k count)
are_parts n k zero low high = All-nil (IsPart n)
are_parts n k (suc count) low high =
    All-cons (IsPart n) (record { row = Cut k; times = pos 1 }) (once_from (suc k) count)
    (record { named = (low, omega (arith, high)); signed = λ _. omega (arith, linear) })
    (are_parts n (suc k) count (omega arith) (omega (arith, high)))

pub pushed_count : (rows : List LinRow) (r : LinRow) → length (rows ++ (r ∷ [])) ≡ suc (length rows)
pushed_count [] r = refl
pushed_count (a ∷ rows) r = ap suc (pushed_count rows r)

-- the rows of the parts are those of the cuts
these_rows : (m : Problem) (total : ℕ → ℕ) (path : List Bound) (before rows after : List LinRow) → rows_of (names m total (before ++ rows ++ after) path) (once_from (suc (length before)) (length rows)) ≡ rows
these_rows m total path before [] after = refl
these_rows m total path before (r ∷ rows) after =
    let all = (before ++ (r ∷ rows)) ++ after in
    let place : suc (length before) - 1 ≡ length before = omega arith in
    let first : slice_index_or all (suc (length before) - 1) no_row ≡ r =
    ap (λ k. slice_index_or all k no_row) place
    ∙ ap (λ list. slice_index_or list (length before) no_row) (append_assoc before (r ∷ rows) after)
    ∙ get_or-append_seam before r (rows ++ after) no_row in
    let later : rows_of (names m total all path) (once_from (suc (suc (length before))) (length rows)) ≡ rows =
    ap (λ k. rows_of (names m total all path) (once_from (suc k) (length rows))) (sym (pushed_count before r))
    ∙ ap (λ cuts. rows_of (names m total (cuts ++ after) path) (once_from (suc (length (before ++ (r ∷ [])))) (length rows))) (sym (append_assoc before (r ∷ []) rows))
    ∙ these_rows m total path (before ++ (r ∷ [])) rows after in
    ap (λ x. x ∷ rows_of (names m total all path) (once_from (suc (suc (length before))) (length rows))) first ∙ ap (λ xs. r ∷ xs) later

-- ---- the leaf
pub at_most_cost : (n cost : ℕ) (x : ℤ) → x ≡ pos n → n ≤ cost → x ≤ℤ (pos 1 *ℤ pos cost)
at_most_cost n cost x is few = omega (arith, linear, is, few)

pub rounded_up : (amount k : ℕ) (x : ℤ) → x ≡ pos amount → x ≤ℤ (pos 1 *ℤ pos k) → amount ≤ k
rounded_up amount k x is most = omega (arith, linear, is, most)

-- rows of cuts that take no column more often than it costs
pub record AreTaken (m : Problem) (n : ℕ) (cuts : List CutShape) (rows : List LinRow) (amount : ℕ) : Type 0 where
  pub good : AreGoodCuts m cuts rows
  pub taken : (c : Column) → IsTakenTo m n (taken_by rows c) c
  pub rights : rights_of rows ≡ amount

module _ (m : Problem) (items : ℕ) (cuts : List CutShape) (rows : List LinRow) (amount : ℕ) (are : AreTaken m items cuts rows amount) (total : ℕ → ℕ) (before after : List LinRow) (path : List Bound) where
  parts : List Part
  parts = once_from (suc (length before)) (length rows)

  named : Named
  named = names m total (before ++ rows ++ after) path

  all_parts : AreParts named parts
  unfolding parts named
  all_parts = are_parts (names m total (before ++ rows ++ after) path) (suc (length before)) (length rows) (omega arith) (omega (arith, length-append (before ++ rows) after, length-append before rows))

  the_rows : rows_of named parts ≡ rows
  unfolding parts named
  the_rows = these_rows m total path before rows after

  in_sum : (f : LinRow → ℤ) → IsCounted f → sum_of (rows_of named parts) (times_of parts) f ≡ pos (sum_by (λ r. unsigned_abs (f r)) rows)
  unfolding parts
  in_sum f counts = ap (λ rs. sum_of rs (times_of parts) f) the_rows ∙ once_sum m f counts cuts rows (suc (length before)) are.good

  in_amount : (f : LinRow → ℤ) → IsCounted f → amount_of (rows_of named parts) (times_of parts) f ≡ sum_by (λ r. unsigned_abs (f r)) rows
  unfolding parts
  in_amount f counts = ap (λ rs. amount_of rs (times_of parts) f) the_rows ∙ once_amount m f counts cuts rows (suc (length before)) are.good

  is_linear : IsLinear named (pos 1) parts amount
  unfolding named
  is_linear =
      let right : right_sum (rows_of named parts) (times_of parts) ≡ pos amount = in_sum (λ r. r.right) (λ r natural. natural.right) ∙ ap pos are.rights in
      record {
        positive = omega (arith, linear);
        parts_exist = all_parts;
        columns = λ c is. at_most_cost (taken_by rows c) (column_cost m c) (column_sum (rows_of named parts) (times_of parts) c) (in_sum (λ r. coefficient r.terms c) (λ r natural. natural.columns c)) (are.taken c).cheap;
        right = record {
          above = at_most_cost amount amount (right_sum (rows_of named parts) (times_of parts)) right (omega arith);
          least = λ k most. rounded_up amount k (right_sum (rows_of named parts) (times_of parts)) right most;
        };
      }

  are_small : amount < 2 ^ 127 → AreSmall named parts
  are_small less = record {
    columns = λ c. omega (arith, in_amount (λ r. coefficient r.terms c) (λ r natural. natural.columns c), (are.taken c).small);
    right = omega (arith, in_amount (λ r. r.right) (λ r natural. natural.right), are.rights, less);
  }

pub say_anywhere : (m : Problem) (items : ℕ) (cuts : List CutShape) (rows : List LinRow) (amount : ℕ) → AreTaken m items cuts rows amount → amount < 2 ^ 127 → SayAnywhere m rows amount
unfolding parts named
say_anywhere m items cuts rows amount are less before after path = (
  λ total totals. is_linear m items cuts rows amount are total before after path,
  λ total totals. are_small m items cuts rows amount are total before after path less,
)
