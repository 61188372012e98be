-- Sums of parts, part by part.
use Rattle.std.proofs.Common.{◌≡◌, ◌≤◌, ◌<◌, ◌+◌, ◌^◌, ◌∙◌, ⊎_elim, ℕ, zero, suc, refl, sym, ap, subst, arith, List, [], ◌∷◌, ◌++◌, length, take, slice_index_or}
use Rattle.std.specs.Prelude.{ℤ, ◌+ℤ◌, ◌*ℤ◌, unsigned_abs, Result, Ok, Err, IfOk}
use Rattle.std.specs.List.{All}
use Rattle.std.proofs.lemmas.List.{take_more}
use Rattle.std.proofs.lemmas.List.Elements.{All-cons, All-nil}
use Rattle.algebra.proofs.Integers.{add_assoc, add_zero, zero_add}
use Rattle.lot_sizing.specs.Problem.{Problem}
use Rattle.lin_rows.specs.declared.bound.Bound.{Bound}
use Rattle.lin_rows.specs.declared.column.Column.{Column}
use Rattle.lin_rows.specs.declared.column.Column.TheVariants.{X, Y, S, R}
use Rattle.lin_rows.specs.declared.total.Total.{Total}
use Rattle.lin_rows.specs.declared.base.RowName.{RowName}
use Rattle.lin_rows.specs.declared.base.RowName.TheVariants.{Balance, Link, Capacity, EndMin, EndMax, Top, Least, Late, Path, Cut}
use Rattle.lin_rows.specs.Base.{row_of}
use Rattle.lin_rows.specs.Bounds.{bound_row}
use Rattle.lin_rows.specs.Columns.{IsColumn}
use Rattle.lin_rows.specs.Combining.{AreOfProblem, sum_of}
use Rattle.lin_rows.specs.Rows.{LinRow}
use Rattle.lin_rows.specs.Sums.{PassesWith, Summed, coefficient, no_total, total_of, with_more}
use Rattle.round_cuts.specs.Rounding.{amount_of}
use Rattle.cert_lines.specs.declared.parts.Part.{Part}
use Rattle.cert_trees.specs.Ranges.{IsChoice}
use Rattle.cert_meaning.specs.Named.{Named, names, no_row, row_named}
use Rattle.cert_meaning.specs.Parts.{AreSmall, rows_of, times_of}
use Rattle.cert_checker.specs.Named.{AddsPart, AddsWithin, AreSumsOf, PassesPart, total_of_parts}

-- the multiple of a number that a part takes
taken : Named → (LinRow → ℤ) → Part → ℤ
taken n f part = part.times *ℤ f (row_named n part.row)

abbrev total : ℤ → ℕ → Total
total sum amount = record { sum = sum; amount = amount }

-- ---- one more part
sum_more : (n : Named) (f : LinRow → ℤ) (parts : List Part) (p : Part) → sum_of (rows_of n (parts ++ (p ∷ []))) (times_of (parts ++ (p ∷ []))) f ≡ sum_of (rows_of n parts) (times_of parts) f +ℤ taken n f p
unfolding taken
sum_more n f [] p = add_zero (taken n f p) ∙ sym (zero_add (taken n f p))
sum_more n f (q ∷ parts) p = ap (λ x. taken n f q +ℤ x) (sum_more n f parts p) ∙ sym (add_assoc (taken n f q) (sum_of (rows_of n parts) (times_of parts) f) (taken n f p))

amount_more : (n : Named) (f : LinRow → ℤ) (parts : List Part) (p : Part) → amount_of (rows_of n (parts ++ (p ∷ []))) (times_of (parts ++ (p ∷ []))) f ≡ amount_of (rows_of n parts) (times_of parts) f + unsigned_abs (taken n f p)
unfolding taken
amount_more n f [] p = omega arith
amount_more n f (q ∷ parts) p = omega (arith, amount_more n f parts p)

total_more : (n : Named) (f : LinRow → ℤ) (parts : List Part) (p : Part) → total_of_parts n (parts ++ (p ∷ [])) f ≡ with_more (total_of_parts n parts f) (taken n f p)
total_more n f parts p =
    ap (λ s. total s (amount_of (rows_of n (parts ++ (p ∷ []))) (times_of (parts ++ (p ∷ []))) f)) (sum_more n f parts p)
    ∙ ap (λ a. total (sum_of (rows_of n parts) (times_of parts) f +ℤ taken n f p) a) (amount_more n f parts p)

total_next : (n : Named) (f : LinRow → ℤ) (parts : List Part) (k : ℕ) (d : Part) → k < length parts → total_of_parts n (take (k + 1) parts) f ≡ with_more (total_of_parts n (take k parts) f) (taken n f (slice_index_or parts k d))
total_next n f parts k d less = ap (λ ps. total_of_parts n ps f) (take_more parts k d less) ∙ total_more n f (take k parts) (slice_index_or parts k d)

-- the first parts have no greater amounts
front : (n : Named) (f : LinRow → ℤ) (parts : List Part) (k : ℕ) → amount_of (rows_of n (take k parts)) (times_of (take k parts)) f ≤ amount_of (rows_of n parts) (times_of parts) f
front n f parts zero = omega arith
front n f [] (suc k) = omega arith
front n f (p ∷ parts) (suc k) = omega (arith, front n f parts k)

abbrev column_number : Column → LinRow → ℤ
column_number c r = coefficient r.terms c

abbrev right_number : LinRow → ℤ
right_number r = r.right

-- ---- sums of the first parts
pub none_yet : (n : Named) (s : Summed) → ((c : Column) → total_of s c ≡ no_total) → s.right ≡ no_total → AreSumsOf n [] s
none_yet n s columns right = record { columns = columns; right = right }

pub small_yet : (n : Named) → AreSmall n []
small_yet n = record { columns = λ c. omega arith; right = omega arith }

module _ (n : Named) (parts : List Part) (k : ℕ) (d : Part) (old : Summed) (less : k < length parts) (so_far : AreSumsOf n (take k parts) old) where
  columns_next : (c : Column) → with_more (total_of old c) (taken n (column_number c) (slice_index_or parts k d)) ≡ total_of_parts n (take (k + 1) parts) (column_number c)
  columns_next c = ap (λ t. with_more t (taken n (column_number c) (slice_index_or parts k d))) (so_far.columns c) ∙ sym (total_next n (column_number c) parts k d less)

  right_next : with_more old.right (taken n right_number (slice_index_or parts k d)) ≡ total_of_parts n (take (k + 1) parts) right_number
  right_next = ap (λ t. with_more t (taken n right_number (slice_index_or parts k d))) so_far.right ∙ sym (total_next n right_number parts k d less)

  pub sums_next : (new : Summed) → AddsPart old new (slice_index_or parts k d) n → AreSumsOf n (take (k + 1) parts) new
  unfolding taken
  sums_next new added = record {
    columns = λ c. added.adds.terms c ∙ columns_next c;
    right = added.adds.right ∙ right_next;
  }

  pub small_next : (new : Summed) → AddsPart old new (slice_index_or parts k d) n → AreSmall n (take (k + 1) parts)
  unfolding taken
  small_next new added = record {
    columns = λ c. subst (λ t. t.amount < 2 ^ 127) (columns_next c) (added.room.columns c);
    right = subst (λ t. t.amount < 2 ^ 127) right_next added.room.right;
  }

  -- where a part has no room, the whole isn't small
  pub not_small : PassesPart old (slice_index_or parts k d) n → AreSmall n parts → ⊥
  unfolding taken
  not_small passes small =
      ⊎_elim
      (λ at. let c = at.0 in at.1 (omega (arith, ap (λ t. t.amount) (columns_next c), front n (column_number c) parts (k + 1), small.columns c)))
      (λ at. at (omega (arith, ap (λ t. t.amount) right_next, front n right_number parts (k + 1), small.right)))
      passes

-- ---- the rows that are added
-- the row of a name that isn't that of a cut or a bound
pub base_named : (m : Problem) (total : ℕ → ℕ) (cuts : List LinRow) (path : List Bound) (name : RowName) → ((k : ℕ) → name ≡ Path k → ⊥) → ((k : ℕ) → name ≡ Cut k → ⊥) → row_of m total name ≡ row_named (names m total cuts path) name
base_named m total cuts path (Balance i t) no_path no_cut = refl
base_named m total cuts path (Link i t) no_path no_cut = refl
base_named m total cuts path (Capacity k t) no_path no_cut = refl
base_named m total cuts path (EndMin i) no_path no_cut = refl
base_named m total cuts path (EndMax i) no_path no_cut = refl
base_named m total cuts path (Top i t) no_path no_cut = refl
base_named m total cuts path (Least i t) no_path no_cut = refl
base_named m total cuts path (Late i t) no_path no_cut = refl
base_named m total cuts path (Path k) no_path no_cut = absurd (no_path k refl)
base_named m total cuts path (Cut k) no_path no_cut = absurd (no_cut k refl)

pub if_ok : {T F : Type 0} (r : Result T F) (A B : Type 0) → (A → B) → IfOk r (λ _. A) → IfOk r (λ _. B)
if_ok (Ok x) A B f a = f a
if_ok (Err e) A B f a = tt

pub adds_same : (old new : Summed) (row other : LinRow) (times also : ℤ) → row ≡ other → times ≡ also → AddsWithin old new row times → AddsWithin old new other also
adds_same old new row other times also a b adds = subst (AddsWithin old new other) b (subst (λ r. AddsWithin old new r times) a adds)

pub passes_same : (old new : Summed) (row other : LinRow) (times also : ℤ) → old ≡ new → row ≡ other → times ≡ also → PassesWith old row times → PassesWith new other also
passes_same old new row other times also a b e passes = subst (PassesWith new other) e (subst (λ r. PassesWith new r times) b (subst (λ s. PassesWith s row times) a passes))
