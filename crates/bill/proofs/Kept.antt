-- Tables of totals and weights with one item set.
use Rattle.std.proofs.Common.{◌≡◌, ◌≤◌, ◌-◌, ◌∙◌, ⊎_elim, ℕ, sym, ap, arith, List, [], length, Bool, true, slice_index_or, slice_set, Vec, Global}
use Rattle.std.proofs.lemmas.List.{get_or-set_same, get_or-set_other, length-set}
use Rattle.std.proofs.lemmas.Bool.{cases_eq}
use Rattle.lot_sizing.specs.Problem.{entry}
use Rattle.lot_sizing.specs.declared.limits.TheConstants.{MAX_TOTAL}
use Rattle.bill.specs.Steps.{AreRows, AreTables}
use Rattle.bill.proofs.Rows.{rows_of, row_at_any, row_count, row_set_here, row_set_other}

pub entry_here : (xs : List ℕ) (i x : ℕ) → 1 ≤ i → i ≤ length xs → entry (slice_set xs (i - 1) x) i ≡ x
entry_here xs i x low high = get_or-set_same xs (i - 1) x 0 (omega (arith, low, high))

pub entry_other : (xs : List ℕ) (i x k : ℕ) → (k - 1 ≡ i - 1 → ⊥) → entry (slice_set xs (i - 1) x) k ≡ entry xs k
entry_other xs i x k apart = get_or-set_other xs (i - 1) (k - 1) x 0 apart

rows_size : (vs : List (Vec ℕ Global)) (i : ℕ) (v : Vec ℕ Global) → length (rows_of (slice_set vs (i - 1) v)) ≡ length (rows_of vs)
rows_size vs i v = row_count (slice_set vs (i - 1) v) ∙ length-set vs (i - 1) v ∙ sym (row_count vs)

-- row k read at any number, 0 included
row_at : (vs : List (Vec ℕ Global)) (i k : ℕ) (v : Vec ℕ Global) → 1 ≤ i → i ≤ length vs → (k - 1 ≡ i - 1 → ⊥) → slice_index_or (rows_of (slice_set vs (i - 1) v)) (k - 1) [] ≡ slice_index_or (rows_of vs) (k - 1) []
row_at vs i k v low high apart =
    ⊎_elim
    (λ zero_k. let e : k - 1 ≡ 1 - 1 = omega (arith, zero_k) in ap (λ n. slice_index_or (rows_of (slice_set vs (i - 1) v)) n []) e ∙ row_set_other vs i 1 v low (omega arith) (λ same. apart (omega (arith, same, zero_k))) ∙ ap (λ n. slice_index_or (rows_of vs) n []) (sym e))
    (λ some. row_set_other vs i k v low (omega (arith, some)) (λ same. apart (omega (arith, same))))
    (cases_eq k 0)

pub tables_kept : (n : ℕ) (done : List Bool) (totals : List ℕ) (vs : List (Vec ℕ Global)) (i x : ℕ) (v : Vec ℕ Global) → AreTables n done totals (rows_of vs) → 1 ≤ i → i ≤ n → x ≤ MAX_TOTAL → AreRows n v.items → AreTables n (slice_set done (i - 1) true) (slice_set totals (i - 1) x) (rows_of (slice_set vs (i - 1) v))
tables_kept n done totals vs i x v are low high small row =
    let count : length vs ≡ n = sym (row_count vs) ∙ are.weights_size in
    record {
      done_size = length-set done (i - 1) true ∙ are.done_size;
      totals_size = length-set totals (i - 1) x ∙ are.totals_size;
      weights_size = rows_size vs i v ∙ are.weights_size;
      row_sizes = λ k k_low k_high. ⊎_elim
          (λ same. ap (λ j. length (slice_index_or (rows_of (slice_set vs (i - 1) v)) (j - 1) [])) same ∙ ap length (row_set_here vs i v low (omega (arith, count, high))) ∙ row.size)
          (λ apart. ap length (row_set_other vs i k v low k_low apart) ∙ are.row_sizes k k_low k_high)
          (cases_eq k i);
      small = λ k. ⊎_elim
          (λ same. omega (arith, ap (λ j. slice_index_or (slice_set totals (i - 1) x) j 0) same, entry_here totals i x low (omega (arith, are.totals_size, high)), small))
          (λ apart. omega (arith, entry_other totals i x k apart, are.small k))
          (cases_eq (k - 1) (i - 1));
      rows_small = λ k j. ⊎_elim
          (λ same. omega (arith, ap (λ y. entry (slice_index_or (rows_of (slice_set vs (i - 1) v)) y []) j) same, ap (λ xs. entry xs j) (row_set_here vs i v low (omega (arith, count, high))), row.small j))
          (λ apart. omega (arith, ap (λ xs. entry xs j) (row_at vs i k v low (omega (arith, count, high)) apart), are.rows_small k j))
          (cases_eq (k - 1) (i - 1));
    }

-- a row with one entry set
pub row_kept : (n : ℕ) (row : List ℕ) (k x : ℕ) → AreRows n row → 1 ≤ k → k ≤ n → x ≤ MAX_TOTAL → AreRows n (slice_set row (k - 1) x)
row_kept n row k x are low high small = record {
  size = length-set row (k - 1) x ∙ are.size;
  small = λ j. ⊎_elim
      (λ same. omega (arith, ap (λ i. slice_index_or (slice_set row (k - 1) x) i 0) same, entry_here row k x low (omega (arith, are.size, high)), small))
      (λ apart. omega (arith, entry_other row k x j apart, are.small j))
      (cases_eq (j - 1) (k - 1));
}

-- the row of an item, taken out
pub spare_kept : (n : ℕ) (done : List Bool) (totals : List ℕ) (vs : List (Vec ℕ Global)) (i : ℕ) (d : Vec ℕ Global) → AreTables n done totals (rows_of vs) → 1 ≤ i → i ≤ n → AreRows n (slice_index_or vs (i - 1) d).items
spare_kept n done totals vs i d are low high =
    let read = row_at_any vs i d low (omega (arith, high, row_count vs, are.weights_size)) in
    record {
      size = ap length read ∙ are.row_sizes i low high;
      small = λ k. omega (arith, ap (λ xs. entry xs k) read, are.rows_small i k);
    }
