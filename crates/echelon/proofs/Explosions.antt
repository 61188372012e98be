-- Rows of weights.
use Rattle.std.proofs.Common.{◌≡◌, ◌≤◌, ◌+◌, ◌-◌, ◌*◌, ◌∙◌, ⊎_elim, ℕ, sym, ap, subst, arith, List, [], ◌∷◌, ◌++◌}
use Rattle.std.proofs.lemmas.Bool.{cases_lt}
use Rattle.std.proofs.lemmas.List.{length_push, get_or_push, get_or_append_left}
use Rattle.lot_sizing.specs.Sums.{sum_to}
use Rattle.lot_sizing.specs.Problem.{Problem, item_count}
use Rattle.lot_sizing.specs.Totals.{IsRanking}
use Rattle.lot_sizing.specs.declared.limits.TheConstants.{MAX_TOTAL}
use Rattle.lot_sizing.specs.Bill.{AreWeights, bill_of, one_if_same}
use Rattle.lot_sizing.proofs.Sums.{sum_to-same}
use Rattle.bill.specs.Laws.{WeightsExist}
use Rattle.bill.specs.Over.{row_entry}
use Rattle.echelon.specs.Weights.{AreRows, AreRowsTo, IsRow}

-- a row takes the weight in the next item
pub row_more : (m : Problem) (i k x : ℕ) (row : List ℕ) → 1 ≤ k → x ≤ MAX_TOTAL → ((weight : ℕ → ℕ → ℕ) → AreWeights (bill_of m) weight → x ≡ weight i k) → IsRow m i (k - 1) row → IsRow m i (k + 1 - 1) (row ++ x ∷ [])
row_more m i k x row low small is r = record {
  size = omega (arith, length_push row x, r.size, low);
  small = λ j j_low j_high. ⊎_elim
      (λ before. omega (arith, get_or_append_left row (x ∷ []) 0 (j - 1) (omega (arith, before, j_low, r.size)), r.small j j_low (omega (arith, before))))
      (λ no. omega (arith, get_or_push row x 0 (j - 1) (omega (arith, no, j_high, r.size, low)), small))
      (cases_lt j k);
  each = λ weight w j j_low j_high. ⊎_elim
      (λ before. get_or_append_left row (x ∷ []) 0 (j - 1) (omega (arith, before, j_low, r.size)) ∙ r.each weight w j j_low (omega (arith, before)))
      (λ no. let e : j ≡ k = omega (arith, no, j_high, low) in get_or_push row x 0 (j - 1) (omega (arith, no, j_high, r.size, low)) ∙ is weight w ∙ ap (weight i) (sym e))
      (cases_lt j k);
}

-- the rows take that of the next item
pub rows_more : (m : Problem) (i : ℕ) (rows : List (List ℕ)) (row : List ℕ) → 1 ≤ i → IsRow m i (item_count m) row → AreRowsTo m (i - 1) rows → AreRowsTo m (i + 1 - 1) (rows ++ row ∷ [])
rows_more m i rows row low is r = record {
  size = omega (arith, length_push rows row, r.size, low);
  each = λ j j_low j_high. ⊎_elim
      (λ before. subst (IsRow m j (item_count m)) (sym (get_or_append_left rows (row ∷ []) [] (j - 1) (omega (arith, before, j_low, r.size)))) (r.each j j_low (omega (arith, before))))
      (λ no.
      let e : i ≡ j = omega (arith, no, j_high, low) in
      subst (IsRow m j (item_count m)) (sym (get_or_push rows row [] (j - 1) (omega (arith, no, j_high, r.size, low)))) (subst (λ k. IsRow m k (item_count m) row) e is))
      (cases_lt j i);
}

-- all rows are the weights
pub are_rows : (m : Problem) (rank : ℕ → ℕ) (rows : List (List ℕ)) → WeightsExist → IsRanking m rank → AreRowsTo m (item_count m) rows → AreRows m rows
are_rows m rank rows exist ranks r =
    let b = bill_of m in
    let (w, is) = exist b rank ranks in
    let known : (i k : ℕ) → 1 ≤ i → i ≤ item_count m → 1 ≤ k → k ≤ item_count m → row_entry rows i k ≡ w i k = λ i k low high k_low k_high. (r.each i low high).each w is k k_low k_high in
    record {
      size = r.size;
      row_sizes = λ i low high. (r.each i low high).size;
      weights = λ i k low high k_low k_high.
          let same : sum_to b.items (λ j. b.units i j * w j k) ≡ sum_to b.items (λ j. b.units i j * row_entry rows j k) = sum_to-same b.items (λ j. b.units i j * w j k) (λ j. b.units i j * row_entry rows j k) (λ j j_low j_high. ap (λ x. b.units i j * x) (sym (known j k j_low j_high k_low k_high))) in
          known i k low high k_low k_high ∙ is i k low high k_low k_high ∙ ap (λ x. one_if_same i k + x) same;
      small = λ i k low high k_low k_high. (r.each i low high).small k k_low k_high;
    }
