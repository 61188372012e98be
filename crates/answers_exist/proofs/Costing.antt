-- A list with the cost of each column, by the columns' numbers.
use Rattle.std.proofs.Common.{◌≡◌, ◌≤◌, ◌<◌, ◌+◌, ◌-◌, ◌*◌, ◌∙◌, ⊎_elim, ℕ, zero, suc, refl, sym, ap, subst, arith, List, [], ◌++◌, length, slice_index_or}
use Rattle.std.proofs.lemmas.Bool.{cases_eq}
use Rattle.std.proofs.lemmas.List.{get_or_append_left, get_or-append-add, length-append}
use Rattle.std.specs.Prelude.{if◌then◌else◌}
use Rattle.lot_sizing.specs.Sums.{sum_to}
use Rattle.lot_sizing.specs.Problem.{Problem, item_count, backlog_cost, hold_cost, setup_cost, unit_cost}
use Rattle.lot_sizing.proofs.Sums.{sum_to-front, sum_to_at, sum_to-same, sum_to-times}
use Rattle.lin_rows.specs.declared.column.Column.{Column}
use Rattle.lin_rows.specs.declared.column.Column.TheVariants.{X, Y, S, R}
use Rattle.lin_rows.specs.Columns.{IsCell, IsColumn, cell_count, cell_number, column_cost, number_of, owes, owing_count}
use Rattle.lin_rows.proofs.Ranks.{cell_in}
use Rattle.lp_relaxation.specs.Costs.{AreCosts}
use Rattle.answers_exist.proofs.Listing.{list_is, list_of, list_size}

-- ---- lists by their places
-- the first n blocks, block i of the entries f i 1, .., f i (w i)
blocks : ℕ → (ℕ → ℕ) → (ℕ → ℕ → ℕ) → List ℕ
blocks zero w f = []
blocks (suc n) w f = blocks n w f ++ list_of ℕ 0 (f (suc n)) (w (suc n))

block_count : (n : ℕ) (w : ℕ → ℕ) (f : ℕ → ℕ → ℕ) → length (blocks n w f) ≡ sum_to n w
unfolding blocks
block_count zero w f = refl
block_count (suc n) w f = omega (arith, length-append (blocks n w f) (list_of ℕ 0 (f (suc n)) (w (suc n))), block_count n w f, list_size ℕ 0 (f (suc n)) (w (suc n)))

-- after another list
after : (xs ys : List ℕ) (n k : ℕ) → length xs ≡ n → slice_index_or (xs ++ ys) (n + k) 0 ≡ slice_index_or ys k 0
after xs ys n k is = subst (λ j. slice_index_or (xs ++ ys) (j + k) 0 ≡ slice_index_or ys k 0) is (get_or-append-add xs ys k 0)

block_is : (n i t : ℕ) (w : ℕ → ℕ) (f : ℕ → ℕ → ℕ) → 1 ≤ i → i ≤ n → 1 ≤ t → t ≤ w i → slice_index_or (blocks n w f) (sum_to (i - 1) w + (t - 1)) 0 ≡ f i t
unfolding blocks
block_is zero i t w f low high t_low t_high = absurd (omega (arith, low, high))
block_is (suc n) i t w f low high t_low t_high =
    ⊎_elim
    (λ last.
    let is : i - 1 ≡ n = omega (arith, last) in
    let fits : t ≤ w (suc n) = subst (λ j. t ≤ w j) last t_high in
    ap (λ j. slice_index_or (blocks n w f ++ list_of ℕ 0 (f (suc n)) (w (suc n))) (sum_to j w + (t - 1)) 0) is
    ∙ after (blocks n w f) (list_of ℕ 0 (f (suc n)) (w (suc n))) (sum_to n w) (t - 1) (block_count n w f)
    ∙ list_is ℕ 0 (f (suc n)) (w (suc n)) t t_low fits ∙ ap (λ j. f j t) (sym last))
    (λ other.
    let before : i ≤ n = omega (arith, high, other) in
    get_or_append_left (blocks n w f) (list_of ℕ 0 (f (suc n)) (w (suc n))) 0 (sum_to (i - 1) w + (t - 1)) (omega (arith, block_count n w f, sum_to_at i w low, sum_to-front i n w before, t_low, t_high))
    ∙ block_is n i t w f low before t_low t_high)
    (cases_eq i (suc n))

-- blocks of one size
same_sums : (n c : ℕ) → sum_to n (λ i. c) ≡ n * c
same_sums zero c = omega arith
same_sums (suc n) c = omega (arith, same_sums n c)

-- ---- the columns of a problem
module _ (m : Problem) where
  pub cells : (ℕ → ℕ → ℕ) → List ℕ
  cells f = blocks (item_count m) (λ i. m.periods) f

  owed : ℕ → ℕ
  owed i = owes m i * (m.periods - 1)

  owings : List ℕ
  owings = blocks (item_count m) owed (backlog_cost m)

  pub costs : List ℕ
  costs = cells (unit_cost m) ++ (cells (setup_cost m) ++ (cells (hold_cost m) ++ owings))

  cells_count : (f : ℕ → ℕ → ℕ) → length (cells f) ≡ cell_count m
  unfolding cells
  cells_count f = block_count (item_count m) (λ i. m.periods) f ∙ same_sums (item_count m) m.periods

  owed_sum : (n : ℕ) → sum_to n owed ≡ owing_count m n
  unfolding owed
  owed_sum n = sum_to-same n owed (λ i. (m.periods - 1) * owes m i) (λ i low high. turned (owes m i) (m.periods - 1)) ∙ sum_to-times n (m.periods - 1) (owes m) ∙ turned (m.periods - 1) (sum_to n (owes m))
    where
      turned : (a b : ℕ) → a * b ≡ b * a
      turned a b = omega arith

  pub cell_at : (f : ℕ → ℕ → ℕ) (i t : ℕ) → IsCell m i t → slice_index_or (cells f) (cell_number m i t - 1) 0 ≡ f i t
  unfolding cells
  cell_at f i t is =
      ap (λ k. slice_index_or (blocks (item_count m) (λ j. m.periods) f) k 0) place
      ∙ block_is (item_count m) i t (λ j. m.periods) f is.0 is.1 is.2 is.3
    where
      place : cell_number m i t - 1 ≡ sum_to (i - 1) (λ j. m.periods) + (t - 1)
      place = omega (arith, same_sums (i - 1) m.periods, is.2)

  -- within the first list, or after it
  here : (xs ys : List ℕ) (k : ℕ) → k < length xs → slice_index_or (xs ++ ys) k 0 ≡ slice_index_or xs k 0
  here xs ys k less = get_or_append_left xs ys 0 k less

  past : (xs ys : List ℕ) (k n j : ℕ) → length xs ≡ n → k ≡ n + j → slice_index_or (xs ++ ys) k 0 ≡ slice_index_or ys j 0
  past xs ys k n j size is = ap (λ q. slice_index_or (xs ++ ys) q 0) is ∙ after xs ys n j size

  each : (c : Column) → IsColumn m c → slice_index_or costs (number_of m c - 1) 0 ≡ column_cost m c
  unfolding costs owings owed
  each (X i t) is =
      let at = cell_in m i t is in
      here (cells (unit_cost m)) _ (cell_number m i t - 1) (omega (arith, at, cells_count (unit_cost m))) ∙ cell_at (unit_cost m) i t is
  each (Y i t) is =
      let at = cell_in m i t is in
      past (cells (unit_cost m)) _ _ (cell_count m) (cell_number m i t - 1) (cells_count (unit_cost m)) (omega (arith, at))
      ∙ here (cells (setup_cost m)) _ (cell_number m i t - 1) (omega (arith, at, cells_count (setup_cost m))) ∙ cell_at (setup_cost m) i t is
  each (S i t) is =
      let at = cell_in m i t is in
      past (cells (unit_cost m)) _ _ (cell_count m) (cell_count m + (cell_number m i t - 1)) (cells_count (unit_cost m)) (omega (arith, at))
      ∙ past (cells (setup_cost m)) _ _ (cell_count m) (cell_number m i t - 1) (cells_count (setup_cost m)) refl
      ∙ here (cells (hold_cost m)) _ (cell_number m i t - 1) (omega (arith, at, cells_count (hold_cost m))) ∙ cell_at (hold_cost m) i t is
  each (R i t) is =
      let n = owing_count m (i - 1) + (t - 1) in
      past (cells (unit_cost m)) _ _ (cell_count m) (cell_count m + (cell_count m + n)) (cells_count (unit_cost m)) (omega (arith, is.0.2))
      ∙ past (cells (setup_cost m)) _ _ (cell_count m) (cell_count m + n) (cells_count (setup_cost m)) refl
      ∙ past (cells (hold_cost m)) _ _ (cell_count m) n (cells_count (hold_cost m)) refl
      ∙ ap (λ q. slice_index_or owings (q + (t - 1)) 0) (sym (owed_sum (i - 1)))
      ∙ block_is (item_count m) i t owed (backlog_cost m) is.0.0 is.0.1 is.0.2 (within i t is)
    where
      within : (i t : ℕ) → IsColumn m (R i t) → t ≤ owed i
      within i t is = let one : owes m i ≡ 1 = ap (λ b. if b then 1 else 0) is.2 in subst (λ k. t ≤ k * (m.periods - 1)) (sym one) (omega (arith, is.1))

  pub are_costs : AreCosts m costs
  unfolding costs owings
  are_costs = record {
    size = omega (
      arith,
      length-append (cells (unit_cost m)) (cells (setup_cost m) ++ (cells (hold_cost m) ++ owings)),
      length-append (cells (setup_cost m)) (cells (hold_cost m) ++ owings),
      length-append (cells (hold_cost m)) owings,
      cells_count (unit_cost m),
      cells_count (setup_cost m),
      cells_count (hold_cost m),
      block_count (item_count m) owed (backlog_cost m),
      owed_sum (item_count m),
    );
    each = each;
  }
