-- Rows of what must have been started, filled item by item.
use Rattle.std.proofs.Common.{◌≡◌, ◌≢◌, ◌≤◌, ◌<◌, ◌+◌, ◌-◌, ◌*◌, ◌∙◌, ⊎_elim, inl, inr, ℕ, zero, suc, refl, sym, ap, subst, arith, List, [], ◌∷◌, ◌++◌, length, slice_index_or, replicate}
use Rattle.std.specs.Prelude.{slice_set, min}
use Rattle.std.proofs.lemmas.Bool.{cases_eq, cases_lt}
use Rattle.std.proofs.lemmas.List.{length-set, length_push, length-replicate, get_or-replicate, get_or-set_same, get_or-set_other, get_or_push, get_or_append_left}
use Rattle.lot_sizing.specs.Sums.{sum_to}
use Rattle.lot_sizing.specs.Problem.{Problem, item_at, item_count, per_unit}
use Rattle.lot_sizing.specs.Net.{asked_of, asked_to}
use Rattle.lot_sizing.specs.Plan.{Table}
use Rattle.lot_sizing.specs.Totals.{AreLargestTotals, IsRanking}
use Rattle.lot_sizing.specs.declared.limits.TheConstants.{MAX_AMOUNT, MAX_TOTAL}
use Rattle.lot_sizing.proofs.Sums.{sum_to-front, sum_to_at, sum_to_more}
use Rattle.lot_model.specs.Views.{IsInstance}
use Rattle.must_start.specs.MustStart.{greatest_to, must_arrive_in_time, taken_by_others}
use Rattle.must_start.specs.Rows.{IsMustStartOf, row_in, start_in}
use Rattle.must_start.specs.Steps.{HasEachTo, IsBefore, IsFilledTo, IsTable, row_at}
use Rattle.must_start.proofs.Greatest.{greatest_same, min_right}
use Rattle.must_start.proofs.Starts.{arrival_same, asked_within, greatest_within}

-- a list takes the number of the next period
pub each_more : (n k x : ℕ) (f : ℕ → ℕ) (xs : List ℕ) → k ≡ n + 1 → HasEachTo n f xs → x ≡ f k → HasEachTo k f (xs ++ x ∷ [])
each_more n k x f xs next has is = record {
  size = omega (arith, length_push xs x, has.size, next);
  each = λ t high. ⊎_elim
      (λ before. get_or_append_left xs (x ∷ []) 0 t (omega (arith, before, has.size, next)) ∙ has.each t (omega (arith, before, next)))
      (λ no. let e : t ≡ k = omega (arith, no, high) in get_or_push xs x 0 t (omega (arith, e, has.size, next)) ∙ is ∙ ap f (sym e))
      (cases_lt t k);
}

pub each_first : (x : ℕ) (f : ℕ → ℕ) (xs : List ℕ) → xs ≡ [] → x ≡ f 0 → HasEachTo 0 f (xs ++ x ∷ [])
each_first x f xs none is = record {
  size = omega (arith, length_push xs x, ap length none);
  each = λ t high. let e : t ≡ 0 = omega (arith, high) in get_or_push xs x 0 t (omega (arith, e, ap length none)) ∙ is ∙ ap f (sym e);
}

-- the rows after one is put in place
put_here : (rows : List (List ℕ)) (row : List ℕ) (i j : ℕ) → i ≡ j → 1 ≤ j → j ≤ length rows → row_in (slice_set rows (j - 1) row) i ≡ row
put_here rows row i j same low high = ap (λ k. row_in (slice_set rows (j - 1) row) k) same ∙ get_or-set_same rows (j - 1) row [] (omega (arith, low, high))

put_else : (rows : List (List ℕ)) (row : List ℕ) (i j : ℕ) → i ≢ j → 1 ≤ i → 1 ≤ j → row_in (slice_set rows (j - 1) row) i ≡ row_in rows i
put_else rows row i j other i_low low = get_or-set_other rows (j - 1) (i - 1) row [] (λ same. other (omega (arith, same, i_low, low)))

start_else : (rows : List (List ℕ)) (row : List ℕ) (i j t : ℕ) → i ≢ j → 1 ≤ i → 1 ≤ j → start_in (slice_set rows (j - 1) row) i t ≡ start_in rows i t
start_else rows row i j t other i_low low = ap (λ r. slice_index_or r t 0) (put_else rows row i j other i_low low)

-- a row goes by the rows of the items that it goes into alone
row_same : (m : Problem) (a b : Table) (i t : ℕ) → ((j u : ℕ) → 1 ≤ j → j ≤ item_count m → 0 < per_unit m i j → a j u ≡ b j u) → row_at m a i t ≡ row_at m b i t
row_same m a b i zero same = refl
row_same m a b i (suc t) same =
    greatest_same (min (suc t + (item_at m i).lead) m.periods) (must_arrive_in_time m a i) (must_arrive_in_time m b i) (λ u low high. arrival_same m a b i u (λ j j_low j_high goes. same j u j_low j_high goes))

row_within : (m : Problem) (total : ℕ → ℕ) (start : Table) (i t : ℕ) → IsInstance m → AreLargestTotals m total → 1 ≤ i → i ≤ item_count m → ((j u : ℕ) → 1 ≤ j → j ≤ item_count m → u ≤ m.periods → start j u ≤ total j) → row_at m start i t ≤ total i
row_within m total start i zero is totals low high within = omega arith
row_within m total start i (suc t) is totals low high within =
    greatest_within m total start i (min (suc t + (item_at m i).lead) m.periods) totals (is.limits.each_item i low high).ends low high (min_right (suc t + (item_at m i).lead) m.periods) (λ j u j_low j_high goes u_low u_high. within j u j_low j_high u_high)

row_some : (m : Problem) (start : Table) (i t : ℕ) → 1 ≤ t → row_at m start i t ≡ greatest_to (min (t + (item_at m i).lead) m.periods) (must_arrive_in_time m start i)
row_some m start i zero h = absurd (omega (arith, h))
row_some m start i (suc t) h = refl

pub row_next : (m : Problem) (start : Table) (i t : ℕ) → 1 ≤ t → greatest_to (min (t + (item_at m i).lead) m.periods) (must_arrive_in_time m start i) ≡ row_at m start i (t + 1 - 1)
row_next m start i t low = let e : t ≡ t + 1 - 1 = omega arith in sym (row_some m start i t low) ∙ ap (row_at m start i) e

-- before the first place nothing has to be right
pub filled_none : (m : Problem) (rank : ℕ → ℕ) (rows : List (List ℕ)) → IsTable m rows → IsFilledTo m rank 0 1 rows
filled_none m rank rows table = record {
  table = table;
  each = λ i low high before t t_high. absurd (⊎_elim (λ less. omega (arith, less)) (λ same. omega (arith, same.1, low)) before);
}

-- an item of another rank is passed over
not_last : (rank : ℕ → ℕ) (b i j : ℕ) → rank j ≢ b → rank i ≡ b → i < j + 1 → i < j
not_last rank b i j other same less = ⊎_elim (λ e. absurd (other (ap rank (sym e) ∙ same))) (λ no. omega (arith, no, less)) (cases_eq i j)

pub filled_pass : (m : Problem) (rank : ℕ → ℕ) (b j : ℕ) (rows : List (List ℕ)) → rank j ≢ b → IsFilledTo m rank b j rows → IsFilledTo m rank b (j + 1) rows
filled_pass m rank b j rows other is = record {
  table = is.table;
  each = λ i low high before. is.each i low high (⊎_elim (λ less. inl less) (λ same. inr (same.0, not_last rank b i j other same.0 same.1)) before);
}

-- after the last item comes the next rank
pub filled_next : (m : Problem) (rank : ℕ → ℕ) (b : ℕ) (rows : List (List ℕ)) → IsFilledTo m rank b (item_count m + 1) rows → IsFilledTo m rank (b + 1) 1 rows
filled_next m rank b rows is = record {
  table = is.table;
  each = λ i low high before. is.each i low high (⊎_elim
      (λ less. ⊎_elim (λ earlier. inl earlier) (λ late. inr (omega (arith, late, less), omega (arith, high))) (cases_lt (rank i) b))
      (λ same. absurd (omega (arith, same.1, low)))
      before);
}

-- an item is filled after all that it goes into
pub filled_more : (m : Problem) (rank : ℕ → ℕ) (j : ℕ) (rows : List (List ℕ)) (row : List ℕ) → IsInstance m → IsRanking m rank → 1 ≤ j → j ≤ item_count m → IsFilledTo m rank (rank j) j rows → HasEachTo m.periods (row_at m (start_in rows) j) row → IsFilledTo m rank (rank j) (j + 1) (slice_set rows (j - 1) row)
filled_more m rank j rows row is ranks low high before has =
    let new = slice_set rows (j - 1) row in
    let size : j ≤ length rows = omega (arith, high, before.table.size) in
    let here = λ (i : ℕ) (t : ℕ) (same : i ≡ j). ap (λ r. slice_index_or r t 0) (put_here rows row i j same low size) in
    let kept = λ (i : ℕ) (i_low : 1 ≤ i) (i_high : i ≤ item_count m) (early : rank i ≤ rank j) (t : ℕ). row_same m (start_in rows) (start_in new) i t (λ k u k_low k_high goes. sym (start_else rows row k j u (λ same. omega (arith, ap rank same, ranks i k i_low i_high k_low k_high goes, early)) k_low low)) in
    record {
      table = record {
        size = omega (arith, length-set rows (j - 1) row, before.table.size);
        row_sizes = λ i i_low i_high. ⊎_elim
            (λ same. ap length (put_here rows row i j same low size) ∙ has.size)
            (λ other. ap length (put_else rows row i j other i_low low) ∙ before.table.row_sizes i i_low i_high)
            (cases_eq i j);
        within = λ total totals i i_low i_high t t_high. ⊎_elim
            (λ same. omega (arith, here i t same, has.each t t_high, ap total same, row_within m total (start_in rows) j t is totals low high (λ k u k_low k_high u_high. before.table.within total totals k k_low k_high u u_high)))
            (λ other. omega (arith, start_else rows row i j t other i_low low, before.table.within total totals i i_low i_high t t_high))
            (cases_eq i j);
      };
      each = λ i i_low i_high earlier t t_high. ⊎_elim
          (λ same. here i t same ∙ has.each t t_high ∙ kept j low high (omega arith) t ∙ ap (λ k. row_at m (start_in new) k t) (sym same))
          (λ other.
          let place : IsBefore rank i (rank j) j = ⊎_elim (λ less. inl less) (λ at. inr (at.0, omega (arith, at.1, other))) earlier in
          let early : rank i ≤ rank j = ⊎_elim (λ less. omega (arith, less)) (λ at. omega (arith, at.0)) earlier in
          start_else rows row i j t other i_low low ∙ before.each i i_low i_high place t t_high ∙ kept i i_low i_high early t)
          (cases_eq i j);
    }

-- filled rows are what must have been started
filled_all : (m : Problem) (rank : ℕ → ℕ) (rows : List (List ℕ)) → IsInstance m → ((i : ℕ) → rank i ≤ item_count m) → IsFilledTo m rank (item_count m + 1) 1 rows → IsMustStartOf m rows
filled_all m rank rows is small filled =
    let each = λ (i : ℕ) (low : 1 ≤ i) (high : i ≤ item_count m) (t : ℕ) (t_high : t ≤ m.periods). filled.each i low high (inl (omega (arith, small i))) t t_high in
    record {
      size = filled.table.size;
      row_sizes = filled.table.row_sizes;
      starts = record {
        none = λ i low high. each i low high 0 (omega arith);
        each = λ i t low high t_low t_high. each i low high t t_high ∙ row_some m (start_in rows) i t t_low;
      };
      small = λ i t low high t_low t_high.
          let (total, totals, least) = is.totals in
          omega (arith, filled.table.within total totals i low high t t_high, least i);
    }

pub filled_end : (m : Problem) (rank : ℕ → ℕ) (b : ℕ) (rows : List (List ℕ)) → b ≡ item_count m + 1 → IsInstance m → ((i : ℕ) → rank i ≤ item_count m) → IsFilledTo m rank b 1 rows → IsMustStartOf m rows
filled_end m rank b rows all is small filled = filled_all m rank rows is small (subst (λ k. IsFilledTo m rank k 1 rows) all filled)

-- rows of zeros
pub record AreZeros (m : Problem) (n : ℕ) (rows : List (List ℕ)) : Type 0 where
  pub size : length rows ≡ n
  pub each : (i : ℕ) → 1 ≤ i → i ≤ n → row_in rows i ≡ replicate (m.periods + 1) 0

pub zeros_more : (m : Problem) (n : ℕ) (rows : List (List ℕ)) (row : List ℕ) → AreZeros m n rows → row ≡ replicate (m.periods + 1) 0 → AreZeros m (n + 1) (rows ++ row ∷ [])
zeros_more m n rows row are is = record {
  size = omega (arith, length_push rows row, are.size);
  each = λ i low high. ⊎_elim
      (λ before. get_or_append_left rows (row ∷ []) [] (i - 1) (omega (arith, before, low, are.size)) ∙ are.each i low (omega (arith, before)))
      (λ no. get_or_push rows row [] (i - 1) (omega (arith, no, high, are.size)) ∙ is)
      (cases_lt i (n + 1));
}

pub zeros_table : (m : Problem) (rows : List (List ℕ)) → AreZeros m (item_count m) rows → IsTable m rows
zeros_table m rows are = record {
  size = are.size;
  row_sizes = λ i low high. ap length (are.each i low high) ∙ length-replicate (m.periods + 1) 0;
  within = λ total totals i low high t t_high. omega (arith, ap (λ r. slice_index_or r t 0) (are.each i low high), get_or-replicate {A = ℕ} (m.periods + 1) t 0 0 (omega (arith, t_high)));
}

-- what is asked of an item and taken by others is small
pub arrivals_small : (m : Problem) (rows : List (List ℕ)) (i u : ℕ) → IsInstance m → IsTable m rows → 1 ≤ i → i ≤ item_count m → u ≤ m.periods → asked_to (asked_of m i) u + taken_by_others m (start_in rows) i u ≤ MAX_TOTAL + MAX_AMOUNT
arrivals_small m rows i u is table low high u_high =
    let (total, totals, least) = is.totals in
    let item = is.limits.each_item i low high in
    omega (arith, asked_within m total (start_in rows) i u totals item.ends low high u_high (λ j j_low j_high goes. table.within total totals j j_low j_high u u_high), least i, item.opening)

pub taken_small : (m : Problem) (rows : List (List ℕ)) (i u k : ℕ) → IsInstance m → IsTable m rows → 1 ≤ i → i ≤ item_count m → u ≤ m.periods → k ≤ item_count m → sum_to k (λ j. per_unit m i j * start_in rows j u) ≤ MAX_TOTAL + MAX_AMOUNT
taken_small m rows i u k is table low high u_high k_high = omega (arith, arrivals_small m rows i u is table low high u_high, sum_to-front k (item_count m) (λ j. per_unit m i j * start_in rows j u) k_high)

-- a sum of products takes the next one
pub products_next : (f g : ℕ → ℕ) (j units amount sum most : ℕ) → 1 ≤ j → units ≡ f j → amount ≡ g j → sum ≡ sum_to (j - 1) (λ k. f k * g k) → sum_to j (λ k. f k * g k) ≤ most → (units * amount ≤ most) × (sum + units * amount ≤ most) × (sum + units * amount ≡ sum_to (j + 1 - 1) (λ k. f k * g k))
products_next f g j units amount sum most low is_units is_amount so_far small =
    let here : units * amount ≡ f j * g j = ap (λ x. x * amount) is_units ∙ ap (λ x. f j * x) is_amount in
    let at = sum_to_at j (λ k. f k * g k) low in
    let more = sum_to_more j (λ k. f k * g k) low in (omega (arith, here, at, small), omega (arith, here, at, small, so_far), omega (arith, here, more, so_far))
