-- Rows of what is on time, filled item by item.
use Rattle.std.proofs.Common.{◌≡◌, ◌≢◌, ◌≤◌, ◌<◌, ◌+◌, ◌-◌, ◌∙◌, ⊎_elim, inl, inr, ℕ, zero, suc, refl, sym, ap, arith, List, length, slice_index_or}
use Rattle.std.specs.Prelude.{slice_set}
use Rattle.std.proofs.lemmas.Bool.{cases_eq}
use Rattle.std.proofs.lemmas.List.{length-set}
use Rattle.lot_sizing.specs.Problem.{Problem, item_at, item_count, per_unit}
use Rattle.lot_sizing.specs.Net.{asked_of, asked_to}
use Rattle.lot_sizing.specs.Plan.{Table}
use Rattle.lot_sizing.specs.Totals.{AreLargestTotals, IsRanking}
use Rattle.lot_model.specs.Views.{IsInstance}
use Rattle.must_start.specs.MustStart.{must_arrive}
use Rattle.must_start.specs.Rows.{start_in}
use Rattle.must_start.specs.Steps.{HasEachTo, IsBefore, IsTable}
use Rattle.must_start.proofs.Starts.{asked_within}
use Rattle.late_starts.specs.OnTime.{arrival}
use Rattle.late_starts.specs.Rows.{IsOnTimeOf}
use Rattle.late_starts.specs.Steps.{IsFilledTo, IsRightRow, row_at}
use Rattle.late_starts.proofs.Places.{before_all, before_next, before_none, before_pass, put_else, put_here}
use Rattle.late_starts.proofs.Starts.{arrival_high, taken_same}

start_else : (rows : List (List ℕ)) (row : List ℕ) (i j t : ℕ) → i ≢ j → 1 ≤ i → 1 ≤ j → start_in (slice_set rows (j - 1) row) i t ≡ start_in rows i t
start_else rows row i j t other i_low low = ap (λ r. slice_index_or r t 0) (put_else rows row i j other i_low low)

-- a row goes by the rows of the items that it goes into alone
row_same : (m : Problem) (a b : Table) (i t : ℕ) → ((j u : ℕ) → 1 ≤ j → j ≤ item_count m → 0 < per_unit m i j → a j u ≡ b j u) → row_at m a i t ≡ row_at m b i t
row_same m a b i zero same = refl
row_same m a b i (suc t) same =
    let v = arrival m i (suc t) in
    ap (λ taken. (asked_to (asked_of m i) v + taken) - (item_at m i).opening) (taken_same m a b i v (λ j j_low j_high goes. same j v j_low j_high goes))

row_within : (m : Problem) (total : ℕ → ℕ) (start : Table) (i t : ℕ) → IsInstance m → AreLargestTotals m total → 1 ≤ i → i ≤ item_count m → ((j u : ℕ) → 1 ≤ j → j ≤ item_count m → u ≤ m.periods → start j u ≤ total j) → row_at m start i t ≤ total i
row_within m total start i zero is totals low high within = omega arith
row_within m total start i (suc t) is totals low high within =
    let v = arrival m i (suc t) in
    omega (arith, asked_within m total start i v totals (is.limits.each_item i low high).ends low high (arrival_high m i (suc t)) (λ j j_low j_high goes. within j v j_low j_high (arrival_high m i (suc t))))

row_some : (m : Problem) (start : Table) (i t : ℕ) → 1 ≤ t → row_at m start i t ≡ must_arrive m start i (arrival m i t)
row_some m start i zero h = absurd (omega (arith, h))
row_some m start i (suc t) h = refl

pub row_next : (m : Problem) (start : Table) (i t : ℕ) → 1 ≤ t → must_arrive m start i (arrival m i t) ≡ row_at m start i (t + 1 - 1)
row_next m start i t low = let e : t ≡ t + 1 - 1 = omega arith in sym (row_some m start i t low) ∙ ap (row_at m start i) e

pub filled_none : (m : Problem) (rank : ℕ → ℕ) (rows : List (List ℕ)) → IsTable m rows → IsFilledTo m rank 0 1 rows
filled_none m rank rows table = record { table = table; each = before_none m rank (IsRightRow m rows) }

pub filled_pass : (m : Problem) (rank : ℕ → ℕ) (b j : ℕ) (rows : List (List ℕ)) → rank j ≢ b → IsFilledTo m rank b j rows → IsFilledTo m rank b (j + 1) rows
filled_pass m rank b j rows other is = record { table = is.table; each = before_pass m rank (IsRightRow m rows) b j other is.each }

pub filled_next : (m : Problem) (rank : ℕ → ℕ) (b : ℕ) (rows : List (List ℕ)) → IsFilledTo m rank b (item_count m + 1) rows → IsFilledTo m rank (b + 1) 1 rows
filled_next m rank b rows is = record { table = is.table; each = before_next m rank (IsRightRow m rows) b is.each }

-- an item is filled after all that it goes into
pub filled_more : (m : Problem) (rank : ℕ → ℕ) (j : ℕ) (rows : List (List ℕ)) (row : List ℕ) → IsInstance m → IsRanking m rank → 1 ≤ j → j ≤ item_count m → IsFilledTo m rank (rank j) j rows → HasEachTo m.periods (row_at m (start_in rows) j) row → IsFilledTo m rank (rank j) (j + 1) (slice_set rows (j - 1) row)
filled_more m rank j rows row is ranks low high before has =
    let new = slice_set rows (j - 1) row in
    let size : j ≤ length rows = omega (arith, high, before.table.size) in
    let here = λ (i : ℕ) (t : ℕ) (same : i ≡ j). ap (λ r. slice_index_or r t 0) (put_here rows row i j same low size) in
    let kept = λ (i : ℕ) (i_low : 1 ≤ i) (i_high : i ≤ item_count m) (early : rank i ≤ rank j) (t : ℕ). row_same m (start_in rows) (start_in new) i t (λ k u k_low k_high goes. sym (start_else rows row k j u (λ same. omega (arith, ap rank same, ranks i k i_low i_high k_low k_high goes, early)) k_low low)) in
    record {
      table = record {
        size = omega (arith, length-set rows (j - 1) row, before.table.size);
        row_sizes = λ i i_low i_high. ⊎_elim
            (λ same. ap length (put_here rows row i j same low size) ∙ has.size)
            (λ other. ap length (put_else rows row i j other i_low low) ∙ before.table.row_sizes i i_low i_high)
            (cases_eq i j);
        within = λ total totals i i_low i_high t t_high. ⊎_elim
            (λ same. omega (arith, here i t same, has.each t t_high, ap total same, row_within m total (start_in rows) j t is totals low high (λ k u k_low k_high u_high. before.table.within total totals k k_low k_high u u_high)))
            (λ other. omega (arith, start_else rows row i j t other i_low low, before.table.within total totals i i_low i_high t t_high))
            (cases_eq i j);
      };
      each = λ i i_low i_high earlier t t_high. ⊎_elim
          (λ same. here i t same ∙ has.each t t_high ∙ kept j low high (omega arith) t ∙ ap (λ k. row_at m (start_in new) k t) (sym same))
          (λ other.
          let place : IsBefore rank i (rank j) j = ⊎_elim (λ less. inl less) (λ at. inr (at.0, omega (arith, at.1, other))) earlier in
          let early : rank i ≤ rank j = ⊎_elim (λ less. omega (arith, less)) (λ at. omega (arith, at.0)) earlier in
          start_else rows row i j t other i_low low ∙ before.each i i_low i_high place t t_high ∙ kept i i_low i_high early t)
          (cases_eq i j);
    }

-- filled rows are what is on time
pub filled_end : (m : Problem) (rank : ℕ → ℕ) (b : ℕ) (rows : List (List ℕ)) → b ≡ item_count m + 1 → IsInstance m → ((i : ℕ) → rank i ≤ item_count m) → IsFilledTo m rank b 1 rows → IsOnTimeOf m rows
filled_end m rank b rows all is small filled =
    let each = before_all m rank (IsRightRow m rows) b all small filled.each in
    record {
      size = filled.table.size;
      row_sizes = filled.table.row_sizes;
      starts = record {
        none = λ i low high. each i low high 0 (omega arith);
        each = λ i t low high t_low t_high. each i low high t t_high ∙ row_some m (start_in rows) i t t_low;
      };
      small = λ i t low high t_low t_high.
          let (total, totals, least) = is.totals in
          omega (arith, filled.table.within total totals i low high t t_high, least i);
    }
