-- Rows of own-period lots.
use Rattle.std.proofs.Common.{◌≡◌, ◌≢◌, ◌≤◌, ◌<◌, ◌+◌, ◌-◌, ◌∙◌, ⊎_elim, inl, inr, ℕ, sym, ap, subst, arith}
use Rattle.std.specs.Prelude.{if◌then◌else◌, ◌==◌}
use Rattle.std.proofs.lemmas.Bool.{cases_eq, cases_lt}
use Rattle.lot_sizing.specs.Sums.{sum_to}
use Rattle.lot_sizing.specs.Problem.{Problem, EachItem, demand, item_at, item_count, per_unit}
use Rattle.lot_sizing.specs.Plan.{Table, used_up}
use Rattle.lot_sizing.specs.Net.{needed_to}
use Rattle.lot_sizing.specs.Totals.{IsRanking}
use Rattle.lot_sizing.specs.declared.limits.TheConstants.{MAX_TOTAL}
use Rattle.lot_sizing.proofs.Sums.{sum_to-same, sum_to_at}
use Rattle.lot_model.specs.Views.{IsInstance}
use Rattle.plan_rules.specs.Cells.{Cells, Fits, table_of}
use Rattle.plan_rules.specs.Rows.{OtherRowsSame}
use Rattle.own_plan.specs.OwnPeriod.{asked_with, one_if_some}
use Rattle.own_plan.specs.Rows.{AreOwnRows, IsOwnBefore, IsOwnRow, IsRowMade, IsTaken}
use Rattle.own_plan.proofs.Asked.{needed_same, needed_at_most, used_apart}
use Rattle.own_plan.proofs.Own.{own_at_most}

-- one period more of a row
pub row_more : (m : Problem) (old a b setups_a setups_b : Table) (i t : ℕ) → 1 ≤ t → ((u : ℕ) → 1 ≤ u → u < t → b i u ≡ a i u) → ((u : ℕ) → 1 ≤ u → u < t → setups_b i u ≡ setups_a i u) → b i t ≡ needed_to (asked_with m old i) t - sum_to (t - 1) (a i) → setups_b i t ≡ one_if_some (b i t) → IsOwnBefore m old a setups_a i t → IsOwnBefore m old b setups_b i (t + 1)
row_more m old a b setups_a setups_b i t low kept kept_setups here here_setup before =
    let sums : (u : ℕ) → u ≤ t → sum_to (u - 1) (b i) ≡ sum_to (u - 1) (a i) = λ u high. sum_to-same (u - 1) (b i) (a i) (λ v v_low v_high. kept v v_low (omega (arith, v_low, v_high, high))) in
    record {
      lots = λ u u_low u_high. ⊎_elim
          (λ e. subst (λ v. b i v ≡ needed_to (asked_with m old i) v - sum_to (v - 1) (b i)) (sym e) (omega (arith, here, sums t (omega arith))))
          (λ ne. let less : u < t = omega (arith, u_high, ne) in omega (arith, kept u u_low less, before.lots u u_low less, sums u (omega (arith, less))))
          (cases_eq u t);
      setups = λ u u_low u_high. ⊎_elim
          (λ e. subst (λ v. setups_b i v ≡ one_if_some (b i v)) (sym e) here_setup)
          (λ ne. let less : u < t = omega (arith, u_high, ne) in kept_setups u u_low less ∙ before.setups u u_low less ∙ ap one_if_some (sym (kept u u_low less)))
          (cases_eq u t);
    }

-- an item that doesn't go into another has its own-period row whatever is made of that one
pub row_apart : (m : Problem) (a b setups_a setups_b : Table) (i j : ℕ) → per_unit m i j ≡ 0 → ((l t : ℕ) → 1 ≤ l → l ≤ item_count m → 1 ≤ t → t ≤ m.periods → l ≢ j → b l t ≡ a l t) → ((t : ℕ) → 1 ≤ t → t ≤ m.periods → (b i t ≡ a i t) × (setups_b i t ≡ setups_a i t)) → IsOwnRow m a setups_a i → IsOwnRow m b setups_b i
row_apart m a b setups_a setups_b i j none others here row = record {
  lots = λ t low high.
      let sums = sum_to-same (t - 1) (b i) (a i) (λ u u_low u_high. (here u u_low (omega (arith, u_high, high))).0) in
      let needs = needed_same m b a i t (λ u u_low u_high. used_apart m b a i j u none (λ l l_low l_high ne. others l u l_low l_high u_low (omega (arith, u_high, high)) ne)) in
      omega (arith, (here t low high).0, row.lots t low high, sums, needs);
  setups = λ t low high. (here t low high).1 ∙ row.setups t low high ∙ ap one_if_some (sym (here t low high).0);
}

-- a whole row is own where it is so with the older quantities of others
pub row_done : (m : Problem) (old make setup : Cells) (i : ℕ) → per_unit m i i ≡ 0 → Fits m old → OtherRowsSame old make i → IsOwnBefore m (table_of old) (table_of make) (table_of setup) i (m.periods + 1) → IsOwnRow m (table_of make) (table_of setup) i
row_done m old make setup i apart fits others before = record {
  lots = λ t low high.
      let needs = needed_same m (table_of make) (table_of old) i t (λ u u_low u_high. used_apart m (table_of make) (table_of old) i i u apart (λ l l_low l_high ne. others l u l_low (omega (arith, l_high, fits.items)) u_low (omega (arith, u_high, high, fits.periods)) ne)) in
      omega (arith, before.lots t low (omega (arith, high)), needs);
  setups = λ t low high. before.setups t low (omega (arith, high));
}

-- what is asked for up to a period, with the quantities of others as they stand
pub asked_more : (m : Problem) (old make : Cells) (i t asked d used : ℕ) → per_unit m i i ≡ 0 → Fits m old → OtherRowsSame old make i → 1 ≤ t → t ≤ m.periods → asked ≡ sum_to (t - 1) (λ u. demand m i u + used_up m (table_of old) i u) → d ≡ demand m i t → used ≡ used_up m (table_of make) i t → asked + (d + used) ≡ sum_to t (λ u. demand m i u + used_up m (table_of old) i u)
asked_more m old make i t asked d used apart fits others low high before here taken =
    let same = used_apart m (table_of make) (table_of old) i i t apart (λ l l_low l_high ne. others l t l_low (omega (arith, l_high, fits.items)) low (omega (arith, high, fits.periods)) ne) in
    omega (arith, before, here, taken, same, sum_to_at t (λ u. demand m i u + used_up m (table_of old) i u) low)

-- and what must have been made up to it
pub needed_now : (m : Problem) (old make : Cells) (i t asked d used need : ℕ) → per_unit m i i ≡ 0 → Fits m old → OtherRowsSame old make i → 1 ≤ t → t ≤ m.periods → asked ≡ sum_to (t - 1) (λ u. demand m i u + used_up m (table_of old) i u) → d ≡ demand m i t → used ≡ used_up m (table_of make) i t → need ≡ (asked + (d + used) + (if t == m.periods then (item_at m i).end_min else 0)) - (item_at m i).opening → need ≡ needed_to (asked_with m (table_of old) i) t
needed_now m old make i t asked d used need apart fits others low high before here taken is =
    is ∙ ap (λ s. (s + (if t == m.periods then (item_at m i).end_min else 0)) - (item_at m i).opening) (asked_more m old make i t asked d used apart fits others low high before here taken)

-- no item goes into itself
pub none_in_itself : (m : Problem) (rank : ℕ → ℕ) (i : ℕ) → IsRanking m rank → 1 ≤ i → i ≤ item_count m → per_unit m i i ≡ 0
none_in_itself m rank i ranks low high =
    ⊎_elim (λ goes. absurd (omega (arith, ranks i i low high low high goes))) (λ none. omega (arith, none)) (cases_lt 0 (per_unit m i i))

-- nor into one of its rank or above
none_above : (m : Problem) (rank : ℕ → ℕ) (i j : ℕ) → IsRanking m rank → 1 ≤ i → i ≤ item_count m → 1 ≤ j → j ≤ item_count m → rank i ≤ rank j → per_unit m i j ≡ 0
none_above m rank i j ranks low high j_low j_high above =
    ⊎_elim (λ goes. absurd (omega (arith, above, ranks i j low high j_low j_high goes))) (λ none. omega (arith, none)) (cases_lt 0 (per_unit m i j))

-- the next row has room in a grid
pub next_small : (m : Problem) (rank : ℕ → ℕ) (k item : ℕ) (make setup : Cells) → IsInstance m → IsRanking m rank → AreOwnRows m rank k item make setup → rank item ≡ k → 1 ≤ item → item ≤ item_count m → needed_to (asked_with m (table_of make) item) m.periods ≤ MAX_TOTAL
next_small m rank k item make setup within ranks rows here low high =
    let (total, totals, small) = within.totals in
    let ends : EachItem m (λ j. (item_at m j).end_min ≤ (item_at m j).end_max) = λ j j_low j_high. (within.limits.each_item j j_low j_high).ends in
    omega (
      arith,
      small item,
      needed_at_most m rank total (table_of make) item ranks totals ends low high (λ j j_low j_high before. own_at_most m rank total (table_of make) within.limits.some_period ranks totals ends k (λ l l_low l_high less. (rows.rows l l_low l_high (inl less)).lots) k j (omega (arith, before, here)) (omega arith) j_low j_high),
    )

taken_more : (rank : ℕ → ℕ) (k item i : ℕ) → rank item ≡ k → IsTaken rank k (item + 1) i → i ≢ item → IsTaken rank k item i
taken_more rank k item i here taken ne = ⊎_elim (λ less. inl less) (λ same. inr (same.0, omega (arith, same.1, ne))) taken

at_most : (rank : ℕ → ℕ) (k item i : ℕ) → IsTaken rank k item i → rank i ≤ k
at_most rank k item i taken = ⊎_elim (λ less. omega (arith, less)) (λ same. omega (arith, same.0)) taken

-- once it stands, the rows up to it are own
pub rows_more : (m : Problem) (rank : ℕ → ℕ) (k item : ℕ) (make_old setup_old make setup : Cells) → IsRanking m rank → AreOwnRows m rank k item make_old setup_old → IsRowMade m item make_old setup_old make setup → rank item ≡ k → 1 ≤ item → item ≤ item_count m → AreOwnRows m rank k (item + 1) make setup
rows_more m rank k item make_old setup_old make setup ranks before made here low high = record {
  make_fits = made.make_fits;
  setup_fits = made.setup_fits;
  rows = λ i i_low i_high taken. ⊎_elim
      (λ e. subst (IsOwnRow m (table_of make) (table_of setup)) (sym e) made.row)
      (λ ne.
      let was = taken_more rank k item i here taken ne in
      row_apart m (table_of make_old) (table_of make) (table_of setup_old) (table_of setup) i item
      (none_above m rank i item ranks i_low i_high low high (omega (arith, here, at_most rank k item i was)))
      (λ l t l_low l_high t_low t_high apart. made.other_makes l t l_low (omega (arith, l_high, before.make_fits.items)) t_low (omega (arith, t_high, before.make_fits.periods)) apart)
      (λ t t_low t_high.
      (made.other_makes i t i_low (omega (arith, i_high, before.make_fits.items)) t_low (omega (arith, t_high, before.make_fits.periods)) ne, made.other_setups i t i_low (omega (arith, i_high, before.setup_fits.items)) t_low (omega (arith, t_high, before.setup_fits.periods)) ne))
      (before.rows i i_low i_high was))
      (cases_eq i item);
}

-- an item of another rank changes nothing
pub rows_skip : (m : Problem) (rank : ℕ → ℕ) (k item : ℕ) (make setup : Cells) → AreOwnRows m rank k item make setup → rank item ≢ k → AreOwnRows m rank k (item + 1) make setup
rows_skip m rank k item make setup before other = record {
  make_fits = before.make_fits;
  setup_fits = before.setup_fits;
  rows = λ i low high taken. ⊎_elim
      (λ less. before.rows i low high (inl less))
      (λ same. before.rows i low high (inr (same.0, ⊎_elim (λ e. absurd (other (ap rank (sym e) ∙ same.0))) (λ ne. omega (arith, same.1, ne)) (cases_eq i item))))
      taken;
}

-- after the last item of a rank comes the next rank
pub rank_done : (m : Problem) (rank : ℕ → ℕ) (k : ℕ) (make setup : Cells) → AreOwnRows m rank k (item_count m + 1) make setup → AreOwnRows m rank (k + 1) 1 make setup
rank_done m rank k make setup before = record {
  make_fits = before.make_fits;
  setup_fits = before.setup_fits;
  rows = λ i low high taken. before.rows i low high (⊎_elim
      (λ less. ⊎_elim (λ e. inr (e, omega (arith, high))) (λ ne. inl (omega (arith, less, ne))) (cases_eq (rank i) k))
      (λ same. absurd (omega (arith, same.1, low)))
      taken);
}
