-- The program of the base rows, and what its run comes to.
use Rattle.std.proofs.Common.{◌≡◌, ◌+◌, ◌∙◌, ◌⊎◌, ⊎_elim, inl, inr, ℕ, refl, sym, ap, subst, List, [], ◌∷◌, ◌++◌, append-nil}
use Rattle.std.specs.Prelude.{map, unsigned_abs}
use Rattle.std.specs.List.{All}
use Rattle.std.proofs.lemmas.Bool.{cases_lt}
use Rattle.std.proofs.lemmas.List.{map-append}
use Rattle.std.proofs.lemmas.List.Elements.{All-weaker}
use Rattle.rational.specs.Rational.{ceil_ℚ}
use Rattle.rational.proofs.Facts.{is_ceiling}
use Rattle.bill.specs.Laws.{TotalsExist}
use Rattle.lot_sizing.specs.Sums.{sum_to}
use Rattle.lot_sizing.specs.Problem.{IsWithinLimits, Problem, demand, item_at}
use Rattle.lot_sizing.specs.Bill.{bill_of}
use Rattle.lot_sizing.specs.Laws.{TotalsAreOne}
use Rattle.lot_sizing.specs.Totals.{AreLargestTotals, IsRanking}
use Rattle.lin_rows.specs.declared.base.RowName.{RowName}
use Rattle.lin_rows.specs.declared.base.RowName.TheVariants.{Balance, Link, Capacity, EndMin, EndMax, Top, Least, Late, Path, Cut}
use Rattle.lin_rows.specs.Base.{HasRow}
use Rattle.lin_rows.specs.Rows.{LinRow}
use Rattle.cert_meaning.specs.Named.{IsNamed, row_named}
use Rattle.tableau.specs.Program.{Inequality, Program}
use Rattle.lp_relaxation.specs.declared.limits.TheConstants.{MAX_CELLS}
use Rattle.lp_relaxation.specs.Names.{BaseNamesAreAll, base_names, round_names}
use Rattle.lp_relaxation.specs.Rounds.{at_root}
use Rattle.lp_relaxation.specs.Says.{EmptyIsSaid, LeastIsSaid, sides_named}
use Rattle.lp_relaxation.specs.Sides.{all_sides, program_rows, side_inequality, sides_of, turned_row}
use Rattle.lp_bounds.specs.Bounds.{BaseBoundsAreFloors, EmptyIsImpossible, IsBaseProgram, cell_count}
use Rattle.lp_bounds.specs.Solved.{IsRoundedBest}
use Rattle.lp_bounds.proofs.BasePoints.{bounds, none}
use Rattle.existence.specs.Runs.{HasProvedBest, HasProvedNone, RunsComeOut}
use Rattle.lp_relaxation.proofs.Growing.{same_sides as row_sides, rows_same as rows_alike}
use Rattle.answers_exist.specs.Bounding.{BoundsComeOut, HasBound, IsEmpty, Passes}
use Rattle.answers_exist.proofs.Costing.{are_costs, costs}
use Rattle.answers_exist.proofs.Sums.{row_same}

-- what the laws below say
pub record Grounds : Type 0 where
  pub totals : TotalsExist
  pub one : TotalsAreOne
  pub names : BaseNamesAreAll
  pub least : LeastIsSaid
  pub empty : EmptyIsSaid
  pub runs : RunsComeOut
  pub floors : BaseBoundsAreFloors
  pub impossible : EmptyIsImpossible

-- ---- rows that agree at the names make one program
-- the inequalities of a row of this name
of_row : Problem → RowName → LinRow → List Inequality
of_row m name r = map (λ s. turned_row m s.turned r) (sides_of name r.equal)

first_rows : (m : Problem) (row : RowName → LinRow) (name : RowName) (names : List RowName) → program_rows m row (all_sides row (name ∷ names)) ≡ of_row m name (row name) ++ program_rows m row (all_sides row names)
unfolding of_row
first_rows m row name names =
    map-append (side_inequality m row) (sides_of name (row name).equal) (all_sides row names)
    ∙ ap (λ rs. rs ++ program_rows m row (all_sides row names)) (row_sides m row name (row name).equal)

-- there is a base row of this name
is_named : (m : Problem) (total : ℕ → ℕ) (name : RowName) → HasRow m name → IsNamed (at_root m total []) name
is_named m total (Balance i t) has = has
is_named m total (Link i t) has = has
is_named m total (Capacity k t) has = has
is_named m total (EndMin i) has = has
is_named m total (EndMax i) has = has
is_named m total (Top i t) has = has
is_named m total (Least i t) has = has
is_named m total (Late i t) has = has
is_named m total (Path n) has = absurd has
is_named m total (Cut n) has = absurd has

module _ (by : Grounds) (m : Problem) (rank : ℕ → ℕ) (limits : IsWithinLimits m) (ranks : IsRanking m rank) where
  some_total : (total : ℕ → ℕ) × AreLargestTotals m total
  some_total = by.totals (bill_of m) (λ i. sum_to m.periods (demand m i) + (item_at m i).end_max) (λ i. (item_at m i).opening) rank ranks

  program : Program
  program = let base = at_root m some_total.0 [] in record { costs = costs m; rows = program_rows m (row_named base) (sides_named base (round_names m 0)) }

  is_program : IsBaseProgram m program
  unfolding program
  is_program total totals = record {
    costs_are = are_costs m;
    rows_are = rows_alike m (row_named (at_root m some_total.0 [])) (row_named (at_root m total [])) (round_names m 0) agree;
  }
    where
      P : RowName → Type 0
      P name = row_named (at_root m some_total.0 []) name ≡ row_named (at_root m total []) name

      agree : All P (round_names m 0)
      agree = subst (All P) (sym (append-nil (base_names m))) (All-weaker (HasRow m) P (λ name has. row_same m limits some_total.0 (λ b others. by.one m rank some_total.0 b ranks some_total.1 others) [] [] total (by.one m rank some_total.0 total ranks some_total.1 totals) name (is_named m some_total.0 name has)) (base_names m) (by.names m).each)

  best_is : HasProvedBest program → HasBound m
  best_is (x, y, value, best) =
      let n = unsigned_abs (ceil_ℚ value) in
      let rounded : IsRoundedBest program n = record { point = x; multipliers = y; value = value; best = best; amount = record { rounded = ceil_ℚ value; ceiling = is_ceiling value; amount = refl } } in
      let bound = λ (total : ℕ → ℕ) (totals : AreLargestTotals m total). bounds by.least by.names m total program limits (is_program total totals) n rounded in
      (n, bound, by.floors m rank some_total.0 limits.some_period ranks some_total.1 n bound)

  none_is : HasProvedNone program → IsEmpty m
  none_is (y, is) =
      let no = λ (total : ℕ → ℕ) (totals : AreLargestTotals m total). none by.empty by.names m total program y limits (is_program total totals) is in
      (no, by.impossible m rank some_total.0 limits.some_period ranks some_total.1 no)

  out : HasBound m ⊎ (IsEmpty m ⊎ Passes m)
  out = ⊎_elim
      (λ best. inl (best_is best))
      (λ more. ⊎_elim (λ empty. inr (inl (none_is empty))) (λ unfit. inr (inr (program, is_program, unfit))) more)
      (by.runs program)

pub come_out : Grounds → BoundsComeOut
come_out by m rank limits ranks = ⊎_elim
    (λ many. inl (program by m rank limits ranks, is_program by m rank limits ranks, many))
    (λ few. inr ((program by m rank limits ranks, is_program by m rank limits ranks, few), out by m rank limits ranks))
    (cases_lt MAX_CELLS (cell_count (program by m rank limits ranks)))
