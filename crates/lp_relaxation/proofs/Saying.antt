-- What the outcome of a program of named rows says.
use Rattle.std.proofs.Common.{◌≡◌, ◌≤◌, ◌<◌, ◌+◌, ◌-◌, ◌∙◌, ℕ, refl, sym, ap, subst, arith, Bool, true, false, List, [], ◌∷◌, ◌++◌, length, slice_index_or}
use Rattle.std.specs.Prelude.{map, ℤ, pos, ◌*ℤ◌, ◌≤ℤ◌, ◌<ℤ◌}
use Rattle.std.specs.List.{All}
use Rattle.std.proofs.lemmas.Int.{ints, by_lt_z}
use Rattle.algebra.proofs.Ordered.{mul_le}
use Rattle.algebra.proofs.Sums.{sum-nonneg}
use Rattle.algebra.proofs.Rings.{◌⊗◌, ◌⊜◌, ring3}
use Rattle.rational.specs.Rational.{ℚ, whole, ceil_ℚ, ◌*ℚ◌, ◌≤ℚ◌}
use Rattle.rational.proofs.Rationals as Q
use Rattle.rational.proofs.Rationals.{rational_ring, rational_ordered, whole-mul}
use Rattle.rational.proofs.Facts.{cancel_le, is_ceiling, whole-le, le-whole}
use Rattle.lot_sizing.specs.Problem.{Problem}
use Rattle.lin_rows.specs.declared.column.Column.{Column}
use Rattle.lin_rows.specs.declared.base.RowName.{RowName}
use Rattle.lin_rows.specs.Columns.{IsColumn, column_cost, number_of}
use Rattle.lin_rows.specs.Combining.{AllHold, AreOfProblem, AreSigned, AreWithinCosts, SumsBound, SumsRefute, sum_of}
use Rattle.lin_rows.specs.Costs.{point_cost}
use Rattle.lin_rows.specs.Rows.{HoldsAt, LinPoint, LinRow}
use Rattle.lin_rows.specs.Sums.{coefficient}
use Rattle.lin_rows.proofs.Ranks.{among}
use Rattle.tableau.specs.Leaves.{AllLeavesProve, AreWholeBest}
use Rattle.tableau.specs.Meaning.{AreBest, AreEmpty, AreNonnegative, column_sum, right_sum}
use Rattle.tableau.specs.Program.{Inequality, Program, column_count, cost_at, empty_row, row_count, sum_ℚ, times_of, zero_ℚ}
use Rattle.tableau.specs.Run.{IsPositive}
use Rattle.cert_meaning.specs.Named.{Named, row_named}
use Rattle.cert_meaning.specs.Says.{IsLinear, IsRoundedUp}
use Rattle.lp_relaxation.specs.declared.program.Side.{Side}
use Rattle.lp_relaxation.specs.Sides.{all_sides, parts_of, side, side_inequality, side_rows, side_times, sides_of}
use Rattle.lp_relaxation.specs.Says.{AreRowsOf, EmptyIsSaid, EmptySays, HasFractions, IsProgramOf, LeastIsSaid, LeastSays, rows_of_names}
use Rattle.lp_relaxation.proofs.Numbering.{times_are}
use Rattle.lp_relaxation.proofs.Entries.{AreAmong, EachFits, each_fits, rows_met}
use Rattle.lp_relaxation.proofs.Combining.{EachSide, IsTurned, combined, sides_signed}
use Rattle.lp_relaxation.proofs.Growing.{map_length}
use Rattle.lp_relaxation.proofs.Priced.{cost_most}
use Rattle.lp_relaxation.proofs.Common.{has_point, natural}
use Rattle.lp_relaxation.proofs.Parts.{parts_add, parts_are}
use Rattle.lp_relaxation.proofs.Closing.{whole_above}

-- ---- lists of sides
both_sides : (P : Side → Type 0) (name : RowName) (e : Bool) (rest : List Side) → ((b : Bool) → P (side name b)) → EachSide P rest → EachSide P (sides_of name e ++ rest)
both_sides P name true rest here each = (here false, (here true, each))
both_sides P name false rest here each = (here false, each)

rows_append : (P : LinRow → Type 0) (Q : List LinRow → Type 0) → ((r : LinRow) (rows : List LinRow) → P r → Q rows → Q (r ∷ rows)) → (row : RowName → LinRow) (name : RowName) (e : Bool) (rest : List Side) → P (row name) → Q (side_rows row rest) → Q (side_rows row (sides_of name e ++ rest))
rows_append P Q more row name true rest here each = more (row name) (row name ∷ side_rows row rest) here (more (row name) (side_rows row rest) here each)
rows_append P Q more row name false rest here each = more (row name) (side_rows row rest) here each

sides_met : (q : LinPoint) (row : RowName → LinRow) (list : List RowName) → AllHold q (map row list) → AllHold q (side_rows row (all_sides row list))
sides_met q row [] met = tt
sides_met q row (name ∷ list) met = rows_append (HoldsAt q) (AllHold q) (λ r rows a b. (a, b)) row name (row name).equal (all_sides row list) met.0 (sides_met q row list met.1)

sides_exist : (m : Problem) (row : RowName → LinRow) (list : List RowName) → AreOfProblem m (map row list) → AreOfProblem m (side_rows row (all_sides row list))
sides_exist m row [] each = tt
sides_exist m row (name ∷ list) each = rows_append (λ r. All (λ a. IsColumn m a.column) r.terms) (AreOfProblem m) (λ r rows a b. (a, b)) row name (row name).equal (all_sides row list) each.0 (sides_exist m row list each.1)

module _ (bound : SumsBound) (refute : SumsRefute) (n : Named) (list : List RowName) (p : Program) (are : AreRowsOf n list) (program : IsProgramOf n list p) where
  abbrev m : Problem
  m = n.problem

  abbrev row : RowName → LinRow
  row = row_named n

  abbrev sides : List Side
  sides = all_sides row list

  count : row_count p ≡ length sides
  count = ap length program.rows_are ∙ map_length (side_inequality m row) sides

  places : AreAmong m (column_count p)
  places c is = let h = among m c is in (h.0, omega (arith, h.1, program.costs_are.size))

  -- sums over the program's rows are those over the rows of the sides
  summed : (z : ℕ → ℤ) (F : Inequality → ℤ) (G : LinRow → ℤ) → EachSide (IsTurned m row F G) sides → sum_ℚ (row_count p) (λ k. whole (z k) *ℚ whole (F (slice_index_or p.rows k empty_row))) ≡ whole (sum_of (side_rows row sides) (side_times sides z) G)
  summed z F G each = ap (λ rows. sum_ℚ (length rows) (λ k. whole (z k) *ℚ whole (F (slice_index_or rows k empty_row)))) program.rows_are ∙ combined m row F G sides z each

  rights_turned : (names : List RowName) → EachSide (IsTurned m row (λ i. i.right) (λ r. r.right)) (all_sides row names)
  rights_turned [] = tt
  rights_turned (name ∷ names) = both_sides (IsTurned m row (λ i. i.right) (λ r. r.right)) name (row name).equal (all_sides row names) (λ b. refl) (rights_turned names)

  rights : (z : ℕ → ℤ) → right_sum p (λ k. whole (z k)) ≡ whole (sum_of (side_rows row sides) (side_times sides z) (λ r. r.right))
  rights z = summed z (λ i. i.right) (λ r. r.right) (rights_turned list)

  module _ (c : Column) (is : IsColumn m c) where
    abbrev place : ℕ
    place = number_of m c - 1

    place_is : place + 1 ≡ number_of m c
    place_is = let h = among m c is in omega (arith, h.0)

    columns_turned : (names : List RowName) → AreOfProblem m (map row names) → EachSide (IsTurned m row (λ i. times_of i.terms (place + 1)) (λ r. coefficient r.terms c)) (all_sides row names)
    columns_turned [] each = tt
    columns_turned (name ∷ names) each =
        both_sides (IsTurned m row (λ i. times_of i.terms (place + 1)) (λ r. coefficient r.terms c)) name (row name).equal (all_sides row names)
        (λ b. ap (times_of (side_inequality m row (side name b)).terms) place_is ∙ times_are m b (row name).terms c are.limits each.0 is)
        (columns_turned names each.1)

    columns : (z : ℕ → ℤ) → column_sum p (λ k. whole (z k)) place ≡ whole (sum_of (side_rows row sides) (side_times sides z) (λ r. coefficient r.terms c))
    columns z = summed z (λ i. times_of i.terms (place + 1)) (λ r. coefficient r.terms c) (columns_turned list are.columns)

    in_columns : place < column_count p
    in_columns = let h = places c is in omega (arith, h.0, h.1)

  signs : (z : ℕ → ℤ) → AreNonnegative p (λ k. whole (z k)) → AreSigned (side_rows row sides) (side_times sides z)
  signs z low = sides_signed row list z (λ k less. le-whole (pos 0) (z k) (low k (omega (arith, less, count))))

  -- ---- a least point
  module _ (x y : ℕ → ℚ) (value : ℚ) (den : ℕ) (z : ℕ → ℤ) (best : AreBest p x y value) (some : 1 ≤ den) (whole_best : AreWholeBest p den z value) where
    within : AreWithinCosts m (side_rows row sides) (side_times sides z) den
    within c is =
        le-whole _ (pos den *ℤ pos (column_cost m c))
        (subst (λ s. s ≤ℚ whole (pos den *ℤ pos (column_cost m c))) (columns c is z)
        (subst (λ s. column_sum p (λ k. whole (z k)) (place c is) ≤ℚ s) (ap (λ k. whole (pos den) *ℚ whole (pos k)) (program.costs_are.each c is) ∙ sym (whole-mul (pos den) (pos (column_cost m c)))) (whole_best.columns (place c is) (in_columns c is))))

    right_is : whole (sum_of (side_rows row sides) (side_times sides z) (λ r. r.right)) ≡ whole (pos den) *ℚ value
    right_is = sym (rights z) ∙ whole_best.right

    met : (q : LinPoint) → HasFractions m x q → AllHold q (rows_of_names n list)
    met q point = rows_met m (column_count p) places x q point row list are.columns (subst (EachFits (column_count p) x) program.rows_are (each_fits (column_count p) x p.rows best.feasible.rows))

    least : (q : LinPoint) → AllHold q (rows_of_names n list) → (whole (pos q.den) *ℚ value) ≤ℚ whole (pos (point_cost m q.values))
    least q hold =
        let right = sum_of (side_rows row sides) (side_times sides z) (λ r. r.right) in
        let cost = pos (point_cost m q.values) in
        let most = bound m (side_rows row sides) (side_times sides z) den (signs z whole_best.multipliers) (sides_exist m row list are.columns) within q (sides_met q row list hold) in
        let left : whole (right *ℤ pos q.den) ≡ whole (pos den) *ℚ (whole (pos q.den) *ℚ value) =
        whole-mul right (pos q.den) ∙ ap (λ s. s *ℚ whole (pos q.den)) right_is ∙ ring3 rational_ring (λ d v e. d ⊗ v ⊗ e ⊜ d ⊗ (e ⊗ v)) refl (whole (pos den)) value (whole (pos q.den)) in
        cancel_le (whole (pos den)) (whole (pos q.den) *ℚ value) (whole cost) (whole_above den some)
        (subst (λ s. s ≤ℚ whole (pos den) *ℚ whole cost) left (subst (λ s. whole (right *ℤ pos q.den) ≤ℚ s) (whole-mul (pos den) cost) (whole-le (right *ℤ pos q.den) (pos den *ℤ cost) most)))

    cost : (q : LinPoint) → HasFractions m x q → whole (pos (point_cost m q.values)) ≡ whole (pos q.den) *ℚ value
    cost q point =
        Q.le_antisym (whole (pos (point_cost m q.values))) (whole (pos q.den) *ℚ value)
        (subst (λ s. whole (pos (point_cost m q.values)) ≤ℚ whole (pos q.den) *ℚ s) best.cost (cost_most m are.limits p program.costs_are.each places x best.feasible.columns q point))
        (least q (met q point))

    -- what the leaf says
    rounded_up : (c : ℕ) → pos c ≡ ceil_ℚ value → (a : ℤ) → whole a ≡ whole (pos den) *ℚ value → IsRoundedUp (pos den) a c
    rounded_up c is a right =
        let den_low : whole (pos 0) ≤ℚ whole (pos den) = whole-le (pos 0) (pos den) (omega (arith, ints)) in
        record {
          above = le-whole a (pos den *ℤ pos c) (subst (λ s. s ≤ℚ whole (pos den *ℤ pos c)) (sym right) (subst (λ s. whole (pos den) *ℚ value ≤ℚ s) (sym (whole-mul (pos den) (pos c))) (mul_le rational_ordered (whole (pos den)) value (whole (pos c)) den_low (subst (λ k. value ≤ℚ whole k) (sym is) (is_ceiling value).above))));
          least = λ k h.
              let below = cancel_le (whole (pos den)) value (whole (pos k)) (whole_above den some) (subst (λ s. s ≤ℚ whole (pos den) *ℚ whole (pos k)) right (subst (λ s. whole a ≤ℚ s) (whole-mul (pos den) (pos k)) (whole-le a (pos den *ℤ pos k) h))) in
              let l = (is_ceiling value).least (pos k) below in
              omega (arith, ints, l, is);
        }

    leaf : (c : ℕ) → pos c ≡ ceil_ℚ value → IsLinear n (pos den) (parts_of sides z) c
    leaf c is = record {
      positive = omega (arith, ints, some);
      parts_exist = parts_are n list z are.named (λ k less. le-whole (pos 0) (z k) (whole_best.multipliers k (omega (arith, less, count))));
      columns = λ d has. subst (λ s. s ≤ℤ (pos den *ℤ pos (column_cost m d))) (sym (parts_add n sides z (λ r. coefficient r.terms d))) (within d has);
      right = subst (λ s. IsRoundedUp (pos den) s c) (sym (parts_add n sides z (λ r. r.right))) (rounded_up c is _ right_is);
    }

    -- the value is at least 0
    value_low : whole (pos 0) ≤ℚ value
    value_low = subst (λ s. zero_ℚ ≤ℚ s) best.cost (sum-nonneg rational_ordered (column_count p) (λ c. cost_at p c *ℚ x c) (λ c less. Q.mul_nonneg (cost_at p c) (x c) (whole-le (pos 0) (pos (slice_index_or p.costs c 0)) (omega (arith, ints))) (best.feasible.columns c less)))

    rounded : (c : ℕ) × (pos c ≡ ceil_ℚ value)
    rounded = natural (ceil_ℚ value) (le-whole (pos 0) (ceil_ℚ value) (Q.le_trans (whole (pos 0)) value (whole (ceil_ℚ value)) value_low (is_ceiling value).above))

    least_says : LeastSays n list x value den z
    least_says = record {
      point = has_point m (column_count p) places x best.feasible.columns;
      met = met;
      cost = cost;
      least = least;
      rounded = rounded;
      leaf = leaf;
    }

  -- ---- multipliers that leave no point
  empty_says : (z : ℕ → ℤ) → AreEmpty p (λ k. whole (z k)) → EmptySays n list z
  empty_says z empty =
      let none_taken = λ (c : Column) (is : IsColumn m c). le-whole (sum_of (side_rows row sides) (side_times sides z) (λ r. coefficient r.terms c)) (pos 0) (subst (λ s. s ≤ℚ zero_ℚ) (columns c is z) (empty.columns (place c is) (in_columns c is))) in
      let right = positive (sum_of (side_rows row sides) (side_times sides z) (λ r. r.right)) (λ low. empty.right (subst (λ s. s ≤ℚ zero_ℚ) (sym (rights z)) low)) in
      record {
        none = λ q hold. refute m (side_rows row sides) (side_times sides z) (signs z empty.multipliers) (sides_exist m row list are.columns) none_taken right q (sides_met q row list hold);
        leaf = record {
          parts_exist = parts_are n list z are.named (λ k less. le-whole (pos 0) (z k) (empty.multipliers k (omega (arith, less, count))));
          columns = λ d has. subst (λ s. s ≤ℤ pos 0) (sym (parts_add n sides z (λ r. coefficient r.terms d))) (none_taken d has);
          right = subst (λ s. pos 0 <ℤ s) (sym (parts_add n sides z (λ r. r.right))) right;
        };
      }
    where
      positive : (a : ℤ) → IsPositive (whole a) → pos 0 <ℤ a
      positive a h = by_lt_z (pos 0) a (λ above. above) (λ low. absurd (h (whole-le a (pos 0) low)))

-- by the multipliers of a leaf
pub least_is_said : SumsBound → SumsRefute → AllLeavesProve → LeastIsSaid
least_is_said bound refute prove n list p x y value den z are program best of_leaf =
    least_says bound refute n list p are program x y value den z best of_leaf.times.positive ((prove p y den z of_leaf).best x value best)

pub empty_is_said : SumsBound → SumsRefute → AllLeavesProve → EmptyIsSaid
empty_is_said bound refute prove n list p y den z are program empty of_leaf = empty_says bound refute n list p are program z ((prove p y den z of_leaf).empty empty)
