-- What leaves say is so of each feasible plan that lies in them.
use Rattle.std.proofs.Common.{◌≡◌, ◌≤◌, ◌<◌, ◌-◌, ⊎_elim, ℕ, zero, suc, refl, sym, subst, arith, Bool, true, false, List, [], ◌∷◌, length, slice_index_or}
use Rattle.std.specs.Prelude.{ℤ, pos, negsuc, neg_ℤ, ◌+ℤ◌, ◌*ℤ◌, ◌≤ℤ◌, map}
use Rattle.std.specs.List.{All}
use Rattle.std.proofs.lemmas.List.Elements.{All-cons, All-filter, All-head, All-nil, All-tail}
use Rattle.algebra.proofs.Integers.{minus_one, mul_one}
use Rattle.algebra.proofs.Order.{linear}
use Rattle.lot_sizing.specs.Problem.{Problem}
use Rattle.lot_sizing.specs.Plan.{Plan, IsFeasible, cost}
use Rattle.lot_sizing.specs.Laws.{BoundsTotals}
use Rattle.lot_sizing.specs.Least.{HasChoice}
use Rattle.lot_sizing.specs.Totals.{AreLargestTotals, IsRanking}
use Rattle.lin_rows.specs.declared.bound.Bound.{Bound}
use Rattle.lin_rows.specs.declared.column.Column.{Column}
use Rattle.lin_rows.specs.declared.column.Column.TheVariants.{X, Y, S, R}
use Rattle.lin_rows.specs.declared.base.RowName.{RowName}
use Rattle.lin_rows.specs.declared.base.RowName.TheVariants.{Balance, Link, Capacity, EndMin, EndMax, Top, Least, Late, Path, Cut}
use Rattle.lin_rows.specs.Base.{HasRow, all_terms, is_some_term, row_of}
use Rattle.lin_rows.specs.Bounds.{IsWithinNumber, bound_right, bound_row, bound_times}
use Rattle.lin_rows.specs.Columns.{IsColumn, column_cost, value_in}
use Rattle.lin_rows.specs.Combining.{AllHold, AreOfProblem, AreSigned, SumsBoundPlans, SumsRefute}
use Rattle.lin_rows.specs.Rows.{HoldsAt, HoldsIn, LinPoint, LinRow, Values, whole_point}
use Rattle.lin_rows.proofs.Columns.{base_exists}
use Rattle.lin_rows.proofs.Holding.{row_holds}
use Rattle.item_groups.specs.declared.group.Group.{Group}
use Rattle.reduced_groups.specs.Floors.{shape_of}
use Rattle.reduced_leaf.specs.Laws.{ReducedSumBounds, ReducedSumRefutes}
use Rattle.cert_lines.specs.declared.parts.Part.{Part}
use Rattle.cert_lines.specs.Shapes.{LeafShape, LinearLeaf, FarkasLeaf, ListShape, PointLeaf, ReducedLeaf}
use Rattle.cert_trees.specs.Laws.{RangesAreLeft}
use Rattle.cert_trees.specs.Ranges.{IsChoice, IsWithin, Ranges}
use Rattle.cert_trees.specs.Paths.{AreChoices, AreMet, IsMet, no_bound}
use Rattle.cert_meaning.specs.declared.says.LeafSays.{LeafSays}
use Rattle.cert_meaning.specs.declared.says.LeafSays.TheVariants.{NoPlan, AtLeast}
use Rattle.cert_meaning.specs.Named.{IsNamed, Named, no_row, row_named}
use Rattle.cert_meaning.specs.Parts.{AreParts, IsPart, rows_of, sum_of_column, sum_of_right, times_of}
use Rattle.cert_meaning.specs.Lists.{all_parts}
use Rattle.cert_meaning.specs.Says.{IsFarkas, IsLinear, IsPoint, IsReducedBound, IsReducedRefuted, IsSoOf, IsSumOf, Says, point_make, point_setup}
use Rattle.cert_meaning.proofs.Rows.{bound_columns, columns_at, hold_at, parts_signed}

-- what is known of a problem in which no item is its own component, and of its largest totals
pub record IsKnown (m : Problem) (total : ℕ → ℕ) : Type 0 where
  pub some : 1 ≤ m.periods
  pub rank : ℕ → ℕ
  pub ranks : IsRanking m rank
  pub totals : AreLargestTotals m total

-- the row of a bound that is met holds
met_row : (b : Bool) (n x : ℕ) → IsWithinNumber b n x → (bound_right b n *ℤ pos 1) ≤ℤ (bound_times b *ℤ pos x +ℤ pos 0)
met_row true n x met = omega (arith, linear, met, mul_one (neg_ℤ (pos n)), minus_one (pos x))
met_row false n x met = omega (arith, linear, met)

bound_holds : (v : Values) (b : Bound) → IsMet v b → HoldsAt (whole_point v) (bound_row b)
bound_holds v b met = met_row b.most b.number (v b.column) met

-- what is known of the rows that can be named, at a plan
pub record AreRowsAt (n : Named) (p : Plan) : Type 0 where
  pub known : IsKnown n.problem n.total
  pub feasible : IsFeasible n.problem p
  pub cuts : AllHold (whole_point (value_in p)) n.cuts
  pub met : AreMet (value_in p) n.path

-- and of their columns
pub record AreColumnsOf (n : Named) : Type 0 where
  pub some : 1 ≤ n.problem.periods
  pub cuts : AreOfProblem n.problem n.cuts
  pub path : AreChoices n.problem n.path

module _ (bounds : BoundsTotals) where
  base_is : (n : Named) (p : Plan) (name : RowName) → AreRowsAt n p → HasRow n.problem name → HoldsIn p (row_of n.problem n.total name)
  base_is n p name are has =
      let known = are.known in
      row_holds n.problem p n.total name are.feasible known.some (λ i low high. bounds n.problem known.rank n.total known.some known.ranks known.totals p are.feasible i low high) has

  named_holds : (n : Named) (p : Plan) (name : RowName) → AreRowsAt n p → IsNamed n name → HoldsIn p (row_named n name)
  named_holds n p (Balance i t) are has = base_is n p (Balance i t) are has
  named_holds n p (Link i t) are has = base_is n p (Link i t) are has
  named_holds n p (Capacity k t) are has = base_is n p (Capacity k t) are has
  named_holds n p (EndMin i) are has = base_is n p (EndMin i) are has
  named_holds n p (EndMax i) are has = base_is n p (EndMax i) are has
  named_holds n p (Top i t) are has = base_is n p (Top i t) are has
  named_holds n p (Least i t) are has = base_is n p (Least i t) are has
  named_holds n p (Late i t) are has = base_is n p (Late i t) are has
  named_holds n p (Path k) are has = bound_holds (value_in p) (slice_index_or n.path (k - 1) no_bound) (are.met (k - 1) no_bound (omega (arith, has.0, has.1)))
  named_holds n p (Cut k) are has = hold_at (whole_point (value_in p)) n.cuts (k - 1) (omega (arith, has.0, has.1)) are.cuts

  pub parts_hold : (n : Named) (p : Plan) (parts : List Part) → AreRowsAt n p → AreParts n parts → AllHold (whole_point (value_in p)) (rows_of n parts)
  parts_hold n p [] are has = tt
  parts_hold n p (a ∷ parts) are has =
      (named_holds n p a.row are (All-head (IsPart n) a parts has).named, parts_hold n p parts are (All-tail (IsPart n) a parts has))

base_columns : (n : Named) (name : RowName) → 1 ≤ n.problem.periods → HasRow n.problem name → All (λ a. IsColumn n.problem a.column) (row_of n.problem n.total name).terms
base_columns n name some has = All-filter (λ a. is_some_term a.times) (λ a. IsColumn n.problem a.column) (all_terms n.problem n.total name) (base_exists n.problem n.total name some has)

named_columns : (n : Named) (name : RowName) → AreColumnsOf n → IsNamed n name → All (λ a. IsColumn n.problem a.column) (row_named n name).terms
named_columns n (Balance i t) are has = base_columns n (Balance i t) are.some has
named_columns n (Link i t) are has = base_columns n (Link i t) are.some has
named_columns n (Capacity k t) are has = base_columns n (Capacity k t) are.some has
named_columns n (EndMin i) are has = base_columns n (EndMin i) are.some has
named_columns n (EndMax i) are has = base_columns n (EndMax i) are.some has
named_columns n (Top i t) are has = base_columns n (Top i t) are.some has
named_columns n (Least i t) are has = base_columns n (Least i t) are.some has
named_columns n (Late i t) are has = base_columns n (Late i t) are.some has
named_columns n (Path k) are has = bound_columns n.problem (slice_index_or n.path (k - 1) no_bound) (are.path (k - 1) no_bound (omega (arith, has.0, has.1)))
named_columns n (Cut k) are has = columns_at n.problem n.cuts (k - 1) (omega (arith, has.0, has.1)) are.cuts

pub parts_columns : (n : Named) (parts : List Part) → AreColumnsOf n → AreParts n parts → AreOfProblem n.problem (rows_of n parts)
parts_columns n [] are has = tt
parts_columns n (a ∷ parts) are has =
    (named_columns n a.row are (All-head (IsPart n) a parts has).named, parts_columns n parts are (All-tail (IsPart n) a parts has))

-- a denominator
natural : (z : ℤ) → pos 1 ≤ℤ z → (k : ℕ) × (z ≡ pos k)
natural (pos k) some = (k, refl)
natural (negsuc k) some = absurd (omega (arith, linear, some))

-- the laws on which leaves rest
pub record Grounds : Type 0 where
  pub totals : BoundsTotals
  pub bound : SumsBoundPlans
  pub refute : SumsRefute
  pub left : RangesAreLeft
  pub reduced : ReducedSumBounds
  pub choices : ReducedSumRefutes

module _ (by : Grounds) where
  linear_says : (n : Named) (den : ℤ) (parts : List Part) (bound : ℕ) (p : Plan) → IsLinear n den parts bound → AreColumnsOf n → AreRowsAt n p → bound ≤ cost n.problem p
  linear_says n den parts bound p is columns are =
      let m = n.problem in
      let (k, e) = natural den is.positive in
      let named = is.parts_exist in
      let most = by.bound m (rows_of n parts) (times_of parts) k (parts_signed n parts named) (parts_columns n parts columns named)
      (λ c has. subst (λ d. sum_of_column n parts c ≤ℤ (d *ℤ pos (column_cost m c))) e (is.columns c has)) p are.feasible (parts_hold by.totals n p parts are named) in
      is.right.least (cost m p) (subst (λ d. sum_of_right n parts ≤ℤ (d *ℤ pos (cost m p))) (sym e) most)

  farkas_says : (n : Named) (parts : List Part) (p : Plan) → IsFarkas n parts → AreColumnsOf n → AreRowsAt n p → ⊥
  farkas_says n parts p is columns are =
      let named = is.parts_exist in
      by.refute n.problem (rows_of n parts) (times_of parts) (parts_signed n parts named) (parts_columns n parts columns named) is.columns is.right (whole_point (value_in p)) (parts_hold by.totals n p parts are named)

  -- parts and groups add to no more than den times what the plan costs
  sum_bounds : (n : Named) (den : ℕ) (parts : List Part) (groups : List Group) (sum : ℤ) (p : Plan) → AreParts n parts → IsSumOf n den parts groups sum → AreColumnsOf n → AreRowsAt n p → sum ≤ℤ (pos den *ℤ pos (cost n.problem p))
  sum_bounds n den parts groups sum p named adds columns are =
      let known = are.known in
      by.reduced n.problem known.rank n.total (rows_of n parts) (times_of parts) den (map shape_of groups) sum known.some known.ranks known.totals (parts_signed n parts named) (parts_columns n parts columns named) adds p are.feasible (parts_hold by.totals n p parts are named)

  reduced_bounds : (n : Named) (den : ℕ) (parts : List Part) (lists : List ListShape) (groups : List Group) (bound : ℕ) (p : Plan) → IsReducedBound n den parts lists groups bound → AreColumnsOf n → AreRowsAt n p → bound ≤ cost n.problem p
  reduced_bounds n den parts lists groups bound p is columns are =
      is.right.least (cost n.problem p) (sum_bounds n den (all_parts parts lists) groups is.sum p is.listed.parts_exist is.adds columns are)

  reduced_refutes : (n : Named) (den : ℕ) (parts : List Part) (lists : List ListShape) (groups : List Group) (p : Plan) → IsReducedRefuted n den parts lists groups → AreColumnsOf n → AreRowsAt n p → ⊥
  reduced_refutes n den parts lists groups p is columns are =
      let known = are.known in
      let all = all_parts parts lists in
      ⊎_elim
      (λ lacks. by.choices n.problem known.rank n.total (rows_of n all) (times_of all) den (map shape_of groups) known.some known.ranks known.totals lacks p are.feasible)
      (λ has.
      let (none, sum, adds, more) = has in
      let most = subst (λ d. sum ≤ℤ (pos d *ℤ pos (cost n.problem p))) none (sum_bounds n den all groups sum p is.listed.parts_exist adds columns are) in
      omega (arith, linear, most, more))
      is.refuted

  -- a plan that lies where each quantity and setup is left one value has these values
  has_point : (n : Named) (ranges : Ranges) (p : Plan) → IsPoint n ranges → AreChoices n.problem n.path → AreMet (value_in p) n.path → IsWithin n.problem ranges p → HasChoice n.problem (point_make n ranges) (point_setup n ranges) p
  has_point n ranges p is choices met within =
      let left = (by.left n.problem ranges n.path choices p).1 (within, met) in
      record {
        make = λ i t low high t_low t_high.
            let kept = (left i t low high t_low t_high).0 in
            omega (arith, kept.0, kept.1, (is i t low high t_low t_high).0);
        setup = λ i t low high t_low t_high.
            let kept = (left i t low high t_low t_high).1 in
            omega (arith, kept.0, kept.1, (is i t low high t_low t_high).1);
      }

  pub leaf_is_so : (n : Named) (ranges : Ranges) (leaf : LeafShape) (says : LeafSays) (p : Plan) → Says n ranges leaf says → AreColumnsOf n → AreRowsAt n p → IsWithin n.problem ranges p → IsSoOf n.problem says p
  leaf_is_so n ranges (LinearLeaf den parts) NoPlan p is columns are within = absurd is
  leaf_is_so n ranges (LinearLeaf den parts) (AtLeast bound) p is columns are within = linear_says n den parts bound p is columns are
  leaf_is_so n ranges (FarkasLeaf parts) NoPlan p is columns are within = farkas_says n parts p is columns are
  leaf_is_so n ranges (FarkasLeaf parts) (AtLeast bound) p is columns are within = absurd is
  leaf_is_so n ranges PointLeaf NoPlan p is columns are within = is.1 p are.feasible (has_point n ranges p is.0 columns.path are.met within)
  leaf_is_so n ranges PointLeaf (AtLeast bound) p is columns are within = is.1.least p are.feasible (has_point n ranges p is.0 columns.path are.met within)
  leaf_is_so n ranges (ReducedLeaf den parts lists groups) NoPlan p is columns are within = reduced_refutes n den parts lists groups p is columns are
  leaf_is_so n ranges (ReducedLeaf den parts lists groups) (AtLeast bound) p is columns are within = reduced_bounds n den parts lists groups bound p is columns are
