-- How the outcome of a round closes the relaxation.
use Rattle.std.proofs.Common.{◌≡◌, ◌≤◌, ◌<◌, ◌+◌, ◌-◌, ◌*◌, ◌∙◌, ⊎_elim, ℕ, zero, suc, sym, ap, subst, arith, List, [], ◌∷◌, ◌++◌, length, slice_index_or}
use Rattle.std.specs.Prelude.{map, ℤ, pos, negsuc, ◌+ℤ◌, ◌-ℤ◌, ◌*ℤ◌, ◌≤ℤ◌}
use Rattle.std.specs.List.{All}
use Rattle.std.proofs.lemmas.Bool.{cases_lt}
use Rattle.std.proofs.lemmas.Int.{ints}
use Rattle.std.proofs.lemmas.List.Elements.{All-filter, All-head, All-tail, Contains-append_left}
use Rattle.algebra.proofs.Integers.{add_mul, mul_comm, neg_mul, one_mul}
use Rattle.algebra.proofs.Order.{linear}
use Rattle.algebra.proofs.Ordered.{mul_le}
use Rattle.rational.specs.Rational.{ℚ, whole, ceil_ℚ, ◌*ℚ◌, ◌≤ℚ◌}
use Rattle.rational.proofs.Rationals as Q
use Rattle.rational.proofs.Rationals.{rational_ordered, whole-mul}
use Rattle.rational.proofs.Facts.{cancel_le, is_ceiling, whole-le, le-whole, ◌<ℚ◌}
use Rattle.lot_sizing.specs.Problem.{Problem}
use Rattle.echelon.specs.Views.{marked}
use Rattle.lin_rows.specs.declared.base.RowName.{RowName}
use Rattle.lin_rows.specs.declared.base.RowName.TheVariants.{Balance, Link, Capacity, EndMin, EndMax, Top, Least, Late, Path, Cut}
use Rattle.lin_rows.specs.Base.{HasRow, all_terms, is_some_term}
use Rattle.lin_rows.specs.Columns.{IsColumn}
use Rattle.lin_rows.specs.Combining.{AllHold, AreOfProblem}
use Rattle.lin_rows.specs.Costs.{point_cost}
use Rattle.lin_rows.specs.Rows.{HoldsAt, LinPoint, LinRow}
use Rattle.lin_rows.proofs.Columns.{base_exists}
use Rattle.ls_cuts.specs.Laws.{PointsHaveFractions}
use Rattle.ls_cuts.specs.Points.{Fractions}
use Rattle.cert_lines.specs.Shapes.{CutShape, LsCut, PriceCut, BlockCut, RoundCut}
use Rattle.tableau.specs.Program.{Program}
use Rattle.cert_meaning.specs.Named.{IsNamed, no_row, row_named}
use Rattle.cert_meaning.specs.CutRows.{AreCutRows}
use Rattle.cert_meaning.specs.Laws.{CutsHold, EchelonRowsAreOne}
use Rattle.lp_relaxation.specs.Values.{ClosesByOne, EmptyByOne}
use Rattle.lp_relaxation.specs.Relaxation.{IsClosedValue, IsRelaxed, MeetsLsRows}
use Rattle.lp_relaxation.specs.Names.{cut_names, round_names}
use Rattle.lp_relaxation.specs.Rounds.{AreRead, IsLs, IsRootRound, NoneIsViolated, RoundsClose, RoundsRefute, at_root}
use Rattle.lp_relaxation.specs.Says.{AreRowsOf, EmptyIsSaid, HasFractions, LeastIsSaid, LeastSays}
use Rattle.lp_relaxation.proofs.Growing.{base_named, each_round}
use Rattle.lp_relaxation.proofs.Naming.{names_are}

-- ---- lists of rows
hold_at : (q : LinPoint) (rows : List LinRow) (k : ℕ) → k < length rows → AllHold q rows → HoldsAt q (slice_index_or rows k no_row)
hold_at q [] k less hold = absurd (omega (arith, less))
hold_at q (r ∷ rows) zero less hold = hold.0
hold_at q (r ∷ rows) (suc k) less hold = hold_at q rows k (omega (arith, less)) hold.1

columns_at : (m : Problem) (rows : List LinRow) (k : ℕ) → k < length rows → AreOfProblem m rows → All (λ a. IsColumn m a.column) (slice_index_or rows k no_row).terms
columns_at m [] k less are = absurd (omega (arith, less))
columns_at m (r ∷ rows) zero less are = are.0
columns_at m (r ∷ rows) (suc k) less are = columns_at m rows k (omega (arith, less)) are.1

pub all_hold : (q : LinPoint) (row : RowName → LinRow) (names : List RowName) → All (λ name. HoldsAt q (row name)) names → AllHold q (map row names)
all_hold q row [] each = tt
all_hold q row (name ∷ names) each =
    let P = λ (n : RowName). HoldsAt q (row n) in
    (All-head P name names each, all_hold q row names (All-tail P name names each))

pub all_exist : (m : Problem) (row : RowName → LinRow) (names : List RowName) → All (λ name. All (λ a. IsColumn m a.column) (row name).terms) names → AreOfProblem m (map row names)
all_exist m row [] each = tt
all_exist m row (name ∷ names) each =
    let P = λ (n : RowName). All (λ a. IsColumn m a.column) (row n).terms in
    (All-head P name names each, all_exist m row names (All-tail P name names each))

-- one of the rows that hold
pub one_holds : (q : LinPoint) (row : RowName → LinRow) (names : List RowName) (name : RowName) (k : ℕ) → k < length names → slice_index_or names k name ≡ name → AllHold q (map row names) → HoldsAt q (row name)
one_holds q row [] name k less is hold = absurd (omega (arith, less))
one_holds q row (first ∷ names) name zero less is hold = subst (λ n. HoldsAt q (row n)) is hold.0
one_holds q row (first ∷ names) name (suc k) less is hold = one_holds q row names name k (omega (arith, less)) is hold.1

pub whole_above : (n : ℕ) → 1 ≤ n → whole (pos 0) <ℚ whole (pos n)
whole_above n some le = let l = le-whole (pos n) (pos 0) le in omega (arith, ints, l, some)

-- the rows of (l,S) cuts hold at each point of the relaxation
cuts_met : (m : Problem) (total : ℕ → ℕ) (weight : ℕ → ℕ → ℕ) (q : LinPoint) → MeetsLsRows m weight q → (earlier : List LinRow) (cuts : List CutShape) (rows : List LinRow) → All IsLs cuts → AreCutRows m total weight earlier cuts rows → AllHold q rows
cuts_met m total weight q meets earlier [] [] are is = tt
cuts_met m total weight q meets earlier [] (r ∷ rows) are is = absurd is
cuts_met m total weight q meets earlier (c ∷ cuts) [] are is = absurd is
cuts_met m total weight q meets earlier (LsCut item last marks ∷ cuts) (r ∷ rows) are is =
    let here = is.0 in
    (subst (HoldsAt q) (sym here.1) (meets item last marks here.0), cuts_met m total weight q meets (earlier ++ (r ∷ [])) cuts rows (All-tail IsLs (LsCut item last marks) cuts are) is.1)
cuts_met m total weight q meets earlier (PriceCut item a ∷ cuts) (r ∷ rows) are is = absurd (All-head IsLs (PriceCut item a) cuts are)
cuts_met m total weight q meets earlier (BlockCut item a ∷ cuts) (r ∷ rows) are is = absurd (All-head IsLs (BlockCut item a) cuts are)
cuts_met m total weight q meets earlier (RoundCut divisor parts ∷ cuts) (r ∷ rows) are is = absurd (All-head IsLs (RoundCut divisor parts) cuts are)

-- a name of a row that the rules make is one
base_is_named : (m : Problem) (total : ℕ → ℕ) (rows : List LinRow) (name : RowName) → HasRow m name → IsNamed (at_root m total rows) name
base_is_named m total rows (Balance i t) has = has
base_is_named m total rows (Link i t) has = has
base_is_named m total rows (Capacity k t) has = has
base_is_named m total rows (EndMin i) has = has
base_is_named m total rows (EndMax i) has = has
base_is_named m total rows (Top i t) has = has
base_is_named m total rows (Least i t) has = has
base_is_named m total rows (Late i t) has = has
base_is_named m total rows (Path n) has = absurd has
base_is_named m total rows (Cut n) has = absurd has

module _ (hold : CutsHold) (m : Problem) (total : ℕ → ℕ) (weight : ℕ → ℕ → ℕ) (cuts : List CutShape) (rows : List LinRow) (p : Program) (is : IsRootRound m total weight cuts rows p) where
  abbrev row : RowName → LinRow
  row = row_named (at_root m total rows)

  abbrev list : List RowName
  list = round_names m (length rows)

  cut_columns : AreOfProblem m rows
  cut_columns = let ranks = is.ranks in (hold m ranks.0 total weight is.limits.some_period ranks.1 is.totals is.weights cuts rows is.rows_are).1

  base_columns : (name : RowName) → HasRow m name → All (λ a. IsColumn m a.column) (row name).terms
  base_columns name has =
      subst (λ r. All (λ a. IsColumn m a.column) r.terms) (sym (base_named m total rows name has))
      (All-filter (λ a. is_some_term a.times) (λ a. IsColumn m a.column) (all_terms m total name) (base_exists m total name is.limits.some_period has))

  pub are_rows : AreRowsOf (at_root m total rows) list
  are_rows = record {
    limits = is.limits;
    named = each_round (IsNamed (at_root m total rows)) m (length rows) (base_is_named m total rows) (λ k low high. (low, high));
    columns = all_exist m row list (each_round (λ name. All (λ a. IsColumn m a.column) (row name).terms) m (length rows) base_columns (λ k low high. columns_at m rows (k - 1) (omega (arith, low, high)) cut_columns));
  }

  -- a point of the relaxation meets the round's rows
  pub relaxed_meets : (q : LinPoint) → IsRelaxed m total weight q → AllHold q (map row list)
  relaxed_meets q relaxed =
      let cuts_hold = cuts_met m total weight q relaxed.ls [] cuts rows is.are_ls is.rows_are in
      all_hold q row list
      (each_round (λ name. HoldsAt q (row name)) m (length rows)
      (λ name has. subst (HoldsAt q) (sym (base_named m total rows name has)) (relaxed.base name has))
      (λ k low high. hold_at q rows (k - 1) (omega (arith, low, high)) cuts_hold))

  -- and one that meets them and all (l,S) rows is a point of the relaxation
  is_relaxed : (q : LinPoint) → AllHold q (map row list) → MeetsLsRows m weight q → IsRelaxed m total weight q
  is_relaxed q met meets = record {
    base = λ name has.
        let (k, less, at) = Contains-append_left _ (cut_names (length rows)) name ((names_are m).every name has) in
        subst (HoldsAt q) (base_named m total rows name has) (one_holds q row list name k less at met);
    ls = meets;
  }

  module _ (x : ℕ → ℚ) (value : ℚ) (den : ℕ) (z : ℕ → ℤ) (says : LeastSays (at_root m total rows) list x value den z) where
    -- a point of these fractions costs at most a whole number that isn't below the value
    at_most : (q : LinPoint) → HasFractions m x q → (c : ℕ) → pos c ≡ ceil_ℚ value → point_cost m q.values ≤ c * q.den
    at_most q point c rounded =
        let above : value ≤ℚ whole (pos c) = subst (λ k. value ≤ℚ whole k) (sym rounded) (is_ceiling value).above in
        let l = le-whole (pos (point_cost m q.values)) (pos q.den *ℤ pos c)
        (subst (λ s. s ≤ℚ whole (pos q.den *ℤ pos c)) (sym (says.cost q point)) (subst (λ s. whole (pos q.den) *ℚ value ≤ℚ s) (sym (whole-mul (pos q.den) (pos c))) (mul_le rational_ordered (whole (pos q.den)) value (whole (pos c)) (whole-le (pos 0) (pos q.den) (omega (arith, ints))) above))) in
        omega (arith, ints, l, mul_comm (pos q.den) (pos c))

    -- and none of the relaxation at most one less
    none_below : (c : ℕ) → pos c ≡ ceil_ℚ value → (q : LinPoint) → IsRelaxed m total weight q → c * q.den < point_cost m q.values + q.den
    none_below c rounded q relaxed =
        ⊎_elim
        (λ less. less)
        (λ most. absurd (below most))
        (cases_lt (c * q.den) (point_cost m q.values + q.den))
      where
        minus : (a : ℤ) → a -ℤ pos 1 ≡ a +ℤ negsuc 0
        minus a = omega (arith, ints)

        below : point_cost m q.values + q.den ≤ c * q.den → ⊥
        below most =
            let v = point_cost m q.values in
            let w = pos c -ℤ pos 1 in
            let here : pos v ≤ℤ (pos q.den *ℤ w) = omega (arith, linear, most, mul_comm (pos q.den) w, add_mul (pos c) (negsuc 0) (pos q.den), minus (pos c), neg_mul (pos 1) (pos q.den), one_mul (pos q.den)) in
            let low : (whole (pos q.den) *ℚ value) ≤ℚ (whole (pos q.den) *ℚ whole w) = Q.le_trans _ (whole (pos v)) _ (says.least q (relaxed_meets q relaxed)) (subst (λ s. whole (pos v) ≤ℚ s) (whole-mul (pos q.den) w) (whole-le (pos v) (pos q.den *ℤ w) here)) in
            let l = (is_ceiling value).least w (cancel_le (whole (pos q.den)) value (whole w) (whole_above q.den q.positive) low) in
            omega (arith, ints, l, rounded)

    pub closed : (q : LinPoint) → HasFractions m x q → MeetsLsRows m weight q → (c : ℕ) → pos c ≡ ceil_ℚ value → IsClosedValue m total weight c
    closed q point meets c rounded = record {
      some = (q, is_relaxed q (says.met q point) meets, at_most q point c rounded);
      each = none_below c rounded;
    }

-- what separation leaves meets all (l,S) rows
none_left : PointsHaveFractions → EchelonRowsAreOne → (m : Problem) (weight : ℕ → ℕ → ℕ) (x : ℕ → ℚ) (read : Fractions) → AreRead m x read → NoneIsViolated m weight read → (q : LinPoint) → HasFractions m x q → MeetsLsRows m weight q
none_left fractions one m weight x read reads none q point i l marks is =
    let (e, of, met) = none i l is.echelon is.low is.high in
    let own = fractions m weight i e of q read (λ c has. point c has ∙ ap (λ v. whole (pos q.den) *ℚ v) (sym (reads c has))) l (omega (arith, is.high, of.echelon.demand.size)) in
    subst (HoldsAt q) ((one m weight i e of.echelon).0 l (marked marks) is.high) (met.points q own (marked marks))

pub rounds_close : LeastIsSaid → CutsHold → PointsHaveFractions → EchelonRowsAreOne → ClosesByOne → RoundsClose
rounds_close said hold fractions one closes m total weight cuts rows p x y value read den z c is best reads none of_leaf rounded =
    let says = said (at_root m total rows) (round_names m (length rows)) p x y value den z (are_rows hold m total weight cuts rows p is) is.program best of_leaf in
    let (q, point) = says.point in
    let value_is = closed hold m total weight cuts rows p is x value den z says q point (none_left fractions one m weight x read reads none q point) c rounded in
    let ranks = is.ranks in
    (closes m ranks.0 total weight is.limits.some_period ranks.1 is.totals is.weights c value_is, says.leaf c rounded)

pub rounds_refute : EmptyIsSaid → CutsHold → EmptyByOne → RoundsRefute
rounds_refute said hold empty_by m total weight cuts rows p y den z is empty of_leaf =
    let says = said (at_root m total rows) (round_names m (length rows)) p y den z (are_rows hold m total weight cuts rows p is) is.program empty of_leaf in
    let ranks = is.ranks in
    (empty_by m ranks.0 total weight is.limits.some_period ranks.1 is.totals is.weights (λ q relaxed. says.none q (relaxed_meets hold m total weight cuts rows p is q relaxed)), says.leaf)
