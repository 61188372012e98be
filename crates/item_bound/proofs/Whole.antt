-- What is known once all items have been looked at.
use Rattle.std.proofs.Common.{◌≡◌, ◌<◌, ◌^◌, ℕ, zero, suc, refl, ap, subst, arith, List, [], ◌∷◌, ◌++◌, append-nil, length, slice_index_or}
use Rattle.std.specs.Prelude.{map}
use Rattle.std.proofs.lemmas.List.Elements.{All-nil}
use Rattle.lot_sizing.specs.Problem.{IsWithinLimits, Problem, item_count}
use Rattle.lot_sizing.specs.Best.{IsFloor}
use Rattle.lot_model.specs.Views.{IsInstance}
use Rattle.lin_rows.specs.declared.bound.Bound.{Bound}
use Rattle.lin_rows.specs.Columns.{value_in}
use Rattle.lin_rows.specs.Combining.{AreOfProblem}
use Rattle.lin_rows.specs.Rows.{LinRow}
use Rattle.cert_lines.specs.Shapes.{CutShape, cut_shape}
use Rattle.certificate.specs.Values.{AreLines, all_cut_values, cut_values}
use Rattle.certificate.proofs.Shorts.{lines_join}
use Rattle.cert_trees.specs.Laws.{PlansAreWithin}
use Rattle.cert_trees.specs.Paths.{IsMet}
use Rattle.cert_trees.specs.Ranges.{IsChoice, whole_ranges}
use Rattle.cert_meaning.specs.declared.says.LeafSays.TheVariants.{AtLeast}
use Rattle.cert_meaning.specs.Accepts.{AreSmallCuts}
use Rattle.cert_meaning.specs.CutRows.{AreCutRows}
use Rattle.cert_meaning.specs.Laws.{HoldAtPlans, LeavesBound}
use Rattle.cert_meaning.specs.Named.{names}
use Rattle.cert_meaning.specs.Says.{Says}
use Rattle.cert_checker.specs.Cuts.{OfProblem}
use Rattle.item_bound.specs.declared.found.Apart.{Apart}
use Rattle.item_bound.specs.Apart.{IsApart}
use Rattle.item_bound.specs.Cuts.{AreCutsAnywhere, IsCutAnywhere, SayAnywhere, leaf_from}
use Rattle.item_bound.specs.Steps.{AreApartTo, AreGoodCuts}
use Rattle.item_bound.proofs.Says.{say_anywhere}

module _ (m : Problem) where
  as_many : (cuts : List CutShape) (rows : List LinRow) → AreGoodCuts m cuts rows → length rows ≡ length cuts
  as_many [] [] all = refl
  as_many [] (r ∷ rows) all = absurd all
  as_many (c ∷ cuts) [] all = absurd all
  as_many (c ∷ cuts) (r ∷ rows) all = ap suc (as_many cuts rows all.1)

  each : (cuts : List CutShape) (rows : List LinRow) → AreGoodCuts m cuts rows → (k : ℕ) (c : CutShape) (r : LinRow) → k < length cuts → IsCutAnywhere m (slice_index_or cuts k c) (slice_index_or rows k r)
  each [] rows all k c r less = absurd (omega (arith, less))
  each (b ∷ cuts) [] all k c r less = absurd all
  each (b ∷ cuts) (s ∷ rows) all zero c r less = all.0.anywhere
  each (b ∷ cuts) (s ∷ rows) all (suc k) c r less = each cuts rows all.1 k c r (omega (arith, less))

  rows_are : (cuts : List CutShape) (rows : List LinRow) → AreGoodCuts m cuts rows → (earlier : List LinRow) → OfProblem m (λ total weight. AreCutRows m total weight earlier cuts rows)
  rows_are [] [] all earlier total weight totals are = tt
  rows_are [] (r ∷ rows) all earlier total weight totals are = absurd all
  rows_are (c ∷ cuts) [] all earlier total weight totals are = absurd all
  rows_are (c ∷ cuts) (r ∷ rows) all earlier total weight totals are =
      (all.0.anywhere.row_is earlier total weight totals are, rows_are cuts rows all.1 (earlier ++ (r ∷ [])) total weight totals are)

  small : (cuts : List CutShape) (rows : List LinRow) → AreGoodCuts m cuts rows → (total : ℕ → ℕ) (earlier : List LinRow) → AreSmallCuts m total earlier cuts rows
  small [] [] all total earlier = tt
  small [] (r ∷ rows) all total earlier = absurd all
  small (c ∷ cuts) [] all total earlier = absurd all
  small (c ∷ cuts) (r ∷ rows) all total earlier = (all.0.anywhere.small total earlier, small cuts rows all.1 total (earlier ++ (r ∷ [])))

  lines : (version : ℕ) (cuts : List CutShape) (rows : List LinRow) → AreGoodCuts m cuts rows → AreLines version (all_cut_values cuts)
  lines version [] rows all = tt
  lines version (c ∷ cuts) [] all = absurd all
  lines version (c ∷ cuts) (r ∷ rows) all = lines_join version (cut_values c) (all_cut_values cuts) (all.0.anywhere.lines version) (lines version cuts rows all.1)

  hold : (cuts : List CutShape) (rows : List LinRow) → AreGoodCuts m cuts rows → HoldAtPlans m rows
  hold cuts [] all p feasible = tt
  hold [] (r ∷ rows) all p feasible = absurd all
  hold (c ∷ cuts) (r ∷ rows) all p feasible = (all.0.holds p feasible, hold cuts rows all.1 p feasible)

  columns_exist : (cuts : List CutShape) (rows : List LinRow) → AreGoodCuts m cuts rows → AreOfProblem m rows
  columns_exist cuts [] all = tt
  columns_exist [] (r ∷ rows) all = absurd all
  columns_exist (c ∷ cuts) (r ∷ rows) all = (all.0.columns_exist, columns_exist cuts rows all.1)

  module _ (within : IsWithinLimits m) (a : Apart) (done : AreApartTo m (item_count m) a) where
    pub whole_amount : IsApart m a.amount
    whole_amount = record { own = done.own; sum = done.sum }

    pub whole_small : a.amount < 2 ^ 127
    whole_small = omega (arith, done.small, within.items)

    pub whole_cuts : AreCutsAnywhere m (map cut_shape a.cuts.items) a.rows.items
    whole_cuts =
        let cuts = map cut_shape a.cuts.items in
        let rows = a.rows.items in
        record {
          as_many = as_many cuts rows done.cuts;
          few = omega (arith, as_many cuts rows done.cuts, done.few, within.items);
          each = each cuts rows done.cuts;
          rows_are = rows_are cuts rows done.cuts;
          small = small cuts rows done.cuts;
          lines = λ version. lines version cuts rows done.cuts;
        }

    pub whole_hold : HoldAtPlans m a.rows.items
    whole_hold = hold (map cut_shape a.cuts.items) a.rows.items done.cuts

    pub whole_columns : AreOfProblem m a.rows.items
    whole_columns = columns_exist (map cut_shape a.cuts.items) a.rows.items done.cuts

    pub whole_leaf : SayAnywhere m a.rows.items a.amount
    whole_leaf = say_anywhere m (item_count m) (map cut_shape a.cuts.items) a.rows.items a.amount (record { good = done.cuts; taken = done.taken; rights = done.rights }) whole_small

    -- the leaf at the root, with no other cuts, bounds what plans cost
    pub whole_floor : LeavesBound → PlansAreWithin → IsInstance m → IsFloor m a.amount
    whole_floor bounds plans instance p feasible =
        let (total, totals, few) = instance.totals in
        let (rank, ranks) = instance.ranked in
        let rows = a.rows.items in
        let leaf = leaf_from 0 (length rows) in
        let says : Says (names m total rows []) (whole_ranges total) leaf (AtLeast a.amount) =
        subst (λ cuts. Says (names m total cuts []) (whole_ranges total) leaf (AtLeast a.amount)) (append-nil rows) ((whole_leaf [] [] []).0 total totals) in
        bounds m rank total rows [] (whole_ranges total) leaf (AtLeast a.amount) within.some_period ranks totals whole_hold whole_columns (All-nil (λ (b : Bound). IsChoice m b.column)) says p feasible
        (plans m rank total within.some_period ranks totals p feasible) (All-nil (IsMet (value_in p)))
