-- The cuts of the items apart, and those of a root that closes, can begin a search.
use Rattle.std.proofs.Common.{◌≡◌, ◌<◌, ◌+◌, ◌^◌, ◌∙◌, ℕ, refl, sym, ap, subst, arith, List, [], ◌∷◌, ◌++◌, length, take, append-nil, Some}
use Rattle.std.specs.Prelude.{IfSome, IsSomeAnd, map, slice_index_or}
use Rattle.std.specs.List.{All}
use Rattle.std.proofs.Math.Seq.{take-length}
use Rattle.std.proofs.lemmas.List.{get_or-map, length-map, take_more}
use Rattle.lot_sizing.specs.Best.{IsFloor}
use Rattle.lot_sizing.specs.Problem.{IsWithinLimits, Problem}
use Rattle.lin_rows.specs.Columns.{IsColumn}
use Rattle.lin_rows.specs.Combining.{AreOfProblem}
use Rattle.lin_rows.specs.Rows.{LinRow}
use Rattle.cert_lines.specs.declared.parts.Cut.{Cut}
use Rattle.cert_lines.specs.declared.parts.Leaf.{Leaf}
use Rattle.cert_lines.specs.Shapes.{BlockCut, CutShape, FarkasLeaf, LeafShape, LinearLeaf, LsCut, PointLeaf, PriceCut, ReducedLeaf, RoundCut, cut_parts, cut_shape, leaf_shape}
use Rattle.certificate.specs.Values.{AreLines, leaf_values}
use Rattle.cert_trees.specs.Ranges.{WithTotals, whole_ranges}
use Rattle.cert_meaning.specs.declared.says.LeafSays.TheVariants.{AtLeast}
use Rattle.cert_meaning.specs.Accepts.{IsSmallCut}
use Rattle.cert_meaning.specs.CutRows.{IsCutRow}
use Rattle.cert_meaning.specs.Laws.{CutRowsAreOne, CutRowsGoOn, SmallCutsGoOn}
use Rattle.cert_meaning.specs.Named.{names}
use Rattle.cert_meaning.proofs.Rows.{of_push as columns_more}
use Rattle.cert_checker.specs.Checks.{AreGoodCuts, HaveGoodRows, no_cut}
use Rattle.cert_checker.specs.Cuts.{HasDivisor, OfProblem}
use Rattle.lp_relaxation.specs.Rounds.{IsLs}
use Rattle.search_result.specs.declared.found.RootSays.{RootSays}
use Rattle.search_result.specs.declared.found.RootSays.TheVariants as root
use Rattle.lp_root.specs.declared.round_leaf.Root.{Root}
use Rattle.lp_root.specs.Root.{AreWritable, BoundsPlans, HasFigures, RootMeans, SaysAmount, SaysOf, root_cuts}
use Rattle.leaf_growth.specs.Growth.{IsOfRows, LeafSaysSmall}
use Rattle.leaf_growth.specs.Written.{HasVersion, LeafHasLines}
use Rattle.leaf_growth.proofs.Amounts.{amount_small}
use Rattle.item_bound.specs.declared.found.Apart.{Apart}
use Rattle.item_bound.specs.Cuts.{leaf_from}
use Rattle.tree_search.specs.declared.proposal.Proposal.{Proposal}
use Rattle.tree_search.specs.Costs.{IsAtMost}
use Rattle.branching.specs.declared.beginning.Opening.{Opening}
use Rattle.branching.specs.Beginning.{AreApart, BeginsWith, IsClosedBy}
use Rattle.branching.specs.Begun.{AreKnownCuts, IsBegun}
use Rattle.branching.specs.Leaves.{said}

-- ---- rows of cuts one by one
pub record AreMadeTo (m : Problem) (cuts : List CutShape) (k : ℕ) (rows : List LinRow) : Type 0 where
  pub good : HaveGoodRows m (take k cuts) rows
  pub columns_exist : AreOfProblem m rows

pub none_made : (m : Problem) (cuts : List CutShape) → AreMadeTo m cuts 0 []
none_made m cuts = record { good = λ total weight totals weights. record { are = tt; small = tt }; columns_exist = tt }

pub cut_made : (m : Problem) (cuts : List CutShape) (k : ℕ) (rows new : List LinRow) (cut : CutShape) (row : LinRow) → CutRowsGoOn → SmallCutsGoOn → k < length cuts → cut ≡ slice_index_or cuts k no_cut → new ≡ rows ++ (row ∷ []) → AreMadeTo m cuts k rows → OfProblem m (λ total weight. IsCutRow m total weight rows cut row) → WithTotals m (λ total. IsSmallCut m total rows cut) → All (λ a. IsColumn m a.column) row.terms → AreMadeTo m cuts (k + 1) new
cut_made m cuts k rows new cut row go_on small_go_on less is is_new made is_row small exist =
    let next : take (k + 1) cuts ≡ take k cuts ++ (cut ∷ []) = take_more cuts k no_cut less ∙ ap (λ c. take k cuts ++ (c ∷ [])) (sym is) in
    record {
      good = λ total weight totals weights.
          let good = made.good total weight totals weights in
          let more : AreGoodCuts m total weight (take k cuts ++ (cut ∷ [])) (rows ++ (row ∷ [])) = record {
            are = go_on m total weight (take k cuts) rows cut row good.are (is_row total weight totals weights);
            small = small_go_on m total (take k cuts) rows cut row good.small (small total totals);
          } in
          subst (λ c. AreGoodCuts m total weight c new) (sym next) (subst (AreGoodCuts m total weight (take k cuts ++ (cut ∷ []))) (sym is_new) more);
      columns_exist = subst (AreOfProblem m) (sym is_new) (columns_more m rows row made.columns_exist exist);
    }

pub all_made : (m : Problem) (cuts : List CutShape) (k : ℕ) (rows : List LinRow) → k ≡ length cuts → AreMadeTo m cuts k rows → HaveGoodRows m cuts rows
all_made m cuts k rows all made = subst (λ c. HaveGoodRows m c rows) (ap (λ n. take n cuts) all ∙ take-length cuts) made.good

pub shape_at : (cuts : List Cut) (k : ℕ) (cut : Cut) → k < length cuts → cut ≡ slice_index_or cuts k cut → cut_shape cut ≡ slice_index_or (map cut_shape cuts) k no_cut
shape_at cuts k cut less is = ap cut_shape is ∙ sym (get_or-map cut_shape cuts k cut no_cut less)

pub shapes_exist : (cuts : List Cut) (k : ℕ) → k < length cuts → k < length (map cut_shape cuts)
shapes_exist cuts k less = omega (arith, less, length-map cuts cut_shape)

-- ---- the leaf to begin with
no_less_self : (n : ℕ) → IsAtMost (Some n) (Some n)
no_less_self n = omega arith

pub begun_of : (m : Problem) (version least amount : ℕ) (rows : List LinRow) (first : Proposal) (leaf : LeafShape) → HasVersion m version → IsFloor m amount → least ≡ amount → leaf_shape first.leaf ≡ leaf → first.says ≡ Some amount → LeafSaysSmall m rows [] leaf (AtLeast amount) → LeafHasLines version leaf → amount < 2 ^ 127 → IsOfRows leaf → IsBegun m version least first rows
begun_of m version least amount rows first leaf known floor same shape says is lines small of = record {
  known = known;
  floor = subst (IsFloor m) (sym same) floor;
  lasting = record {
    good = record {
      says = subst (λ s. LeafSaysSmall m rows [] (leaf_shape first.leaf) (said s)) (sym says) (subst (λ l. LeafSaysSmall m rows [] l (AtLeast amount)) (sym shape) is);
      lines = subst (LeafHasLines version) (sym shape) lines;
      no_less = subst (IsAtMost (Some least)) (sym says) (subst (λ n. IsAtMost (Some n) (Some amount)) (sym same) (no_less_self amount));
      small = subst (λ s. IfSome s (λ n. n < 2 ^ 127)) (sym says) small;
    };
    of_rows = subst IsOfRows (sym shape) of;
  };
  amount = says ∙ ap Some (sym same);
}

-- ---- the items apart
pub apart_begins : (m : Problem) (version : ℕ) (a : Apart) (b : Opening) (count : ℕ) → HasVersion m version → AreApart m a → b.cuts ≡ a.cuts → b.rows ≡ a.rows → b.least ≡ a.amount → b.first.says ≡ Some a.amount → leaf_shape b.first.leaf ≡ leaf_from 0 count → count ≡ length a.cuts.items → AreLines version (leaf_values (leaf_from 0 count)) → BeginsWith m version b
apart_begins m version a b count known is cuts_are rows_are least_is says shape count_is lines =
    let cuts = map cut_shape a.cuts.items in
    let rows = a.rows.items in
    let as_many : count ≡ length rows = omega (arith, count_is, is.cuts.as_many, length-map a.cuts.items cut_shape) in
    let same_rows = ap (λ v. v.items) rows_are in
    let here = is.says [] [] [] in
    let over : LeafSaysSmall m (rows ++ []) [] (leaf_from 0 (length rows)) (AtLeast a.amount) = record { said = here.0; small = here.1 } in
    let plain : LeafSaysSmall m rows [] (leaf_from 0 (length rows)) (AtLeast a.amount) = subst (λ (r : List LinRow). LeafSaysSmall m r [] (leaf_from 0 (length rows)) (AtLeast a.amount)) (append-nil rows) over in
    let counted : LeafSaysSmall m rows [] (leaf_from 0 count) (AtLeast a.amount) = subst (λ n. LeafSaysSmall m rows [] (leaf_from 0 n) (AtLeast a.amount)) (sym as_many) plain in
    record {
      cuts = subst (λ r. AreKnownCuts m version (map cut_shape b.cuts.items) r) (sym same_rows) (subst (λ s. AreKnownCuts m version s rows) (sym (ap (λ v. map cut_shape v.items) cuts_are)) (record {
        good = λ total weight totals weights. record { are = is.cuts.rows_are [] total weight totals weights; small = is.cuts.small total [] };
        few = omega (arith, is.cuts.few);
        lines = is.cuts.lines version;
        columns_exist = is.columns_exist;
      }));
      begun = subst (λ r. IsBegun m version b.least b.first r) (sym same_rows) (begun_of m version b.least a.amount rows b.first (leaf_from 0 count) known is.floor least_is shape says counted lines is.small tt);
    }

-- ---- a root that closes
closed_says : (m : Problem) (rows : List LinRow) (leaf : LeafShape) (amount : ℕ) → SaysAmount m rows amount leaf → LeafSaysSmall m rows [] leaf (AtLeast amount) × IsOfRows leaf
closed_says m rows (LinearLeaf den parts) amount is = (record { said = is.said; small = is.small }, tt)
closed_says m rows (FarkasLeaf parts) amount is = absurd is
closed_says m rows PointLeaf amount is = absurd is
closed_says m rows (ReducedLeaf den parts lists groups) amount is = absurd is

pub closed_begins : (m : Problem) (version : ℕ) (cuts : List Cut) (leaf : Leaf) (amount : ℕ) (b : Opening) → CutRowsAreOne → IsWithinLimits m → HasVersion m version → IsClosedBy m (map cut_shape cuts) (leaf_shape leaf) amount → HaveGoodRows m (map cut_shape cuts) b.rows.items → AreOfProblem m b.rows.items → b.cuts.items ≡ cuts → b.least ≡ amount → b.first.says ≡ Some amount → b.first.leaf ≡ leaf → BeginsWith m version b
closed_begins m version cuts leaf amount b one limits known is good exist cuts_are least_is says leaf_is =
    let (total, weight, totals, weights) = is.figures in
    let shapes = map cut_shape cuts in
    let same : is.rows ≡ b.rows.items = one m total weight shapes is.rows b.rows.items limits (is.have.rows_are total weight totals weights) (good total weight totals weights).are in
    let both = closed_says m is.rows (leaf_shape leaf) amount is.says in
    let over : LeafSaysSmall m b.rows.items [] (leaf_shape leaf) (AtLeast amount) = subst (λ (r : List LinRow). LeafSaysSmall m r [] (leaf_shape leaf) (AtLeast amount)) same both.0 in
    record {
      cuts = subst (λ s. AreKnownCuts m version s b.rows.items) (sym (ap (λ c. map cut_shape c) cuts_are)) (record {
        good = good;
        few = is.have.few;
        lines = is.cut_lines version;
        columns_exist = exist;
      });
      begun = begun_of m version b.least amount b.rows.items b.first (leaf_shape leaf) known is.floor least_is (ap leaf_shape leaf_is) says over (is.leaf_lines version known.plain)
          (amount_small (names m total b.rows.items []) (whole_ranges total) (leaf_shape leaf) amount both.1 (record { said = over.said total totals; small = over.small total totals }))
          both.1;
    }

-- ---- (l,S) cuts
pub divisor_of : (c : CutShape) → IsLs c → HasDivisor c
divisor_of (LsCut item last chosen) is = tt
divisor_of (PriceCut item a) is = absurd is
divisor_of (BlockCut item a) is = absurd is
divisor_of (RoundCut divisor parts) is = absurd is

pub parts_of : (c : CutShape) → IsLs c → length (cut_parts c) ≡ 0
parts_of (LsCut item last chosen) is = refl
parts_of (PriceCut item a) is = absurd is
parts_of (BlockCut item a) is = absurd is
parts_of (RoundCut divisor parts) is = absurd is

pub ls_at : (cuts : List Cut) (k : ℕ) (cut : Cut) → k < length cuts → cut ≡ slice_index_or cuts k cut → All (λ c. IsLs (cut_shape c)) cuts → IsLs (cut_shape cut)
ls_at cuts k cut less is each = subst (λ c. IsLs (cut_shape c)) (sym is) (each k cut less)

pub ls_each : (cuts : List Cut) → All IsLs (map cut_shape cuts) → All (λ c. IsLs (cut_shape c)) cuts
ls_each cuts are k d less = subst IsLs (get_or-map cut_shape cuts k d (cut_shape d) less) (are k (cut_shape d) (shapes_exist cuts k less))

-- the root's own leaf, where it closes
pub closed_by : (m : Problem) (r : Root) (leaf : Leaf) (amount : ℕ) → HasFigures m → RootMeans m r → AreWritable m (root_cuts r) r.leaf → BoundsPlans m r.says → r.says ≡ root.Closed amount → r.leaf ≡ Some leaf → IsClosedBy m (root_cuts r) (leaf_shape leaf) amount
closed_by m r leaf amount figures means writable bounds says_is leaf_is =
    let P : RootSays → Type 0 = λ said. SaysOf m said (root_cuts r) means.rows r.leaf in
    let said = subst P says_is means.says in
    record {
      figures = figures;
      floor = subst (BoundsPlans m) says_is bounds;
      rows = means.rows;
      have = means.cuts;
      says = subst (λ l. IsSomeAnd l (λ a. SaysAmount m means.rows amount (leaf_shape a))) leaf_is said.1.1;
      cut_lines = writable.cut_lines;
      leaf_lines = λ version known. subst (λ l. IfSome l (λ a. AreLines version (leaf_values (leaf_shape a)))) leaf_is (writable.leaf_lines version known);
    }
