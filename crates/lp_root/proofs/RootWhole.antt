-- What is said at the root in the end, and what it says of plans.
use Rattle.std.proofs.Common.{◌≡◌, ◌≤◌, ◌+◌, ◌*◌, ◌∙◌, inr, ℕ, refl, sym, ap, subst, arith, List, [], length}
use Rattle.std.specs.Prelude.{◌↔◌, Option, IsNone}
use Rattle.std.proofs.lemmas.List.Elements.{All-nil}
use Rattle.lot_sizing.specs.Problem.{IsUncoupled, IsWithinLimits, Problem}
use Rattle.lot_sizing.specs.Bill.{bill_of}
use Rattle.lot_sizing.specs.Totals.{AreLargestTotals}
use Rattle.bill.specs.Laws.{WeightsExist}
use Rattle.lot_model.specs.Views.{IsInstance}
use Rattle.lin_rows.specs.Columns.{column_count}
use Rattle.lin_rows.specs.Rows.{LinRow}
use Rattle.cert_lines.specs.declared.limits.TheConstants.{MAX_CUTS}
use Rattle.cert_lines.specs.declared.parts.Leaf.{Leaf}
use Rattle.cert_lines.specs.Shapes.{CutShape}
use Rattle.tableau.specs.Program.{column_count as width_of, row_count}
use Rattle.lp_relaxation.specs.Values.{ClosedValuesAreFloors, EmptyIsImpossible}
use Rattle.lp_relaxation.specs.declared.rounds.RoundProgram.{RoundProgram}
use Rattle.lp_relaxation.specs.Rounds.{IsLs, IsRound, round_sides}
use Rattle.lp_root.specs.declared.at_root.TheConstants.{MAX_ROUNDS}
use Rattle.search_result.specs.declared.found.RootSays.{RootSays}
use Rattle.search_result.specs.declared.found.RootSays.TheVariants as root
use Rattle.lp_root.specs.declared.round.Rounds.{Rounds}
use Rattle.lp_root.specs.declared.round_leaf.Root.{Root}
use Rattle.lp_root.specs.declared.round_leaf.Verdict.{Verdict}
use Rattle.lp_root.specs.Root.{AreWritable, BoundsPlans, HasFigures, HasLeafLines, HaveCutLines, HaveRootRows, IsTooLarge, IsTried, RootMeans, RoundsSay, SaysOf, first_cells, root_cuts}
use Rattle.lp_root.specs.RootSteps.{AreRounds, EndsRounds, shapes}
use Rattle.lp_root.proofs.RootCounts.{after_long, few_cuts}
use Rattle.lp_root.proofs.RootCuts.{root_columns, root_hold, root_ls, root_many, root_rows}
use Rattle.lp_root.proofs.RootTexts.{cut_lines, no_lines}

pub figures_exist : (m : Problem) → WeightsExist → IsInstance m → HasFigures m
figures_exist m exist instance =
    let (total, totals, small) = instance.totals in
    let (rank, ranks) = instance.ranked in
    let (weight, weights) = exist (bill_of m) rank ranks in
    (total, weight, totals, weights)

-- ---- after rounds
-- the last one has found more
pub last_stops : (m : Problem) → HasFigures m → (n : ℕ) → n ≡ MAX_ROUNDS → (state : Rounds) → AreRounds m n state → (v : Verdict) → v.says ≡ root.Stopped MAX_ROUNDS → IsNone v.leaf → EndsRounds m v (shapes state.list) state.list.rows.items
last_stops m figures n all state are v says none =
    let (total, weight, totals, weights) = figures in
    let last = subst (λ k. AreRounds m k state) all are in
    record {
      cuts_are = last.cuts;
      few = after_long m total weight MAX_ROUNDS (shapes state.list) (last.after total weight totals weights);
      said = subst (λ s. RoundsSay m s (shapes state.list) state.list.rows.items v.leaf) (sym says) (λ total weight totals weights. inr (refl, last.after total weight totals weights), none);
      leaf_lines = λ few. no_lines m v.leaf none;
    }

tried_says : (m : Problem) → IsTried m → (says : RootSays) (cuts : List CutShape) (rows : List LinRow) (leaf : Option Leaf) → RoundsSay m says cuts rows leaf → SaysOf m says cuts rows leaf
tried_says m tried root.Uncoupled cuts rows leaf said = absurd said
tried_says m tried (root.Skipped cells) cuts rows leaf said = absurd said
tried_says m tried (root.Closed c) cuts rows leaf said = (tried, said)
tried_says m tried root.Empty cuts rows leaf said = (tried, said)
tried_says m tried (root.Stopped round) cuts rows leaf said = (tried, said)
tried_says m tried (root.Passed round at) cuts rows leaf said = (tried, said)

pub rounds_mean : (m : Problem) → HasFigures m → IsTried m → (v : Verdict) (cuts : List CutShape) (rows : List LinRow) → EndsRounds m v cuts rows → (r : Root) → r.says ≡ v.says → root_cuts r ≡ cuts → r.leaf ≡ v.leaf → RootMeans m r
rounds_mean m figures tried v cuts rows ends r says same leaf =
    let (total, weight, totals, weights) = figures in
    record {
      rows = rows;
      cuts = subst (λ s. HaveRootRows m s rows) (sym same) (record {
        are_ls = root_ls m cuts rows ends.cuts_are;
        few = few_cuts m total (length cuts) (tried.few total totals) ends.few;
        rows_are = λ total weight totals weights. root_rows m total weight totals weights [] cuts rows ends.cuts_are;
        hold = root_hold m cuts rows ends.cuts_are;
        columns_exist = root_columns m cuts rows ends.cuts_are;
      });
      says = subst (λ s. SaysOf m r.says s rows r.leaf) (sym same)
          (subst (λ a. SaysOf m r.says cuts rows a) (sym leaf)
          (subst (λ s. SaysOf m s cuts rows v.leaf) (sym says) (tried_says m tried v.says cuts rows v.leaf ends.said)));
    }

-- the cuts and the leaf are writable
pub rounds_writable : (m : Problem) → HasFigures m → IsTried m → IsWithinLimits m → (v : Verdict) (cuts : List CutShape) (rows : List LinRow) → EndsRounds m v cuts rows → (r : Root) → root_cuts r ≡ cuts → r.leaf ≡ v.leaf → AreWritable m (root_cuts r) r.leaf
rounds_writable m figures tried limits v cuts rows ends r same leaf =
    let (total, weight, totals, weights) = figures in
    let few : length rows ≤ MAX_CUTS = omega (arith, root_many m cuts rows ends.cuts_are, few_cuts m total (length cuts) (tried.few total totals) ends.few) in
    record {
      cut_lines = subst HaveCutLines (sym same) (cut_lines m limits figures cuts rows ends.cuts_are);
      leaf_lines = subst (HasLeafLines m) (sym leaf) (ends.leaf_lines few);
    }

-- ---- without a round
pub none_writable : (m : Problem) (r : Root) → root_cuts r ≡ [] → IsNone r.leaf → AreWritable m (root_cuts r) r.leaf
none_writable m r same none = record {
  cut_lines = subst HaveCutLines (sym same) (λ version. tt);
  leaf_lines = no_lines m r.leaf none;
}

no_cuts : (m : Problem) → HaveRootRows m [] []
no_cuts m = record {
  are_ls = All-nil IsLs;
  few = omega arith;
  rows_are = λ total weight totals weights. tt;
  hold = λ p f. tt;
  columns_exist = tt;
}

pub skipped_means : (m : Problem) (cells : ℕ) → IsTooLarge m cells → (r : Root) → r.says ≡ root.Skipped cells → root_cuts r ≡ [] → IsNone r.leaf → RootMeans m r
skipped_means m cells large r says same none = record {
  rows = [];
  cuts = subst (λ s. HaveRootRows m s []) (sym same) (no_cuts m);
  says = subst (λ s. SaysOf m s (root_cuts r) [] r.leaf) (sym says) (large, same, none);
}

pub uncoupled_means : (m : Problem) → IsUncoupled m → (r : Root) → r.says ≡ root.Uncoupled → root_cuts r ≡ [] → IsNone r.leaf → RootMeans m r
uncoupled_means m uncoupled r says same none = record {
  rows = [];
  cuts = subst (λ s. HaveRootRows m s []) (sym same) (no_cuts m);
  says = subst (λ s. SaysOf m s (root_cuts r) [] r.leaf) (sym says) (uncoupled, same, none);
}

-- the cells of the first program
pub cells_are : (m : Problem) (program : RoundProgram) (cells : ℕ) → cells ≡ (row_count program.lp + 1) * (width_of program.lp + 1) → width_of program.lp ≡ column_count m → length program.sides.items ≡ row_count program.lp → ((total : ℕ → ℕ) → AreLargestTotals m total → IsRound m total [] program.lp program.sides.items) → (total : ℕ → ℕ) → AreLargestTotals m total → cells ≡ first_cells m total
cells_are m program cells is width long round total totals =
    is ∙ ap (λ k. (k + 1) * (width_of program.lp + 1)) (sym long ∙ ap length (round total totals).sides_are) ∙ ap (λ k. (length (round_sides m total []) + 1) * (k + 1)) width

-- ---- what is said
module _ (m : Problem) (cuts : List CutShape) (rows : List LinRow) (leaf : Option Leaf) where
  pub uncoupled_is : (says : RootSays) → SaysOf m says cuts rows leaf → (says ≡ root.Uncoupled) ↔ IsUncoupled m
  uncoupled_is root.Uncoupled said = (λ same. said.0, λ is. refl)
  uncoupled_is (root.Skipped cells) said = (λ same. absurd (cc), λ is. absurd (said.0.coupled is))
  uncoupled_is (root.Closed c) said = (λ same. absurd (cc), λ is. absurd (said.0.coupled is))
  uncoupled_is root.Empty said = (λ same. absurd (cc), λ is. absurd (said.0.coupled is))
  uncoupled_is (root.Stopped round) said = (λ same. absurd (cc), λ is. absurd (said.0.coupled is))
  uncoupled_is (root.Passed round at) said = (λ same. absurd (cc), λ is. absurd (said.0.coupled is))

  module _ (figures : HasFigures m) (cells : ℕ) where
    not_both : IsTried m → IsTooLarge m cells → ⊥
    not_both tried large = let (total, weight, totals, weights) = figures in omega (arith, tried.few total totals, large.size total totals, large.many)

    pub skipped_is : (says : RootSays) → SaysOf m says cuts rows leaf → (says ≡ root.Skipped cells) ↔ IsTooLarge m cells
    skipped_is root.Uncoupled said = (λ same. absurd (cc), λ large. absurd (large.coupled said.0))
    skipped_is (root.Skipped other) said =
        let (total, weight, totals, weights) = figures in
        (λ same. let e : other ≡ cells = cc in subst (IsTooLarge m) e said.0, λ large. ap root.Skipped (said.0.size total totals ∙ sym (large.size total totals)))
    skipped_is (root.Closed c) said = (λ same. absurd (cc), λ large. absurd (not_both said.0 large))
    skipped_is root.Empty said = (λ same. absurd (cc), λ large. absurd (not_both said.0 large))
    skipped_is (root.Stopped round) said = (λ same. absurd (cc), λ large. absurd (not_both said.0 large))
    skipped_is (root.Passed round at) said = (λ same. absurd (cc), λ large. absurd (not_both said.0 large))

  pub bounds_are : HasFigures m → IsInstance m → ClosedValuesAreFloors → EmptyIsImpossible → (says : RootSays) → SaysOf m says cuts rows leaf → BoundsPlans m says
  bounds_are figures instance floors impossible root.Uncoupled said = tt
  bounds_are figures instance floors impossible (root.Skipped cells) said = tt
  bounds_are (total, weight, totals, weights) instance floors impossible (root.Closed c) said =
      let (rank, ranks) = instance.ranked in
      floors m rank total weight instance.limits.some_period ranks totals weights c (said.1.0 total weight totals weights)
  bounds_are (total, weight, totals, weights) instance floors impossible root.Empty said =
      let (rank, ranks) = instance.ranked in
      impossible m rank total weight instance.limits.some_period ranks totals weights (said.1.0 total weight totals weights)
  bounds_are figures instance floors impossible (root.Stopped round) said = tt
  bounds_are figures instance floors impossible (root.Passed round at) said = tt
