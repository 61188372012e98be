-- What a round of the root leaves: the cuts and the program of the next one, or what is said in the end.
use Rattle.std.proofs.Common.{◌≡◌, ◌≤◌, ◌<◌, ◌+◌, ◌-◌, ◌*◌, ◌∙◌, ◌⊎◌, ⊎_elim, inl, inr, ℕ, zero, suc, refl, sym, ap, subst, arith, List, [], ◌∷◌, ◌++◌, append-nil, length, length-append, slice_index_or, take}
use Rattle.std.specs.Prelude.{false, ℤ, pos, Option, IsNone}
use Rattle.std.specs.List.{All}
use Rattle.std.proofs.lemmas.Bool.{cases_lt}
use Rattle.std.proofs.lemmas.List.{length-map, length-take-le, take_more}
use Rattle.std.proofs.Math.Nat.{mul-le-mul_right}
use Rattle.rational.specs.Rational.{ℚ}
use Rattle.lot_sizing.specs.Problem.{IsWithinLimits, Problem, item_count}
use Rattle.lot_sizing.specs.Bill.{AreWeights, bill_of}
use Rattle.lot_sizing.specs.Totals.{AreLargestTotals, IsRanking}
use Rattle.lot_model.specs.Views.{IsInstance}
use Rattle.echelon.specs.Views.{marked}
use Rattle.echelon.specs.Weights.{Exploded, IsExplosionOf, weight_in}
use Rattle.lin_rows.specs.Rows.{LinRow}
use Rattle.echelon_rows.specs.Rows.{echelon_in}
use Rattle.ls_cuts.specs.Laws.{LesserSeparates}
use Rattle.ls_cuts.specs.Points.{Fractions}
use Rattle.cert_lines.specs.declared.limits.TheConstants.{MAX_CUTS}
use Rattle.cert_lines.specs.declared.parts.Leaf.{Leaf}
use Rattle.cert_lines.specs.Limits.{IsSmallPart}
use Rattle.cert_lines.specs.Shapes.{CutShape, LeafShape}
use Rattle.certificate.specs.Values.{AreLines, leaf_values}
use Rattle.tableau.specs.declared.outcome.Outcome.{Outcome}
use Rattle.tableau.specs.declared.outcome.Outcome.TheVariants as outcome
use Rattle.tableau.specs.Denominators.{PassWhole}
use Rattle.tableau.specs.Leaves.{AreOfLeaf}
use Rattle.tableau.specs.Meaning.{AreBest, AreEmpty}
use Rattle.tableau.specs.Outcomes.{IsOutcome, number_at}
use Rattle.tableau.specs.Program.{IsProgram, Program, column_count as width_of, row_count, with_row}
use Rattle.cert_meaning.specs.declared.says.LeafSays.{LeafSays}
use Rattle.cert_meaning.specs.Named.{row_named}
use Rattle.cert_meaning.specs.Parts.{AreSmall}
use Rattle.cert_meaning.specs.Says.{IsFarkas, IsLinear}
use Rattle.lp_relaxation.specs.Relaxation.{Closes, HasNoPoint, WithFigures}
use Rattle.lp_relaxation.specs.declared.program.Side.{Side}
use Rattle.lp_relaxation.specs.declared.rounds.RoundProgram.{RoundProgram}
use Rattle.lp_relaxation.specs.Laws.{RoundsAreFew}
use Rattle.lp_relaxation.specs.Leaves.{AreWhole, farkas, linear}
use Rattle.lp_relaxation.specs.Rounds.{AreRead, IsRootRound, IsRound, NoneIsViolated, RoundsClose, RoundsRefute, at_root, round_sides}
use Rattle.lp_relaxation.specs.Sides.{parts_of, side_inequality, turned_row}
use Rattle.lp_relaxation.specs.declared.limits.TheConstants.{MAX_PIVOTS, MAX_ROUND_CUTS, MAX_ROUND_SIZE}
use Rattle.lp_bounds.proofs.Counting.{parts_few}
use Rattle.lp_bounds.proofs.Refusals.{linear_is_large, farkas_is_large}
use Rattle.lp_root.specs.declared.at_root.TheConstants.{MAX_ROUNDS}
use Rattle.search_result.specs.declared.found.PassedAt.TheVariants as passed
use Rattle.search_result.specs.declared.found.RootSays.{RootSays}
use Rattle.search_result.specs.declared.found.RootSays.TheVariants as root
use Rattle.lp_root.specs.declared.round.Rounds.{Rounds}
use Rattle.lp_root.specs.declared.round_leaf.Verdict.{Verdict}
use Rattle.lp_root.specs.declared.separation.RootCuts.{RootCuts}
use Rattle.lp_root.specs.Root.{EndsRound, HasFigures, HasLeafLines, IsLargeLeaf, IsVersionFor, MakesLeaf, RoundsSay, SaysAmount, SaysNone, SaysSmall}
use Rattle.lp_root.specs.Rounds.{AreCutsAfter, AreCutsAt, AreCutsFound, AreCutsOf, AreJoined, AtLeastPoint, EndsRun, PassesFirst}
use Rattle.lp_root.specs.RootSteps.{AreRootCuts, AreRounds, EndsRounds, IsJudged, IsLeafOf, IsReady, IsRefused, IsRootCut, Puts, WithWeights, shapes}
use Rattle.lp_root.proofs.RootCounts.{after_long, found_long, passes_long}
use Rattle.lp_root.proofs.RootCuts.{put_all, root_at, root_ls, root_many, root_rows}
use Rattle.lp_root.proofs.RootLeaves.{kept_leaf, one_amount, rounded_up}
use Rattle.lp_root.proofs.RootTexts.{farkas_lines, judged_lines, linear_lines, no_lines, parts_small}

-- ---- separation that finds nothing
nothing_joined : (a b : List CutShape) → [] ≡ a ++ b → (a ≡ []) × (b ≡ [])
nothing_joined [] b is = (refl, sym is)
nothing_joined (c ∷ a) b is = absurd (cc)

joined_at : (P : ℕ → List CutShape → Type 0) (n i : ℕ) → 1 ≤ i → i ≤ n → AreJoined n P [] → P i []
joined_at P zero i low high is = absurd (omega (arith, low, high))
joined_at P (suc n) i low high (before, last, front, here, is) =
    let (first, second) = nothing_joined before last is in
    ⊎_elim
    (λ less. joined_at P n i low (omega (arith, less)) (subst (AreJoined n P) first front))
    (λ more.
    let same : suc n ≡ i = omega (arith, more, high) in
    subst (λ k. P k []) same (subst (P (suc n)) second here))
    (cases_lt i (suc n))

pub none_violated : LesserSeparates → (m : Problem) (weight : ℕ → ℕ → ℕ) (read : Fractions) → AreCutsFound m weight read [] → NoneIsViolated m weight read
none_violated separates m weight read found i l has low high =
    ⊎_elim
    (λ not. absurd (not.0 has))
    (λ some.
    let (e, is, joined) = some in
    let (marks, lesser, met) = joined_at (AreCutsAt e read) m.periods l low high joined in
    (e, is.of_item, (separates (echelon_in e) read l (marked marks) low lesser.chosen).met met))
    (joined_at (AreCutsOf m weight read) (item_count m) i has.low has.high found)

pub empty : {A : Type 0} (list : List A) → length list ≡ 0 → list ≡ []
empty [] is = refl
empty (x ∷ list) is = absurd (omega (arith, is))

-- a program has one side for each row
pub sides_long : (m : Problem) (total : ℕ → ℕ) (rows : List LinRow) (p : Program) (list : List Side) → IsRound m total rows p list → length list ≡ row_count p
sides_long m total rows p list is =
    ap length is.sides_are ∙ sym (ap length is.program.rows_are ∙ length-map (round_sides m total rows) (side_inequality m (row_named (at_root m total rows))))

-- an instance has largest totals and weights
pub figured : (m : Problem) (e : Exploded) → IsExplosionOf m e → HasFigures m
figured m e has = let (total, totals, small) = has.instance.totals in (total, weight_in e, totals, has.rows.weights)

-- ---- the program of the next round
module _ (m : Problem) (rows : List LinRow) (index : ℕ) (r : LinRow) (less : index < length rows) (here : r ≡ slice_index_or rows index r) (program : RoundProgram) (ready : IsReady m (take index rows) program) where
  -- a row that is put into it
  pub row_here : (cuts : List CutShape) → AreRootCuts m cuts rows → (c : CutShape) × IsRootCut m c r
  row_here cuts are = let (c, is) = root_at m cuts rows index r less are in (c, subst (IsRootCut m c) (sym here) is)

  so_long : length (take index rows) ≡ index
  so_long = length-take-le index rows (omega (arith, less))

  pub program_few : RoundsAreFew → IsInstance m → length rows ≤ MAX_ROUND_CUTS → width_of program.lp + row_count program.lp ≤ MAX_ROUND_SIZE
  program_few few instance all =
      let (total, totals, small) = instance.totals in
      (few m total (take index rows) program.lp program.sides.items instance.limits (omega (arith, so_long, less, all)) (ready.round total totals)).few

  pub program_more : (number : ℕ) (new : RoundProgram) → number ≡ index + 1 → new.lp ≡ with_row program.lp (turned_row m false r) → IsProgram new.lp → ((total : ℕ → ℕ) (before : List LinRow) → IsRound m total before program.lp program.sides.items → number ≡ length before + 1 → IsRound m total (before ++ (r ∷ [])) new.lp new.sides.items) → IsReady m (take (index + 1) rows) new
  program_more number new is lp fits grows =
      let more : take (index + 1) rows ≡ take index rows ++ (r ∷ []) = take_more rows index r less ∙ ap (λ row. take index rows ++ (row ∷ [])) (sym here) in
      record {
        round = λ total totals. subst (λ rs. IsRound m total rs new.lp new.sides.items) (sym more) (grows total (take index rows) (ready.round total totals) (is ∙ ap (λ n. n + 1) (sym so_long)));
        fits = fits;
        width = ap width_of lp ∙ ready.width;
      }

-- ---- how a round ends
module _ (m : Problem) (round : ℕ) (low : 1 ≤ round) (high : round ≤ MAX_ROUNDS) (state : Rounds) (are : AreRounds m (round - 1) state) where
  abbrev cuts : List CutShape
  cuts = shapes state.list

  abbrev rows : List LinRow
  rows = state.list.rows.items

  abbrev pub ends_run : (end : Outcome) → IsOutcome state.program.lp MAX_PIVOTS end → WithFigures m (λ total weight. EndsRun m total weight cuts end)
  ends_run end run = λ total weight totals weights. record {
    rows = rows;
    rows_are = root_rows m total weight totals weights [] cuts rows are.cuts;
    program = state.program.lp;
    round = (are.ready.round total totals).program;
    run = run;
  }

  abbrev pub ends_round : (end : Outcome) → IsOutcome state.program.lp MAX_PIVOTS end → WithFigures m (λ total weight. EndsRound m total weight round cuts end)
  ends_round end run = λ total weight totals weights. record {
    low = low;
    high = high;
    before = are.after total weight totals weights;
    run = ends_run end run total weight totals weights;
  }

  -- so many cuts there are before it, and after it
  few_before : HasFigures m → length cuts ≤ (round - 1) * (item_count m * m.periods)
  few_before (total, weight, totals, weights) = after_long m total weight (round - 1) cuts (are.after total weight totals weights)

  few_after : HasFigures m → (n : ℕ) → n ≤ length cuts + item_count m * m.periods → n ≤ MAX_ROUNDS * (item_count m * m.periods)
  few_after figures n more =
      let all : suc (round - 1) * (item_count m * m.periods) ≤ MAX_ROUNDS * (item_count m * m.periods) = mul-le-mul_right (item_count m * m.periods) (omega (arith, low, high)) in
      omega (arith, few_before figures, more, all)

  -- with the cuts of the rounds before
  says_here : HasFigures m → (v : Verdict) → RoundsSay m v.says cuts rows v.leaf → (length rows ≤ MAX_CUTS → HasLeafLines m v.leaf) → EndsRounds m v cuts rows
  says_here figures v said lines = record { cuts_are = are.cuts; few = few_after figures (length cuts) (omega arith); said = said; leaf_lines = lines }

  -- and without a leaf
  pub says_without : HasFigures m → (v : Verdict) → IsNone v.leaf → RoundsSay m v.says cuts rows v.leaf → EndsRounds m v cuts rows
  says_without figures v none said = says_here figures v said (λ few. no_lines m v.leaf none)

  pub stops : HasFigures m → (v : Verdict) → v.says ≡ root.Stopped round → IsNone v.leaf → IsOutcome state.program.lp MAX_PIVOTS (outcome.Stopped MAX_PIVOTS) → EndsRounds m v cuts rows
  stops figures v says none run =
      says_without figures v none
      (subst (λ s. RoundsSay m s cuts rows v.leaf) (sym says) (λ total weight totals weights. inl (ends_round (outcome.Stopped MAX_PIVOTS) run total weight totals weights), none))

  pub cell_passes : HasFigures m → (v : Verdict) (pivot row column : ℕ) → v.says ≡ root.Passed round (passed.Cell pivot row column) → IsNone v.leaf → IsOutcome state.program.lp MAX_PIVOTS (outcome.Passed pivot row column) → EndsRounds m v cuts rows
  cell_passes figures v pivot row column says none run =
      says_without figures v none
      (subst (λ s. RoundsSay m s cuts rows v.leaf) (sym says) (ends_round (outcome.Passed pivot row column) run, none))

  -- ---- at a least point
  module _ (end : Outcome) (run : IsOutcome state.program.lp MAX_PIVOTS end) (read : Fractions) (reads : (P : Fractions → Type 0) → P read → AtLeastPoint m end P) (list : RootCuts) where
    pub separation_passes : HasFigures m → (v : Verdict) (i l : ℕ) → v.says ≡ root.Passed round (passed.Separation i l) → IsNone v.leaf → Puts m (λ s. WithWeights m (λ weight. PassesFirst m weight read i l s)) state.list list → EndsRounds m v (shapes list) list.rows.items
    separation_passes figures v i l says none puts =
        let (total, weight, totals, weights) = figures in
        record {
          cuts_are = put_all m _ state.list list are.cuts puts;
          few = few_after figures (length (shapes list)) (omega (arith, ap length puts.cuts_are, length-append cuts puts.cuts, passes_long m weight read i l puts.cuts (puts.are weight weights)));
          said = subst (λ s. RoundsSay m s (shapes list) list.rows.items v.leaf) (sym says) (
            λ total weight totals weights. record {
              before = cuts;
              end = end;
              ends = ends_round end run total weight totals weights;
              found = puts.cuts;
              passes = reads (λ read. PassesFirst m weight read i l puts.cuts) (puts.are weight weights);
              cuts_are = puts.cuts_are;
            },
            none,
          );
          leaf_lines = λ few. no_lines m v.leaf none;
        }

    -- how many rows there are then
    pub few_rows : IsWithinLimits m → HasFigures m → Puts m (λ s. WithWeights m (λ weight. AreCutsFound m weight read s)) state.list list → length list.rows.items ≤ MAX_ROUND_CUTS
    few_rows limits figures puts =
        let (total, weight, totals, weights) = figures in
        let many = root_many m (shapes list) list.rows.items (put_all m _ state.list list are.cuts puts) in
        let few = few_after figures (length (shapes list)) (omega (arith, ap length puts.cuts_are, length-append cuts puts.cuts, found_long m weight read puts.cuts (puts.are weight weights))) in
        let items : item_count m * m.periods ≤ 40 * m.periods = mul-le-mul_right m.periods (omega (arith, limits.items)) in
        omega (arith, many, few, items, limits.periods)

    -- it has found more
    pub grown : Puts m (λ s. WithWeights m (λ weight. AreCutsFound m weight read s)) state.list list → length state.list.rows.items < length list.rows.items → (program : RoundProgram) → IsReady m list.rows.items program → AreRounds m round (record { program = program; list = list })
    grown puts more program ready =
        let next : suc (round - 1) ≡ round = omega (arith, low) in
        record {
          cuts = put_all m _ state.list list are.cuts puts;
          after = λ total weight totals weights.
              subst (λ k. AreCutsAfter m total weight k (shapes list)) next (
                cuts,
                puts.cuts,
                are.after total weight totals weights,
                record {
                  end = end;
                  run = ends_run end run total weight totals weights;
                  found_are = reads (λ read. AreCutsFound m weight read puts.cuts) (puts.are weight weights);
                  some = omega (arith, more, ap length puts.rows_are, length-append rows puts.rows, root_many m puts.cuts puts.rows puts.root_cuts);
                },
                puts.cuts_are,
              );
          ready = ready;
        }

    -- or nothing, and then the cuts are the same
    pub nothing_more : (P : List CutShape → Type 0) → (puts : Puts m P state.list list) → length list.rows.items ≤ length state.list.rows.items → (puts.cuts ≡ []) × (shapes list ≡ cuts) × (list.rows.items ≡ rows)
    nothing_more P puts few =
        let none : puts.rows ≡ [] = empty puts.rows (omega (arith, few, ap length puts.rows_are, length-append rows puts.rows)) in
        let also : puts.cuts ≡ [] = empty puts.cuts (omega (arith, ap length none, root_many m puts.cuts puts.rows puts.root_cuts)) in
        (also, puts.cuts_are ∙ ap (λ s. cuts ++ s) also ∙ append-nil cuts, puts.rows_are ∙ ap (λ s. rows ++ s) none ∙ append-nil rows)

  -- ---- the leaf of its multipliers
  module _ (limits : IsWithinLimits m) (rank : ℕ → ℕ) (ranks : IsRanking m rank) (figures : HasFigures m) (end : Outcome) (run : IsOutcome state.program.lp MAX_PIVOTS end) (ys : List ℚ) (long : length ys ≡ row_count state.program.lp) (sides : List Side) (sides_are : sides ≡ state.program.sides.items) where
    root_round : (total : ℕ → ℕ) (weight : ℕ → ℕ → ℕ) → AreLargestTotals m total → AreWeights (bill_of m) weight → IsRootRound m total weight cuts rows state.program.lp
    root_round total weight totals weights = record {
      limits = limits;
      ranks = (rank, ranks);
      totals = totals;
      weights = weights;
      are_ls = root_ls m cuts rows are.cuts;
      rows_are = root_rows m total weight totals weights [] cuts rows are.cuts;
      program = (are.ready.round total totals).program;
    }

    same_sides : (total : ℕ → ℕ) → AreLargestTotals m total → sides ≡ round_sides m total rows
    same_sides total totals = sides_are ∙ (are.ready.round total totals).sides_are

    -- the parts of whole multipliers are small and few
    module _ (den : ℕ) (z : ℕ → ℤ) (whole : AreWhole ys den z) where
      whole_small : All IsSmallPart (parts_of sides z)
      whole_small =
          let (total, weight, totals, weights) = figures in
          let count = sides_long m total rows state.program.lp state.program.sides.items (are.ready.round total totals) in
          parts_small sides z (λ k less. whole.small k (omega (arith, less, ap length sides_are, count, long)))

      whole_few : (total : ℕ → ℕ) → AreLargestTotals m total → length (parts_of sides z) ≤ length (round_sides m total rows)
      whole_few total totals = omega (arith, parts_few sides z, ap length (same_sides total totals))

      whole_linear : length rows ≤ MAX_CUTS → (says : LeafSays) → SaysSmall m rows (linear den (parts_of sides z)) says → (version : ℕ) → IsVersionFor m version → AreLines version (leaf_values (linear den (parts_of sides z)))
      whole_linear most says small version known =
          let (total, weight, totals, weights) = figures in
          linear_lines m limits total totals rows most (parts_of sides z) whole_small (whole_few total totals) version known den whole.den_small says small

      whole_farkas : length rows ≤ MAX_CUTS → (says : LeafSays) → SaysSmall m rows (farkas den (parts_of sides z)) says → (version : ℕ) → IsVersionFor m version → AreLines version (leaf_values (farkas den (parts_of sides z)))
      whole_farkas most says small version known =
          let (total, weight, totals, weights) = figures in
          farkas_lines m limits total totals rows most (parts_of sides z) whole_small (whole_few total totals) version known says small

    of_rows : (den : ℕ) (z : ℕ → ℤ) → AreOfLeaf (length ys) (number_at ys) den z → AreOfLeaf (row_count state.program.lp) (number_at ys) den z
    of_rows den z = subst (λ n. AreOfLeaf n (number_at ys) den z) long

    -- what is said where the leaf passes
    passes : ((weight : ℕ → ℕ → ℕ) → AreWeights (bill_of m) weight → MakesLeaf m weight end ys) → (says : RootSays) (leaf : Option Leaf) → says ≡ root.Passed round passed.Leaf → IsNone leaf → WithFigures m (λ total weight. PassWhole ys ⊎ IsLargeLeaf m total rows ys) → RoundsSay m says cuts rows leaf
    passes makes says leaf is none why =
        subst (λ s. RoundsSay m s cuts rows leaf) (sym is) (
          λ total weight totals weights. record {
            end = end;
            ends = ends_round end run total weight totals weights;
            multipliers = ys;
            makes = makes weight weights;
            passes = why total weight totals weights;
          },
          none,
        )

    -- ---- by linear duality
    module _ (close : RoundsClose) (x : ℕ → ℚ) (value : ℚ) (best : AreBest state.program.lp x (number_at ys) value) (read : Fractions) (reads : AreRead m x read) (none : (weight : ℕ → ℕ → ℕ) → AreWeights (bill_of m) weight → NoneIsViolated m weight read) where
      closed_by : (den : ℕ) (z : ℕ → ℤ) → AreOfLeaf (length ys) (number_at ys) den z → (total : ℕ → ℕ) (weight : ℕ → ℕ → ℕ) → AreLargestTotals m total → AreWeights (bill_of m) weight → (c : ℕ) × Closes m c × IsLinear (at_root m total rows) (pos den) (parts_of sides z) c
      closed_by den z of_leaf total weight totals weights =
          let (c, rounded) = rounded_up state.program.lp x (number_at ys) value best in
          let closed = close m total weight cuts rows state.program.lp x (number_at ys) value read den z c (root_round total weight totals weights) best reads (none weight weights) (of_rows den z of_leaf) rounded in
          (c, closed.0, subst (λ list. IsLinear (at_root m total rows) (pos den) (parts_of list z) c) (sym (same_sides total totals)) closed.1)

      module _ (makes : (weight : ℕ → ℕ → ℕ) → AreWeights (bill_of m) weight → MakesLeaf m weight end ys) (den : ℕ) (z : ℕ → ℤ) (of_leaf : AreOfLeaf (length ys) (number_at ys) den z) where
        abbrev linear_shape : LeafShape
        linear_shape = linear den (parts_of sides z)

        linear_large : IsRefused m rows linear_shape → WithFigures m (λ total weight. PassWhole ys ⊎ IsLargeLeaf m total rows ys)
        linear_large (at, w, refused) total weight totals weights =
            let (c, closes, is) = closed_by den z of_leaf total weight totals weights in
            inr (den, z, of_leaf, λ small. linear_is_large (at_root m total rows) (pos den) (parts_of sides z) c 1 at w is (refused total totals) (subst (λ list. AreSmall (at_root m total rows) (parts_of list z)) (sym (same_sides total totals)) small))

        linear_says : (says : RootSays) (leaf : Option Leaf) → IsJudged m rows linear_shape round says leaf → RoundsSay m says cuts rows leaf
        linear_says root.Uncoupled leaf judged = absurd judged
        linear_says (root.Skipped cells) leaf judged = absurd judged
        linear_says (root.Closed amount) leaf (small, kept) =
            let (total, weight, totals, weights) = figures in
            let (c, closes, is) = closed_by den z of_leaf total weight totals weights in
            let same : c ≡ amount = one_amount (pos den) _ c amount is.right (small.said total totals).right in
            (subst (Closes m) same closes, kept_leaf leaf linear_shape (SaysAmount m rows amount) small kept)
        linear_says root.Empty leaf (small, kept) = let (total, weight, totals, weights) = figures in absurd (small.said total totals)
        linear_says (root.Stopped at) leaf judged = absurd judged
        linear_says (root.Passed at place) leaf (here, is, refused, none) =
            passes makes (root.Passed at place) leaf (ap (λ r. root.Passed r place) here ∙ ap (root.Passed round) is) none (linear_large refused)

      pub linear_ends : ((weight : ℕ → ℕ → ℕ) → AreWeights (bill_of m) weight → MakesLeaf m weight end ys) → (v : Verdict) → IsLeafOf m rows sides ys linear round v → EndsRounds m v cuts rows
      linear_ends makes v is =
          ⊎_elim
          (λ large. says_without figures v large.2 (passes makes v.says v.leaf large.1 large.2 (λ total weight totals weights. inl large.0)))
          (λ made.
          let (den, z, whole, judged) = made in
          says_here figures v (linear_says makes den z whole.leaf v.says v.leaf judged) (λ most. judged_lines m rows (linear den (parts_of sides z)) round (whole_linear den z whole most) v.says v.leaf judged))
          is

    -- ---- by Farkas' lemma
    module _ (refute : RoundsRefute) (no_point : AreEmpty state.program.lp (number_at ys)) (makes : (weight : ℕ → ℕ → ℕ) → AreWeights (bill_of m) weight → MakesLeaf m weight end ys) where
      refuted_by : (den : ℕ) (z : ℕ → ℤ) → AreOfLeaf (length ys) (number_at ys) den z → (total : ℕ → ℕ) (weight : ℕ → ℕ → ℕ) → AreLargestTotals m total → AreWeights (bill_of m) weight → HasNoPoint m × IsFarkas (at_root m total rows) (parts_of sides z)
      refuted_by den z of_leaf total weight totals weights =
          let refuted = refute m total weight cuts rows state.program.lp (number_at ys) den z (root_round total weight totals weights) no_point (of_rows den z of_leaf) in
          (refuted.0, subst (λ list. IsFarkas (at_root m total rows) (parts_of list z)) (sym (same_sides total totals)) refuted.1)

      module _ (den : ℕ) (z : ℕ → ℤ) (of_leaf : AreOfLeaf (length ys) (number_at ys) den z) where
        abbrev farkas_shape : LeafShape
        farkas_shape = farkas den (parts_of sides z)

        farkas_large : IsRefused m rows farkas_shape → WithFigures m (λ total weight. PassWhole ys ⊎ IsLargeLeaf m total rows ys)
        farkas_large (at, w, refused) total weight totals weights =
            let is = (refuted_by den z of_leaf total weight totals weights).1 in
            inr (den, z, of_leaf, λ small. farkas_is_large (at_root m total rows) (parts_of sides z) 1 at w is (refused total totals) (subst (λ list. AreSmall (at_root m total rows) (parts_of list z)) (sym (same_sides total totals)) small))

        farkas_says : (says : RootSays) (leaf : Option Leaf) → IsJudged m rows farkas_shape round says leaf → RoundsSay m says cuts rows leaf
        farkas_says root.Uncoupled leaf judged = absurd judged
        farkas_says (root.Skipped cells) leaf judged = absurd judged
        farkas_says (root.Closed amount) leaf (small, kept) = let (total, weight, totals, weights) = figures in absurd (small.said total totals)
        farkas_says root.Empty leaf (small, kept) =
            let (total, weight, totals, weights) = figures in
            ((refuted_by den z of_leaf total weight totals weights).0, kept_leaf leaf farkas_shape (SaysNone m rows) small kept)
        farkas_says (root.Stopped at) leaf judged = absurd judged
        farkas_says (root.Passed at place) leaf (here, is, refused, none) =
            passes makes (root.Passed at place) leaf (ap (λ r. root.Passed r place) here ∙ ap (root.Passed round) is) none (farkas_large refused)

      pub farkas_ends : (v : Verdict) → IsLeafOf m rows sides ys farkas round v → EndsRounds m v cuts rows
      farkas_ends v is =
          ⊎_elim
          (λ large. says_without figures v large.2 (passes makes v.says v.leaf large.1 large.2 (λ total weight totals weights. inl large.0)))
          (λ made.
          let (den, z, whole, judged) = made in
          says_here figures v (farkas_says den z whole.leaf v.says v.leaf judged) (λ most. judged_lines m rows (farkas den (parts_of sides z)) round (whole_farkas den z whole most) v.says v.leaf judged))
          is
