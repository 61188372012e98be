-- What is found is so: the leaf of the multipliers, or why there is none.
use Rattle.std.proofs.Common.{◌≡◌, ◌⊎◌, ⊎_elim, inl, inr, ◌≤◌, ◌∙◌, ℕ, sym, ap, subst, arith, List, length}
use Rattle.std.specs.Prelude.{ℤ, pos}
use Rattle.std.specs.List.{All}
use Rattle.std.proofs.lemmas.Int.{ints}
use Rattle.rational.specs.Rational.{ℚ}
use Rattle.frac128.specs.Limits.{IsSmall}
use Rattle.lot_sizing.specs.Problem.{Problem}
use Rattle.lot_sizing.specs.Totals.{AreLargestTotals}
use Rattle.lot_model.specs.Views.{IsInstance}
use Rattle.lin_rows.specs.declared.bound.Bound.{Bound}
use Rattle.cert_lines.specs.declared.limits.TheConstants.{MAX_BRANCHES, MAX_PARTS}
use Rattle.cert_lines.specs.declared.parts.Part.{Part}
use Rattle.tableau.specs.declared.outcome.Outcome.{Outcome}
use Rattle.tableau.specs.Denominators.{PassWhole}
use Rattle.tableau.specs.Leaves.{AreOfLeaf}
use Rattle.tableau.specs.Outcomes.{IsOutcome, number_at}
use Rattle.tableau.specs.Program.{row_count}
use Rattle.cert_trees.specs.Paths.{AreChoices}
use Rattle.cert_meaning.specs.declared.says.LeafSays.TheVariants as leaf
use Rattle.cert_meaning.specs.Named.{HasName}
use Rattle.cert_meaning.specs.Parts.{AreParts, AreSmall}
use Rattle.cert_meaning.specs.Says.{IsFarkas, IsLinear}
use Rattle.lp_relaxation.specs.declared.program.Side.{Side}
use Rattle.lp_relaxation.specs.declared.rounds.RoundProgram.{RoundProgram}
use Rattle.lp_relaxation.specs.Leaves.{AreWhole, farkas, linear}
use Rattle.lp_relaxation.specs.Names.{BaseNamesAreAll}
use Rattle.lp_relaxation.specs.Says.{EmptyIsSaid, LeastIsSaid, LeastSays}
use Rattle.lp_relaxation.specs.Sides.{parts_of}
use Rattle.lp_relaxation.specs.declared.limits.TheConstants.{MAX_PIVOTS}
use Rattle.lp_bounds.specs.declared.says.Exempt.TheVariants.{Pivots, Cell, Leaf}
use Rattle.lp_bounds.specs.declared.says.PathSays.{PathSays}
use Rattle.lp_bounds.specs.declared.says.PathSays.TheVariants.{AtLeast, NoPoint, Exempt as ExemptFor}
use Rattle.lp_bounds.specs.Path.{EndsPathRun, HasMultipliers, IfAtLeast, IfExempt, IfNoPoint, IsExempt, IsGoodLeaf, IsLargeLeaf, IsMetAt, SaysAtLeast, SaysNone, on_path, path_names, path_sides}
use Rattle.lp_bounds.specs.Steps.{EndsEmpty, EndsLeast, IsFarkasFound, IsLinearFound, IsReady, IsRefused, IsSaid, SaysSmall}
use Rattle.lp_bounds.proofs.Counting.{few_sides, one_side_each, parts_few}
use Rattle.lp_bounds.proofs.Points.{are_rows, met_by}
use Rattle.lp_bounds.proofs.Refusals.{farkas_is_large, linear_is_large, one_amount}
use Rattle.lp_bounds.proofs.Writing.{farkas_writable, linear_writable, parts_small}

module _ (m : Problem) (path : List Bound) (program : RoundProgram) (ready : IsReady m path program) (instance : IsInstance m) where
  abbrev sides : List Side
  sides = program.sides.items

  -- one side for each row
  pub rows_are : length sides ≡ row_count program.lp
  rows_are = let (total, totals, small) = instance.totals in one_side_each m total path (length path) program.lp sides (ready.made total totals)

  same_sides : (total : ℕ → ℕ) → AreLargestTotals m total → path_sides m total path ≡ sides
  same_sides total totals = sym (ready.made total totals).sides_are

  few_parts : length path ≤ MAX_BRANCHES → (z : ℕ → ℤ) → length (parts_of sides z) ≤ MAX_PARTS
  few_parts short z =
      let (total, totals, small) = instance.totals in
      omega (arith, parts_few sides z, few_sides m total path (length path) program.lp sides (ready.made total totals) instance.limits, short)

  -- ---- a run of the program
  module _ (end : Outcome) (run : IsOutcome program.lp MAX_PIVOTS end) where
    ends_run : (total : ℕ → ℕ) → AreLargestTotals m total → EndsPathRun m total path end
    ends_run total totals = record { program = program.lp; is_program = (ready.made total totals).program; run = run }

    -- whose multipliers make no leaf
    no_leaf : (ys : List ℚ) → HasMultipliers end ys → ((total : ℕ → ℕ) → AreLargestTotals m total → PassWhole ys ⊎ IsLargeLeaf m total path ys) → IsExempt m path Leaf
    no_leaf ys has large total totals = record {
      end = end;
      ends = ends_run total totals;
      multipliers = ys;
      has = has;
      large = large total totals;
    }

  module _ (names : BaseNamesAreAll) (choices : AreChoices m path) (short : length path ≤ MAX_BRANCHES) (ys : List ℚ) (size : length ys ≡ row_count program.lp) where
    of_rows : (den : ℕ) (z : ℕ → ℤ) → AreOfLeaf (length ys) (number_at ys) den z → AreOfLeaf (row_count program.lp) (number_at ys) den z
    of_rows den z of_leaf = subst (λ k. AreOfLeaf k (number_at ys) den z) size of_leaf

    whole_parts : (den : ℕ) (z : ℕ → ℤ) → AreWhole ys den z → All (λ part. IsSmall part.times) (parts_of sides z)
    whole_parts den z are = parts_small sides z (λ k less. are.small k (omega (arith, less, size, rows_are)))

    parts_named : (total : ℕ → ℕ) (parts : List Part) → AreParts (on_path m total path) parts → All (λ part. HasName m 0 (length path) part.row) parts
    parts_named total parts are k d less = (are k d less).named

    -- ---- by linear duality
    module _ (said : LeastIsSaid) (ends : EndsLeast program.lp ys) where
      least : (den : ℕ) (z : ℕ → ℤ) → AreOfLeaf (length ys) (number_at ys) den z → (total : ℕ → ℕ) → AreLargestTotals m total → LeastSays (on_path m total path) (path_names m (length path)) ends.point ends.value den z
      least den z of_leaf total totals =
          said (on_path m total path) (path_names m (length path)) program.lp ends.point (number_at ys) ends.value den z (are_rows m total path (names m) instance.limits choices) (ready.made total totals).program ends.best (of_rows den z of_leaf)

      -- the leaf says a number, by the sides of the program
      module _ (den : ℕ) (z : ℕ → ℤ) (of_leaf : AreOfLeaf (length ys) (number_at ys) den z) (total : ℕ → ℕ) (totals : AreLargestTotals m total) where
        abbrev amount : ℕ
        amount = (least den z of_leaf total totals).rounded.0

        is_linear : IsLinear (on_path m total path) (pos den) (parts_of sides z) amount
        is_linear =
            let says = least den z of_leaf total totals in
            subst (λ list. IsLinear (on_path m total path) (pos den) (parts_of list z) amount) (same_sides total totals) (says.leaf amount says.rounded.1)

      linear_refused : (den : ℕ) (z : ℕ → ℤ) → AreOfLeaf (length ys) (number_at ys) den z → IsRefused m path (linear den (parts_of sides z)) → (total : ℕ → ℕ) → AreLargestTotals m total → IsLargeLeaf m total path ys
      linear_refused den z of_leaf (at, w, refused) total totals = (
        den,
        z,
        of_leaf,
        λ small. linear_is_large (on_path m total path) (pos den) (parts_of sides z) (amount den z of_leaf total totals) 1 at w (is_linear den z of_leaf total totals) (refused total totals) (subst (λ list. AreSmall (on_path m total path) (parts_of list z)) (same_sides total totals) small),
      )

      linear_good : (den : ℕ) (z : ℕ → ℤ) (bound : ℕ) → AreWhole ys den z → SaysSmall m path (linear den (parts_of sides z)) (leaf.AtLeast bound) → IsGoodLeaf m path (linear den (parts_of sides z)) (leaf.AtLeast bound)
      linear_good den z bound are says =
          let (total, totals, small) = instance.totals in
          let some = are.leaf.times.positive in
          record {
            den = omega (arith, ints, some);
            said = says.said;
            small = says.small;
            writable = linear_writable m instance.limits (length path) short (pos den) (parts_of sides z) (omega (arith, ints, some)) are.den_small (few_parts short z)
                (parts_named total (parts_of sides z) (says.said total totals).parts_exist) (whole_parts den z are);
          }

      linear_met : (den : ℕ) (z : ℕ → ℤ) (bound : ℕ) → AreWhole ys den z → SaysSmall m path (linear den (parts_of sides z)) (leaf.AtLeast bound) → IsMetAt m path bound
      linear_met den z bound are says total totals =
          let found = least den z are.leaf total totals in
          let same : amount den z are.leaf total totals ≡ bound = one_amount (pos den) _ (amount den z are.leaf total totals) bound (is_linear den z are.leaf total totals).right (says.said total totals).right in
          met_by m total path (names m) ends.point ends.value den z found bound (ap pos (sym same) ∙ found.rounded.1)

      pub linear_said : (a : PathSays) → IsLinearFound m path sides ys a → IsSaid m path a
      linear_said (AtLeast a bound) is =
          let shape = linear is.den (parts_of sides is.numerators) in
          let says = subst (λ s. SaysSmall m path s (leaf.AtLeast bound)) is.shape_is is.said in
          (subst (λ s. SaysAtLeast m path s bound) (sym is.shape_is) (linear_good is.den is.numerators bound is.are says), linear_met is.den is.numerators bound is.are says)
      linear_said (NoPoint a) is = absurd is
      linear_said (ExemptFor Pivots) is = absurd is
      linear_said (ExemptFor (Cell pivot row column)) is = absurd is
      linear_said (ExemptFor Leaf) is =
          no_leaf ends.end ends.run ys ends.has (λ total totals. ⊎_elim
          (λ pass. inl pass)
          (λ refused. inr (linear_refused refused.0 refused.1 refused.2 refused.3 total totals))
          is)

    -- ---- by Farkas' lemma
    module _ (said : EmptyIsSaid) (ends : EndsEmpty program.lp ys) where
      is_farkas : (den : ℕ) (z : ℕ → ℤ) → AreOfLeaf (length ys) (number_at ys) den z → (total : ℕ → ℕ) → AreLargestTotals m total → IsFarkas (on_path m total path) (parts_of sides z)
      is_farkas den z of_leaf total totals =
          subst (λ list. IsFarkas (on_path m total path) (parts_of list z)) (same_sides total totals)
          (said (on_path m total path) (path_names m (length path)) program.lp (number_at ys) den z (are_rows m total path (names m) instance.limits choices) (ready.made total totals).program ends.empty (of_rows den z of_leaf)).leaf

      farkas_refused : (den : ℕ) (z : ℕ → ℤ) → AreOfLeaf (length ys) (number_at ys) den z → IsRefused m path (farkas den (parts_of sides z)) → (total : ℕ → ℕ) → AreLargestTotals m total → IsLargeLeaf m total path ys
      farkas_refused den z of_leaf (at, w, refused) total totals = (
        den,
        z,
        of_leaf,
        λ small. farkas_is_large (on_path m total path) (parts_of sides z) 1 at w (is_farkas den z of_leaf total totals) (refused total totals) (subst (λ list. AreSmall (on_path m total path) (parts_of list z)) (same_sides total totals) small),
      )

      farkas_good : (den : ℕ) (z : ℕ → ℤ) → AreWhole ys den z → SaysSmall m path (farkas den (parts_of sides z)) leaf.NoPlan → IsGoodLeaf m path (farkas den (parts_of sides z)) leaf.NoPlan
      farkas_good den z are says =
          let (total, totals, small) = instance.totals in
          record {
            den = tt;
            said = says.said;
            small = says.small;
            writable = farkas_writable m instance.limits (length path) short (parts_of sides z) (few_parts short z) (parts_named total (parts_of sides z) (says.said total totals).parts_exist) (whole_parts den z are);
          }

      pub farkas_said : (a : PathSays) → IsFarkasFound m path sides ys a → IsSaid m path a
      farkas_said (AtLeast a bound) is = absurd is
      farkas_said (NoPoint a) is =
          let says = subst (λ s. SaysSmall m path s leaf.NoPlan) is.shape_is is.said in
          subst (SaysNone m path) (sym is.shape_is) (farkas_good is.den is.numerators is.are says)
      farkas_said (ExemptFor Pivots) is = absurd is
      farkas_said (ExemptFor (Cell pivot row column)) is = absurd is
      farkas_said (ExemptFor Leaf) is =
          no_leaf ends.end ends.run ys ends.has (λ total totals. ⊎_elim
          (λ pass. inl pass)
          (λ refused. inr (farkas_refused refused.0 refused.1 refused.2 refused.3 total totals))
          is)

-- ---- the clauses of what is said
module _ (m : Problem) (path : List Bound) where
  pub said_bound : (a : PathSays) → IsSaid m path a → IfAtLeast (SaysAtLeast m path) a
  said_bound (AtLeast a bound) is = is.0
  said_bound (NoPoint a) is = tt
  said_bound (ExemptFor cause) is = tt

  pub said_point : (a : PathSays) → IsSaid m path a → IfAtLeast (λ _ bound. IsMetAt m path bound) a
  said_point (AtLeast a bound) is = is.1
  said_point (NoPoint a) is = tt
  said_point (ExemptFor cause) is = tt

  pub said_none : (a : PathSays) → IsSaid m path a → IfNoPoint (SaysNone m path) a
  said_none (AtLeast a bound) is = tt
  said_none (NoPoint a) is = is
  said_none (ExemptFor cause) is = tt

  pub said_exempt : (a : PathSays) → IsSaid m path a → IfExempt (IsExempt m path) a
  said_exempt (AtLeast a bound) is = tt
  said_exempt (NoPoint a) is = tt
  said_exempt (ExemptFor cause) is = is
