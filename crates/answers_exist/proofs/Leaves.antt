-- Each leaf says enough for a claim or has a fault, and so does each tree: whichever largest totals are taken.
use Rattle.std.proofs.Common.{◌≡◌, ◌≤◌, ◌<◌, ◌+◌, ◌∙◌, ◌⊎◌, ⊎_elim, inl, inr, ℕ, zero, suc, refl, sym, ap, subst, arith, List, [], ◌∷◌, ◌++◌, length}
use Rattle.std.specs.Prelude.{ℤ, pos, ◌*ℤ◌, ◌≤ℤ◌, ◌<ℤ◌}
use Rattle.std.specs.List.{All}
use Rattle.std.proofs.lemmas.Bool.{cases_eq}
use Rattle.std.proofs.lemmas.Int.{by_lt_z}
use Rattle.std.proofs.lemmas.List.Elements.{All-append}
use Rattle.lot_sizing.specs.Problem.{EachItem, IsWithinLimits, Problem, item_count}
use Rattle.lot_sizing.specs.Plan.{EachCell, Plan, cost}
use Rattle.lot_sizing.specs.Least.{HasChoice, least_plan}
use Rattle.lot_sizing.specs.Laws.{KeepsLeast}
use Rattle.lot_sizing.specs.Totals.{AreLargestTotals, IsRanking}
use Rattle.lin_rows.specs.declared.bound.Bound.{Bound}
use Rattle.lin_rows.specs.declared.column.Column.{Column}
use Rattle.lin_rows.specs.declared.column.Column.TheVariants.{X, Y, S, R}
use Rattle.lin_rows.specs.Columns.{column_cost}
use Rattle.lin_rows.specs.Combining.{AreOfProblem, right_sum}
use Rattle.lin_rows.specs.Rows.{LinRow}
use Rattle.cert_lines.specs.declared.parts.Claim.{Claim}
use Rattle.cert_lines.specs.declared.parts.Part.{Part}
use Rattle.cert_lines.specs.Shapes.{FarkasLeaf, LeafShape, LinearLeaf, PointLeaf, ReducedLeaf}
use Rattle.certificate.specs.Shapes.{End, Split, TreeShape}
use Rattle.certificate.specs.Values.{tree_values}
use Rattle.cert_trees.specs.Spans.{Span}
use Rattle.cert_trees.specs.Ranges.{IsChoice, WithTotals, whole_ranges}
use Rattle.cert_trees.specs.Paths.{AreChoices, at_least, at_most, left_by, left_to}
use Rattle.cert_trees.specs.Trees.{IsSplit, high_path, low_path}
use Rattle.cert_meaning.specs.declared.says.LeafSays.TheVariants.{NoPlan, AtLeast}
use Rattle.cert_meaning.specs.Named.{Named, names}
use Rattle.cert_meaning.specs.Parts.{sum_of_right, times_of}
use Rattle.cert_meaning.specs.Says.{HasOneValue, IsRoundedUp, Says, point_make, point_setup}
use Rattle.cert_checker.specs.declared.fault.Why.{Why}
use Rattle.cert_checker.specs.declared.fault.Why.TheVariants as why
use Rattle.cert_checker.specs.Leaves.{HasDenominator, IsFarkasFault, IsSumFault, farkas_most}
use Rattle.cert_checker.specs.Checks.{HaveDenominators, IsGoodLeaf, IsGoodTree, IsNodeFault, IsTreeFault, ground}
use Rattle.existence.proofs.Deciding.{Decided, both_or_not, each_or_first, le_or_not, lt_or_not}
use Rattle.existence.proofs.Judging.{feasible_or_not}
use Rattle.answers_exist.proofs.Columns.{four_or_not}
use Rattle.answers_exist.proofs.Enough.{enough_or_not, has_rounded_up, none_is_enough}
use Rattle.answers_exist.proofs.Reducing.{ReducedGrounds, reduced_out}
use Rattle.answers_exist.proofs.Sums.{good_same, rows_same, sum_out}

-- a sum that is refused is one of a leaf by Farkas' lemma
of_farkas : (n : Named) (parts : List Part) (line at : ℕ) (w : Why) → IsSumFault n farkas_most parts line at w → IsFarkasFault n parts line at w
of_farkas n parts line at why.Range f = f
of_farkas n parts line at why.Sign f = f
of_farkas n parts line at (why.Column c) f = f
of_farkas n parts line at (why.Short says) f = absurd f
of_farkas n parts line at why.NotPoint f = f
of_farkas n parts line at (why.Block first last server) f = f
of_farkas n parts line at why.TooLarge f = f
of_farkas n parts line at (why.Plan rule) f = f
of_farkas n parts line at (why.Costs plan claim) f = f
of_farkas n parts line at why.PlanMissing f = f
of_farkas n parts line at why.Lead f = f
of_farkas n parts line at why.Work f = f

module _
    (least : KeepsLeast) (reduced : ReducedGrounds) (m : Problem) (limits : IsWithinLimits m) (rank : ℕ → ℕ) (ranks : IsRanking m rank) (a : ℕ → ℕ) (totals : AreLargestTotals m a) (one : (b : ℕ → ℕ) → AreLargestTotals m b → EachItem m (λ i. a i ≡ b i))
    (cuts : List LinRow) (of_cuts : AreOfProblem m cuts) (claim : Claim) where
  abbrev GoodLeaf : List Bound → LeafShape → Type 0
  GoodLeaf path leaf = WithTotals m (λ b. IsGoodLeaf (ground m b cuts claim) path leaf)

  abbrev LeafFault : List Bound → LeafShape → ℕ → Type 0
  LeafFault path leaf line = (at : ℕ) × (w : Why) × WithTotals m (λ b. IsNodeFault (ground m b cuts claim) path leaf line at w)

  -- ---- by linear duality
  linear_out : (path : List Bound) → AreChoices m path → (den : ℤ) (parts : List Part) (line : ℕ) → pos 1 ≤ℤ den → GoodLeaf path (LinearLeaf den parts) ⊎ LeafFault path (LinearLeaf den parts) line
  linear_out path choices den parts line some =
      let n = names m a cuts path in
      let most = λ (c : Column). den *ℤ pos (column_cost m c) in
      ⊎_elim
      (λ good.
      let rounded = has_rounded_up den (sum_of_right n parts) some in
      let says : (b : ℕ → ℕ) → AreLargestTotals m b → Says (names m b cuts path) (whole_ranges b) (LinearLeaf den parts) (AtLeast rounded.0) = λ b totals.
      let same = one b totals in
      let other = good_same m limits a one cuts path of_cuts choices b same most parts good in
      record {
        positive = some;
        parts_exist = other.parts_exist;
        columns = other.columns;
        right = subst (λ rows. IsRoundedUp den (right_sum rows (times_of parts)) rounded.0) (rows_same m limits a one cuts path b same parts good.parts_exist) rounded.1;
      } in
      ⊎_elim
      (λ enough. inl (λ b totals. ((AtLeast rounded.0, says b totals, enough), (good_same m limits a one cuts path of_cuts choices b (one b totals) most parts good).small)))
      (λ short. inr (
        line,
        why.Short rounded.0,
        λ b totals. inr (
          rounded.0,
          refl,
          refl,
          record {
            says = says b totals;
            small = (good_same m limits a one cuts path of_cuts choices b (one b totals) most parts good).small;
            short = short;
          },
        ),
      ))
      (enough_or_not claim rounded.0))
      (λ fault. inr (fault.0, fault.1, λ b totals. inl (fault.2 b totals)))
      (sum_out m limits a one cuts path of_cuts choices most parts line)

  -- ---- by Farkas' lemma
  farkas_out : (path : List Bound) → AreChoices m path → (parts : List Part) (line : ℕ) → GoodLeaf path (FarkasLeaf parts) ⊎ LeafFault path (FarkasLeaf parts) line
  farkas_out path choices parts line =
      let n = names m a cuts path in
      ⊎_elim
      (λ good. by_lt_z (pos 0) (sum_of_right n parts)
      (λ above. inl (λ b totals.
      let same = one b totals in
      let other = good_same m limits a one cuts path of_cuts choices b same farkas_most parts good in (
        (
          NoPlan,
          record {
            parts_exist = other.parts_exist;
            columns = other.columns;
            right = subst (λ rows. pos 0 <ℤ right_sum rows (times_of parts)) (rows_same m limits a one cuts path b same parts good.parts_exist) above;
          },
          none_is_enough claim,
        ),
        other.small,
      )))
      (λ low. inr (
        line,
        why.Short 0,
        λ b totals.
            let same = one b totals in
            let other = good_same m limits a one cuts path of_cuts choices b same farkas_most parts good in
            inl (
              refl,
              refl,
              record {
                parts_exist = other.parts_exist;
                small = other.small;
                columns = other.columns;
                right = subst (λ rows. right_sum rows (times_of parts) ≤ℤ pos 0) (rows_same m limits a one cuts path b same parts good.parts_exist) low;
              },
            ),
      )))
      (λ fault. inr (fault.0, fault.1, λ b totals. inl (of_farkas (names m b cuts path) parts line fault.0 fault.1 (fault.2 b totals))))
      (sum_out m limits a one cuts path of_cuts choices farkas_most parts line)

  -- ---- at a point
  from_0 : ℕ → Span
  from_0 n = record { low = 0; high = n }

  whole_same : (b : ℕ → ℕ) → EachItem m (λ i. a i ≡ b i) → (c : Column) → IsChoice m c → whole_ranges a c ≡ whole_ranges b c
  unfolding from_0
  whole_same b same (X i t) is = ap from_0 (same i is.0 is.1)
  whole_same b same (Y i t) is = refl
  whole_same b same (S i t) is = absurd is
  whole_same b same (R i t) is = absurd is

  left_same : (b : ℕ → ℕ) → EachItem m (λ i. a i ≡ b i) → (path : List Bound) (c : Column) → IsChoice m c → left_by (whole_ranges a) path c ≡ left_by (whole_ranges b) path c
  left_same b same path c is = ap (λ span. left_to span path c) (whole_same b same c is)

  abbrev make_at : List Bound → ℕ → ℕ → ℕ
  make_at path = point_make (names m a cuts path) (whole_ranges a)

  abbrev setup_at : List Bound → ℕ → ℕ → ℕ
  setup_at path = point_setup (names m a cuts path) (whole_ranges a)

  -- a plan with the values that are left has them by either
  choice_to : (b : ℕ → ℕ) → EachItem m (λ i. a i ≡ b i) → (path : List Bound) (p : Plan) → HasChoice m (make_at path) (setup_at path) p → HasChoice m (point_make (names m b cuts path) (whole_ranges b)) (point_setup (names m b cuts path) (whole_ranges b)) p
  choice_to b same path p has = record {
    make = λ i t low high t_low t_high. has.make i t low high t_low t_high ∙ ap (λ span. span.low) (left_same b same path (X i t) (low, high, t_low, t_high));
    setup = λ i t low high t_low t_high. has.setup i t low high t_low t_high ∙ ap (λ span. span.low) (left_same b same path (Y i t) (low, high, t_low, t_high));
  }

  choice_from : (b : ℕ → ℕ) → EachItem m (λ i. a i ≡ b i) → (path : List Bound) (p : Plan) → HasChoice m (point_make (names m b cuts path) (whole_ranges b)) (point_setup (names m b cuts path) (whole_ranges b)) p → HasChoice m (make_at path) (setup_at path) p
  choice_from b same path p has = record {
    make = λ i t low high t_low t_high. has.make i t low high t_low t_high ∙ sym (ap (λ span. span.low) (left_same b same path (X i t) (low, high, t_low, t_high)));
    setup = λ i t low high t_low t_high. has.setup i t low high t_low t_high ∙ sym (ap (λ span. span.low) (left_same b same path (Y i t) (low, high, t_low, t_high)));
  }

  abbrev PointAt : (ℕ → ℕ) → List Bound → ℕ → ℕ → Type 0
  PointAt b path i t = HasOneValue (left_by (whole_ranges b) path (X i t)) × HasOneValue (left_by (whole_ranges b) path (Y i t))

  point_to : (b : ℕ → ℕ) → EachItem m (λ i. a i ≡ b i) → (path : List Bound) → EachCell m (PointAt a path) → EachCell m (PointAt b path)
  point_to b same path is i t low high t_low t_high =
      let here = is i t low high t_low t_high in (
        subst HasOneValue (left_same b same path (X i t) (low, high, t_low, t_high)) here.0,
        subst HasOneValue (left_same b same path (Y i t) (low, high, t_low, t_high)) here.1,
      )

  point_from : (b : ℕ → ℕ) → EachItem m (λ i. a i ≡ b i) → (path : List Bound) → EachCell m (PointAt b path) → EachCell m (PointAt a path)
  point_from b same path is i t low high t_low t_high =
      let here = is i t low high t_low t_high in (
        subst HasOneValue (sym (left_same b same path (X i t) (low, high, t_low, t_high))) here.0,
        subst HasOneValue (sym (left_same b same path (Y i t) (low, high, t_low, t_high))) here.1,
      )

  point_or_not : (path : List Bound) → Decided (EachCell m (PointAt a path))
  point_or_not path =
      ⊎_elim
      (λ each. inl each)
      (λ first. inr (λ all. first.2.broken (all first.0 first.1 first.2.row_low first.2.row_high first.2.column_low first.2.column_high)))
      (each_or_first (item_count m) m.periods (PointAt a path)
      (λ i t. both_or_not (cases_eq (left_by (whole_ranges a) path (X i t)).low (left_by (whole_ranges a) path (X i t)).high) (cases_eq (left_by (whole_ranges a) path (Y i t)).low (left_by (whole_ranges a) path (Y i t)).high)))

  point_out : (path : List Bound) (line : ℕ) → GoodLeaf path PointLeaf ⊎ LeafFault path PointLeaf line
  point_out path line =
      let plan = least_plan m (make_at path) (setup_at path) in
      ⊎_elim
      (λ point. ⊎_elim
      (λ feasible.
      let amount = cost m plan in
      let says : (b : ℕ → ℕ) → AreLargestTotals m b → Says (names m b cuts path) (whole_ranges b) PointLeaf (AtLeast amount) = λ b totals.
      let same = one b totals in (
        point_to b same path point,
        record {
          plan = plan;
          feasible = feasible;
          chosen = choice_to b same path plan (record { make = λ i t low high t_low t_high. refl; setup = λ i t low high t_low t_high. refl });
          costs = refl;
          least = λ p f has. (least m (make_at path) (setup_at path) limits.some_period p f (choice_from b same path p has)).1;
        },
      ) in
      ⊎_elim
      (λ enough. inl (λ b totals. ((AtLeast amount, says b totals, enough), tt)))
      (λ short. inr (line, why.Short amount, λ b totals. inr (amount, refl, refl, record { says = says b totals; small = tt; short = short })))
      (enough_or_not claim amount))
      (λ infeasible. inl (λ b totals.
      let same = one b totals in (
        (
          NoPlan,
          (point_to b same path point, λ p f has. infeasible (least m (make_at path) (setup_at path) limits.some_period p f (choice_from b same path p has)).0),
          none_is_enough claim,
        ),
        tt,
      )))
      (feasible_or_not m plan))
      (λ wide. inr (line, why.NotPoint, λ b totals. inl (refl, λ is. wide (point_from b (one b totals) path is))))
      (point_or_not path)

  leaf_out : (path : List Bound) → AreChoices m path → (leaf : LeafShape) (line : ℕ) → HasDenominator leaf → GoodLeaf path leaf ⊎ LeafFault path leaf line
  leaf_out path choices (LinearLeaf den parts) line some = linear_out path choices den parts line some
  leaf_out path choices (FarkasLeaf parts) line some = farkas_out path choices parts line
  leaf_out path choices PointLeaf line some = point_out path line
  leaf_out path choices (ReducedLeaf den parts lists groups) line some = reduced_out reduced m limits rank ranks a totals one cuts of_cuts claim path choices den parts lists groups line

  -- ---- trees
  choice_or_not : (c : Column) → Decided (IsChoice m c)
  choice_or_not (X i t) = four_or_not (le_or_not 1 i) (le_or_not i (item_count m)) (le_or_not 1 t) (le_or_not t m.periods)
  choice_or_not (Y i t) = four_or_not (le_or_not 1 i) (le_or_not i (item_count m)) (le_or_not 1 t) (le_or_not t m.periods)
  choice_or_not (S i t) = inr (λ is. is)
  choice_or_not (R i t) = inr (λ is. is)

  split_or_not : (path : List Bound) (c : Column) (k : ℕ) → Decided (IsSplit m (whole_ranges a) path c k)
  split_or_not path c k =
      ⊎_elim
      (λ choice. ⊎_elim
      (λ low. ⊎_elim
      (λ high. inl (record { column = choice; low = low; high = high }))
      (λ none. inr (λ is. none is.high))
      (lt_or_not k (left_by (whole_ranges a) path c).high))
      (λ none. inr (λ is. none is.low))
      (le_or_not (left_by (whole_ranges a) path c).low k))
      (λ none. inr (λ is. none is.column))
      (choice_or_not c)

  split_to : (b : ℕ → ℕ) → EachItem m (λ i. a i ≡ b i) → (path : List Bound) (c : Column) (k : ℕ) → IsSplit m (whole_ranges a) path c k → IsSplit m (whole_ranges b) path c k
  split_to b same path c k is =
      let e = left_same b same path c is.column in
      record { column = is.column; low = subst (λ span. span.low ≤ k) e is.low; high = subst (λ span. k < span.high) e is.high }

  split_from : (b : ℕ → ℕ) → EachItem m (λ i. a i ≡ b i) → (path : List Bound) (c : Column) (k : ℕ) → IsSplit m (whole_ranges b) path c k → IsSplit m (whole_ranges a) path c k
  split_from b same path c k is =
      let e = sym (left_same b same path c is.column) in
      record { column = is.column; low = subst (λ span. span.low ≤ k) e is.low; high = subst (λ span. k < span.high) e is.high }

  abbrev GoodTree : List Bound → TreeShape → Type 0
  GoodTree path t = WithTotals m (λ b. IsGoodTree (ground m b cuts claim) path t)

  abbrev TreeFault : List Bound → TreeShape → ℕ → Type 0
  TreeFault path t line = (at : ℕ) × (w : Why) × WithTotals m (λ b. IsTreeFault (ground m b cuts claim) path t line at w)

  -- one more bound on a choice
  more_choice : (path : List Bound) (bound : Bound) → AreChoices m path → IsChoice m bound.column → AreChoices m (path ++ (bound ∷ []))
  more_choice path bound choices is = All-append (λ x. IsChoice m x.column) path (bound ∷ []) choices (alone bound is)
    where
      alone : (x : Bound) → IsChoice m x.column → All (λ y. IsChoice m y.column) (x ∷ [])
      alone x is zero d less = is
      alone x is (suc k) d less = absurd (omega (arith, less))

  pub tree_out : (t : TreeShape) (path : List Bound) → AreChoices m path → (line : ℕ) → HaveDenominators t → GoodTree path t ⊎ TreeFault path t line
  tree_out (End leaf) path choices line some =
      ⊎_elim
      (λ good. inl (λ b totals. record { split = tt; leaves = good b totals }))
      (λ fault. inr fault)
      (leaf_out path choices leaf line some)
  tree_out (Split c k low high) path choices line some =
      ⊎_elim
      (λ split. ⊎_elim
      (λ first. ⊎_elim
      (λ second. inl (λ b totals. record {
        split = (split_to b (one b totals) path c k split, (first b totals).split, (second b totals).split);
        leaves = ((first b totals).leaves, (second b totals).leaves);
      }))
      (λ fault. inr (fault.0, fault.1, λ b totals. inr (split_to b (one b totals) path c k split, inr (first b totals, fault.2 b totals))))
      (tree_out high (high_path path c k) (more_choice path (at_least c (k + 1)) choices split.column) (line + 1 + length (tree_values low)) some.1))
      (λ fault. inr (fault.0, fault.1, λ b totals. inr (split_to b (one b totals) path c k split, inl (fault.2 b totals))))
      (tree_out low (low_path path c k) (more_choice path (at_most c k) choices split.column) (line + 1) some.0))
      (λ none. inr (line, why.Range, λ b totals. inl (refl, refl, λ is. none (split_from b (one b totals) path c k is))))
      (split_or_not path c k)
