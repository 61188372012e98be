-- A leaf says one thing, and a cut has one row.
use Rattle.std.proofs.Common.{◌≡◌, ◌≤◌, ◌<◌, ◌+◌, ◌*◌, ◌^◌, ◌∙◌, ⊎_elim, ℕ, refl, sym, ap, subst, arith, true, false, List, [], ◌∷◌, ◌++◌}
use Rattle.std.specs.Prelude.{◌==◌, ◌&&◌, if◌then◌else◌, ℤ, pos, ◌+ℤ◌, ◌*ℤ◌, ◌≤ℤ◌, ◌<ℤ◌, map}
use Rattle.std.specs.List.{All}
use Rattle.std.proofs.lemmas.Bool.{cases_Bool, cases_order}
use Rattle.std.proofs.lemmas.List.Elements.{All-head, All-nil, All-tail, All-weaker}
use Rattle.algebra.proofs.Integers.{add_zero, mul_add, mul_one, zero_add}
use Rattle.algebra.proofs.Order.{cancel_lt, le_antisym, linear}
use Rattle.lot_sizing.specs.Problem.{Problem, item_count}
use Rattle.lot_sizing.specs.Plan.{Table}
use Rattle.lin_rows.specs.declared.column.Column.{Column}
use Rattle.lin_rows.specs.declared.column.Column.TheVariants.{X, Y, S, R}
use Rattle.lin_rows.specs.declared.row.Term.{Term}
use Rattle.lin_rows.specs.Columns.{IsColumn, order_of}
use Rattle.lin_rows.specs.Combining.{AreOfProblem}
use Rattle.lin_rows.specs.Rows.{AreTerms, LinRow}
use Rattle.lin_rows.specs.Sums.{coefficient, item_of, kind_of, period_of, same_column}
use Rattle.lin_rows.proofs.Below.{one_by_parts}
use Rattle.lin_rows.proofs.Cells.{same_self}
use Rattle.lin_rows.proofs.Terms.{same_row}
use Rattle.round_cuts.specs.Rounding.{IsCeiling, IsRounded}
use Rattle.item_groups.specs.declared.group.Group.{Group}
use Rattle.reduced_groups.specs.Floors.{shape_of}
use Rattle.reduced_leaf.specs.Laws.{ChoicesAreOne, SumsAreOne}
use Rattle.cert_lines.specs.declared.parts.Part.{Part}
use Rattle.cert_lines.specs.Shapes.{BlockCut, CutShape, FarkasLeaf, LeafShape, LinearLeaf, ListShape, LsCut, PointLeaf, PriceCut, ReducedLeaf, RoundCut}
use Rattle.cert_trees.specs.Ranges.{IsChoice, Ranges}
use Rattle.cert_meaning.specs.declared.says.LeafSays.{LeafSays}
use Rattle.cert_meaning.specs.declared.says.LeafSays.TheVariants.{NoPlan, AtLeast}
use Rattle.cert_meaning.specs.Named.{Named, names}
use Rattle.cert_meaning.specs.Parts.{rows_of, times_of}
use Rattle.cert_meaning.specs.Lists.{all_parts}
use Rattle.cert_meaning.specs.Says.{IsLeastCost, IsReducedBound, IsReducedRefuted, IsRoundedUp, Says}
use Rattle.cert_meaning.specs.CutRows.{AreCutRows, IsCutRow}
use Rattle.cert_meaning.proofs.Leaves.{parts_columns}
use Rattle.cert_meaning.proofs.Rows.{of_push, rounded_columns}
use Rattle.cert_meaning.proofs.Columns.{IsSmall, column_small, one_place}
use Rattle.cert_meaning.proofs.Cuts.{cut_columns}

one_quotient : (den a : ℤ) (n k : ℕ) → IsRoundedUp den a n → IsRoundedUp den a k → n ≡ k
one_quotient den a n k is also = omega (arith, is.least k also.above, also.least n is.above)

one_cost : (m : Problem) (make setup : Table) (a b : ℕ) → IsLeastCost m make setup a → IsLeastCost m make setup b → a ≡ b
one_cost m make setup a b is also = omega (arith, is.costs, also.costs, is.least also.plan also.feasible also.chosen, also.least is.plan is.feasible is.chosen)

-- parts and groups add to one number, and to none where a group has no choice
module _ (one : SumsAreOne) (choices : ChoicesAreOne) where
  one_bound : (n : Named) (den : ℕ) (parts : List Part) (lists : List ListShape) (groups : List Group) (x y : ℕ) → IsReducedBound n den parts lists groups x → IsReducedBound n den parts lists groups y → x ≡ y
  one_bound n den parts lists groups x y is also =
      let all = all_parts parts lists in
      let e = one n.problem is.ranked.rank n.total n.total (rows_of n all) (times_of all) den (map shape_of groups) is.ranked.ranks is.ranked.totals is.ranked.totals is.sum also.sum is.adds also.adds in
      one_quotient (pos den) also.sum x y (subst (λ sum. IsRoundedUp (pos den) sum x) e is.right) also.right

  bound_or_refuted : (n : Named) (den : ℕ) (parts : List Part) (lists : List ListShape) (groups : List Group) (x : ℕ) → IsReducedBound n den parts lists groups x → IsReducedRefuted n den parts lists groups → ⊥
  bound_or_refuted n den parts lists groups x is refuted =
      let all = all_parts parts lists in
      ⊎_elim
      (λ lacks. choices n.problem is.ranked.rank n.total n.total (rows_of n all) (times_of all) den (map shape_of groups) is.ranked.ranks is.ranked.totals is.ranked.totals is.sum is.adds lacks)
      (λ has. omega (arith, is.positive, has.0))
      refuted.refuted

  pub one_says : (n : Named) (ranges : Ranges) (leaf : LeafShape) (a b : LeafSays) → Says n ranges leaf a → Says n ranges leaf b → a ≡ b
  one_says n ranges (LinearLeaf den parts) NoPlan b is also = absurd is
  one_says n ranges (LinearLeaf den parts) (AtLeast x) NoPlan is also = absurd also
  one_says n ranges (LinearLeaf den parts) (AtLeast x) (AtLeast y) is also = ap AtLeast (one_quotient den _ x y is.right also.right)
  one_says n ranges (FarkasLeaf parts) NoPlan NoPlan is also = refl
  one_says n ranges (FarkasLeaf parts) NoPlan (AtLeast y) is also = absurd also
  one_says n ranges (FarkasLeaf parts) (AtLeast x) b is also = absurd is
  one_says n ranges PointLeaf NoPlan NoPlan is also = refl
  one_says n ranges PointLeaf NoPlan (AtLeast y) is also = absurd (is.1 also.1.plan also.1.feasible also.1.chosen)
  one_says n ranges PointLeaf (AtLeast x) NoPlan is also = absurd (also.1 is.1.plan is.1.feasible is.1.chosen)
  one_says n ranges PointLeaf (AtLeast x) (AtLeast y) is also = ap AtLeast (one_cost n.problem _ _ x y is.1 also.1)
  one_says n ranges (ReducedLeaf den parts lists groups) NoPlan NoPlan is also = refl
  one_says n ranges (ReducedLeaf den parts lists groups) NoPlan (AtLeast y) is also = absurd (bound_or_refuted n den parts lists groups y also is)
  one_says n ranges (ReducedLeaf den parts lists groups) (AtLeast x) NoPlan is also = absurd (bound_or_refuted n den parts lists groups x is also)
  one_says n ranges (ReducedLeaf den parts lists groups) (AtLeast x) (AtLeast y) is also = ap AtLeast (one_bound n den parts lists groups x y is also)

-- a ceiling is one
below_next : (q : ℕ) (a z w : ℤ) → 1 ≤ q → IsCeiling q a z → IsCeiling q a w → z ≤ℤ w
below_next q a z w some is also =
    let next : (pos q *ℤ z) <ℤ (pos q *ℤ (w +ℤ pos 1)) = omega (arith, linear, is.least, also.above, mul_add (pos q) w (pos 1), mul_one (pos q)) in
    let less = cancel_lt (pos q) z (w +ℤ pos 1) (omega (arith, linear, some)) next in
    omega (arith, linear, less)

pub one_ceiling : (q : ℕ) (a z w : ℤ) → 1 ≤ q → IsCeiling q a z → IsCeiling q a w → z ≡ w
one_ceiling q a z w some is also = le_antisym z w (below_next q a z w some is also) (below_next q a w z some also is)

same_order : (c d : Column) → same_column c d ≡ true → order_of c ≡ order_of d
same_order c d is = ap order_of (one_by_parts c d is)

apart_by : (c d : Column) → (order_of c ≡ order_of d → ⊥) → same_column c d ≡ false
apart_by c d apart = ⊎_elim (λ same. absurd (apart (same_order c d same))) (λ lacks. lacks) (cases_Bool (same_column c d))

-- terms that all come later don't take the column
later_none : (ts : List Term) (low : ℕ) (c : Column) → AreTerms low ts → order_of c < low → coefficient ts c ≡ pos 0
later_none [] low c h less = refl
later_none (a ∷ ts) low c h less = rw (apart_by a.column c (λ e. omega (arith, less, h.0, e))) (zero_add (coefficient ts c) ∙ later_none ts (order_of a.column + 1) c h.2 (omega (arith, less, h.0)))

first_is : (a : Term) (ts : List Term) (c : Column) → AreTerms (order_of a.column + 1) ts → same_column a.column c ≡ true → coefficient (a ∷ ts) c ≡ a.times
first_is a ts c h same =
    ap (λ b. (if b then a.times else pos 0) +ℤ coefficient ts c) same
    ∙ ap (λ z. a.times +ℤ z) (later_none ts (order_of a.column + 1) c h (omega (arith, same_order a.column c same)))
    ∙ add_zero a.times

others_are : (a : Term) (ts : List Term) (c : Column) → same_column a.column c ≡ false → coefficient (a ∷ ts) c ≡ coefficient ts c
others_are a ts c apart = ap (λ b. (if b then a.times else pos 0) +ℤ coefficient ts c) apart ∙ zero_add (coefficient ts c)

-- a term whose column no term of the other list takes
not_there : (a : Term) (xs ys : List Term) (low : ℕ) → AreTerms low (a ∷ xs) → coefficient ys a.column ≡ pos 0 → ((c : Column) → coefficient (a ∷ xs) c ≡ coefficient ys c) → ⊥
not_there a xs ys low h none same = h.1 (sym (first_is a xs a.column h.2 (same_self a.column)) ∙ same a.column ∙ none)

same_term : (a b : Term) → a.column ≡ b.column → a.times ≡ b.times → a ≡ b
same_term a b c t = ap (λ k. record { column = k; times = a.times }) c ∙ ap (λ z. record { column = b.column; times = z }) t

-- lists of terms with the same coefficients
one_list : (xs ys : List Term) (low : ℕ) → AreTerms low xs → AreTerms low ys → All (λ a. IsSmall a.column) xs → All (λ a. IsSmall a.column) ys → ((c : Column) → coefficient xs c ≡ coefficient ys c) → xs ≡ ys
one_list [] [] low hx hy sx sy same = refl
one_list [] (b ∷ ys) low hx hy sx sy same = absurd (not_there b ys [] low hy refl (λ c. sym (same c)))
one_list (a ∷ xs) [] low hx hy sx sy same = absurd (not_there a xs [] low hx refl same)
one_list (a ∷ xs) (b ∷ ys) low hx hy sx sy same =
    let Q = λ (t : Term). IsSmall t.column in
    ⊎_elim
    (λ equal.
    let c = one_place a.column b.column (All-head Q a xs sx) (All-head Q b ys sy) equal in
    let own : same_column b.column a.column ≡ true = subst (λ k. same_column k a.column ≡ true) c (same_self a.column) in
    let t : a.times ≡ b.times = sym (first_is a xs a.column hx.2 (same_self a.column)) ∙ same a.column ∙ first_is b ys a.column hy.2 own in
    let hy' : AreTerms (order_of a.column + 1) ys = subst (λ k. AreTerms (k + 1) ys) (sym equal) hy.2 in
    let tails : (k : Column) → coefficient xs k ≡ coefficient ys k = λ k.
    ⊎_elim
    (λ is. later_none xs (order_of a.column + 1) k hx.2 (omega (arith, same_order a.column k is)) ∙ sym (later_none ys (order_of a.column + 1) k hy' (omega (arith, same_order a.column k is))))
    (λ apart. sym (others_are a xs k apart) ∙ same k ∙ others_are b ys k (subst (λ z. same_column z k ≡ false) c apart))
    (cases_Bool (same_column a.column k)) in
    ap (λ x. x ∷ xs) (same_term a b c t) ∙ ap (λ zs. b ∷ zs) (one_list xs ys (order_of a.column + 1) hx.2 hy' (All-tail Q a xs sx) (All-tail Q b ys sy) tails))
    (λ apart. ⊎_elim
    (λ before. absurd (not_there a xs (b ∷ ys) low hx (later_none (b ∷ ys) (order_of b.column) a.column (omega arith, hy.1, hy.2) before) same))
    (λ after. absurd (not_there b ys (a ∷ xs) low hy (later_none (a ∷ xs) (order_of a.column) b.column (omega arith, hx.1, hx.2) after) (λ c. sym (same c))))
    apart)
    (cases_order (order_of a.column) (order_of b.column))

one_rounded : (m : Problem) (rows : List LinRow) (times : List ℤ) (q : ℕ) (r s : LinRow) → item_count m < 2 ^ 32 → m.periods < 2 ^ 32 → 1 ≤ q → AreOfProblem m rows → IsRounded rows times q r → IsRounded rows times q s → r ≡ s
one_rounded m rows times q r s items periods some are is also =
    let P = λ (a : Term). IsColumn m a.column in
    let Q = λ (a : Term). IsSmall a.column in
    let small = λ (a : Term) (has : IsColumn m a.column). column_small m a.column items periods has in
    let e = one_list r.terms s.terms 0 is.terms also.terms (All-weaker P Q small r.terms (rounded_columns m rows times q r some are is)) (All-weaker P Q small s.terms (rounded_columns m rows times q s some are also)) (λ c. one_ceiling q _ _ _ some (is.columns c) (also.columns c)) in
    same_row r s.terms s.right s.equal e (one_ceiling q _ _ _ some is.right also.right) (is.equal ∙ sym also.equal)

one_cut : (m : Problem) (total : ℕ → ℕ) (weight : ℕ → ℕ → ℕ) (earlier : List LinRow) (c : CutShape) (r s : LinRow) → item_count m < 2 ^ 32 → m.periods < 2 ^ 32 → 1 ≤ m.periods → AreOfProblem m earlier → IsCutRow m total weight earlier c r → IsCutRow m total weight earlier c s → r ≡ s
one_cut m total weight earlier (LsCut item last chosen) r s items periods some are is also = is.1 ∙ sym also.1
one_cut m total weight earlier (PriceCut item a) r s items periods some are is also = is.1 ∙ sym also.1
one_cut m total weight earlier (BlockCut item a) r s items periods some are is also = is.1 ∙ sym also.1
one_cut m total weight earlier (RoundCut q parts) r s items periods some are is also =
    let n = names m total earlier [] in
    one_rounded m (rows_of n parts) (times_of parts) q r s items periods is.0.low (parts_columns n parts (record { some = some; cuts = are; path = All-nil (λ b. IsChoice m b.column) }) is.0.parts_exist) is.1 also.1

pub one_rows : (m : Problem) (total : ℕ → ℕ) (weight : ℕ → ℕ → ℕ) (earlier : List LinRow) (cuts : List CutShape) (rows others : List LinRow) → item_count m < 2 ^ 32 → m.periods < 2 ^ 32 → 1 ≤ m.periods → AreOfProblem m earlier → AreCutRows m total weight earlier cuts rows → AreCutRows m total weight earlier cuts others → rows ≡ others
one_rows m total weight earlier [] [] [] items periods some are is also = refl
one_rows m total weight earlier [] [] (s ∷ others) items periods some are is also = absurd also
one_rows m total weight earlier [] (r ∷ rows) others items periods some are is also = absurd is
one_rows m total weight earlier (c ∷ cuts) [] others items periods some are is also = absurd is
one_rows m total weight earlier (c ∷ cuts) (r ∷ rows) [] items periods some are is also = absurd also
one_rows m total weight earlier (c ∷ cuts) (r ∷ rows) (s ∷ others) items periods some are is also =
    let e = one_cut m total weight earlier c r s items periods some are is.0 also.0 in
    let rest : AreCutRows m total weight (earlier ++ (r ∷ [])) cuts others = subst (λ x. AreCutRows m total weight (earlier ++ (x ∷ [])) cuts others) (sym e) also.1 in
    ap (λ x. x ∷ rows) e ∙ ap (λ xs. s ∷ xs) (one_rows m total weight (earlier ++ (r ∷ [])) cuts rows others items periods some (of_push m earlier r are (cut_columns m total weight earlier c r some is.0 are)) is.1 rest)
