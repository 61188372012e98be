-- A certificate has one fault: one line, and one cause.
use Rattle.std.proofs.Common.{◌≡◌, ◌∙◌, ◌<◌, ◌≤◌, ◌+◌, ◌⊎◌, ℕ, ⊎_elim, inl, inr, refl, sym, ap, subst, arith, List, [], length, slice_index_or, take, Option, Some, None}
use Rattle.std.specs.Prelude.{Result, Ok, Err}
use Rattle.std.proofs.lemmas.Bool.{cases_order}
use Rattle.std.proofs.lemmas.List.{get_or-take, length-take-le, take-take}
use Rattle.lot_sizing.specs.declared.Block.{Block}
use Rattle.lot_sizing.specs.Echelon.{IsLeadFree}
use Rattle.lot_sizing.specs.Problem.{IsWithinLimits, Problem}
use Rattle.lot_sizing.specs.Single.{Single}
use Rattle.plan_rules.specs.Laws.{JudgementIsOne}
use Rattle.plan_rules.specs.declared.broken.Broken.{Broken}
use Rattle.plan_rules.specs.declared.plan.Plan.{Plan}
use Rattle.lin_rows.specs.declared.bound.Bound.{Bound}
use Rattle.lin_rows.specs.Rows.{LinRow}
use Rattle.backlog_dp.specs.Broken.{IsEarlier, IsFirstBroken}
use Rattle.cert_lines.specs.declared.parts.Claim.{Claim}
use Rattle.cert_lines.specs.declared.parts.Claim.TheVariants.{Optimal, Infeasible, Bound as BoundOf}
use Rattle.cert_lines.specs.Shapes.{BlockCut, BlockLists, CutShape, FarkasLeaf, LeafShape, LinearLeaf, LsCut, PointLeaf, PriceCut, ReducedLeaf, RoundCut}
use Rattle.certificate.specs.Shapes.{End, Shape, Split, TreeShape}
use Rattle.certificate.specs.Values.{all_cut_values, tree_values}
use Rattle.cert_trees.specs.Ranges.{Ranges}
use Rattle.cert_trees.specs.Trees.{high_path, low_path}
use Rattle.cert_meaning.specs.declared.says.LeafSays.TheVariants.{AtLeast}
use Rattle.cert_meaning.specs.Named.{Named, names}
use Rattle.cert_meaning.specs.Accepts.{AreSmallCuts}
use Rattle.cert_meaning.specs.CutRows.{AreCutRows}
use Rattle.cert_meaning.specs.Laws.{CutRowsAreOne, CutRowsByPlaces}
use Rattle.cert_checker.specs.declared.fault.Why.{Why}
use Rattle.cert_checker.specs.declared.fault.Why.TheVariants as why
use Rattle.cert_checker.specs.Cuts.{IsCutFault, IsFormFault, IsLsForm, IsPriceForm, single_priced}
use Rattle.cert_checker.specs.Leaves.{IsLeafFault, linear_most}
use Rattle.cert_checker.specs.Checks.{Ground, IsCheckFault, IsCutsFault, IsGoodTree, IsNodeFault, IsOptimalFault, IsPlanFault, IsTreeFault, IsTreesFault, first_line, ground, no_cut}
use Rattle.cert_checker.specs.Laws.{IsSameFault}
use Rattle.cert_checker.proofs.CheckKinds.{BlockKind, IsBrokenPlan, IsFormless, IsLeading, IsOtherCost, block_kind, farkas_kind, form_kind, missing_kind, plan_kind, point_kind, round_kind}
use Rattle.cert_checker.proofs.CheckNever.{no_cuts_fault, no_leaf_fault, no_plan_fault, no_tree_fault, two_answers}
use Rattle.cert_checker.proofs.ReducedNever.{AreLeafLaws}
use Rattle.cert_checker.proofs.ReducedOnce.{one_reduced}
use Rattle.cert_checker.proofs.SumOnce.{by_farkas, by_rounding, one_sum}
use Rattle.cert_checker.proofs.CheckWhole.{enough_leaves, small_leaves}

-- leaves
one_leaf : AreLeafLaws → (n : Named) (ranges : Ranges) (leaf : LeafShape) (line at other : ℕ) (w v : Why) → IsWithinLimits n.problem → IsLeafFault n ranges leaf line at w → IsLeafFault n ranges leaf line other v → IsSameFault at w other v
one_leaf laws n ranges (LinearLeaf den parts) line at other w v limits a b = one_sum n parts line (linear_most n den) at other w v limits a b
one_leaf laws n ranges (FarkasLeaf parts) line at other w v limits a b = by_farkas n parts line at other w v limits (farkas_kind n parts line at w a) (farkas_kind n parts line other v b)
one_leaf laws n ranges PointLeaf line at other w v limits a b =
    let x = point_kind n ranges line at w a in
    let y = point_kind n ranges line other v b in
    (x.place ∙ sym y.place, x.cause ∙ sym y.cause)
one_leaf laws n ranges (ReducedLeaf den parts lists groups) line at other w v limits a b =
    one_reduced n den parts lists groups laws limits line at other w v a b

same_amount : (a b : ℕ) → AtLeast a ≡ AtLeast b → a ≡ b
same_amount a b same = cc

one_node : AreLeafLaws → (g : Ground) (path : List Bound) (leaf : LeafShape) (line at other : ℕ) (w v : Why) → IsWithinLimits g.problem → IsNodeFault g path leaf line at w → IsNodeFault g path leaf line other v → IsSameFault at w other v
one_node one g path leaf line at other w v limits (inl a) (inl b) = one_leaf one (names g.problem g.total g.rows path) g.ranges leaf line at other w v limits a b
one_node one g path leaf line at other w v limits (inl a) (inr b) =
    absurd (no_leaf_fault one (names g.problem g.total g.rows path) g.ranges leaf (AtLeast b.0) line at w b.3.says b.3.small a)
one_node one g path leaf line at other w v limits (inr a) (inl b) =
    absurd (no_leaf_fault one (names g.problem g.total g.rows path) g.ranges leaf (AtLeast a.0) line other v a.3.says a.3.small b)
one_node one g path leaf line at other w v limits (inr a) (inr b) =
    let same : a.0 ≡ b.0 = same_amount a.0 b.0 (one.says (names g.problem g.total g.rows path) g.ranges leaf (AtLeast a.0) (AtLeast b.0) a.3.says b.3.says) in
    (a.2 ∙ sym b.2, a.1 ∙ ap why.Short same ∙ sym b.1)

-- trees
no_good : AreLeafLaws → (g : Ground) (path : List Bound) (t : TreeShape) (line at : ℕ) (w : Why) → IsGoodTree g path t → IsTreeFault g path t line at w → ⊥
no_good one g path t line at w good bad = no_tree_fault one g path t line at w good.split (enough_leaves g path t good.leaves) (small_leaves g path t good.leaves) bad

one_tree : AreLeafLaws → (g : Ground) (path : List Bound) (t : TreeShape) (line at other : ℕ) (w v : Why) → IsWithinLimits g.problem → IsTreeFault g path t line at w → IsTreeFault g path t line other v → IsSameFault at w other v
one_tree one g path (Split c n low high) line at other w v limits a b =
    let down = low_path path c n in
    let over = high_path path c n in
    let next = line + 1 + length (tree_values low) in
    ⊎_elim
    (λ x. ⊎_elim (λ y. (x.0 ∙ sym y.0, x.1 ∙ sym y.1)) (λ y. absurd (x.2 y.0)) b)
    (λ x. ⊎_elim
    (λ y. absurd (y.2 x.0))
    (λ y. ⊎_elim
    (λ p. ⊎_elim (λ q. one_tree one g down low (line + 1) at other w v limits p q) (λ q. absurd (no_good one g down low (line + 1) at w q.0 p)) y.1)
    (λ p. ⊎_elim (λ q. absurd (no_good one g down low (line + 1) other v p.0 q)) (λ q. one_tree one g over high next at other w v limits p.1 q.1) y.1)
    x.1)
    b)
    a
one_tree one g path (End leaf) line at other w v limits a b = one_node one g path leaf line at other w v limits a b

-- cuts
by_forms : (Form LeadFree : Type 0) (line at other : ℕ) (w v : Why) → IsFormless Form line at w ⊎ IsLeading Form LeadFree line at w → IsFormless Form line other v ⊎ IsLeading Form LeadFree line other v → IsSameFault at w other v
by_forms Form LeadFree line at other w v (inl a) (inl b) = (a.place ∙ sym b.place, a.cause ∙ sym b.cause)
by_forms Form LeadFree line at other w v (inl a) (inr b) = absurd (a.none b.form)
by_forms Form LeadFree line at other w v (inr a) (inl b) = absurd (b.none a.form)
by_forms Form LeadFree line at other w v (inr a) (inr b) = (a.place ∙ sym b.place, a.cause ∙ sym b.cause)

one_form : (Form LeadFree : Type 0) (line at other : ℕ) (w v : Why) → IsFormFault Form LeadFree line at w → IsFormFault Form LeadFree line other v → IsSameFault at w other v
one_form Form LeadFree line at other w v a b = by_forms Form LeadFree line at other w v (form_kind Form LeadFree line at w a) (form_kind Form LeadFree line other v b)

abbrev block_of : ℕ → ℕ → ℕ → Block
block_of first last server = record { first = first; last = last; server = server }

same_block : (a b : Block) → a.first ≡ b.first → a.last ≡ b.last → a.server ≡ b.server → a ≡ b
same_block a b first last server =
    ap (λ x. block_of x a.last a.server) first ∙ ap (λ x. block_of b.first x a.server) last ∙ ap (λ x. block_of b.first b.last x) server

in_order : (a b : Block) → (a ≡ b) ⊎ (IsEarlier a b ⊎ IsEarlier b a)
in_order a b =
    ⊎_elim
    (λ first. ⊎_elim
    (λ last. ⊎_elim
    (λ server. inl (same_block a b first last server))
    (⊎_elim (λ x. inr (inl (inr (first, inr (last, x))))) (λ x. inr (inr (inr (sym first, inr (sym last, x))))))
    (cases_order a.server b.server))
    (⊎_elim (λ x. inr (inl (inr (first, inl x)))) (λ x. inr (inr (inr (sym first, inl x)))))
    (cases_order a.last b.last))
    (⊎_elim (λ x. inr (inl (inl x))) (λ x. inr (inr (inl x))))
    (cases_order a.first b.first)

one_block : (s : Single) (steps : List ℕ) (a b : Block) → IsFirstBroken s steps a → IsFirstBroken s steps b → a ≡ b
one_block s steps a b is also =
    ⊎_elim
    (λ same. same)
    (⊎_elim (λ sooner. absurd (is.broken (also.before a is.block sooner))) (λ later. absurd (also.broken (is.before b also.block later))))
    (in_order a b)

module _ (m : Problem) (weight : ℕ → ℕ → ℕ) (item : ℕ) (a : BlockLists) (line : ℕ) where
  by_blocks : (at other : ℕ) (w v : Why) → BlockKind m weight item a line at w → BlockKind m weight item a line other v → IsSameFault at w other v
  by_blocks at other w v (inl x) (inl y) = (x.place ∙ sym y.place, x.cause ∙ sym y.cause)
  by_blocks at other w v (inl x) (inr (inl y)) = absurd (x.none y.form)
  by_blocks at other w v (inl x) (inr (inr (inl y))) = absurd (x.none y.form)
  by_blocks at other w v (inl x) (inr (inr (inr y))) = absurd (x.none y.form)
  by_blocks at other w v (inr (inl x)) (inl y) = absurd (y.none x.form)
  by_blocks at other w v (inr (inl x)) (inr (inl y)) = (x.place ∙ sym y.place, x.cause ∙ sym y.cause)
  by_blocks at other w v (inr (inl x)) (inr (inr (inl y))) = absurd (x.leads y.free)
  by_blocks at other w v (inr (inl x)) (inr (inr (inr y))) = absurd (x.leads y.free)
  by_blocks at other w v (inr (inr (inl x))) (inl y) = absurd (y.none x.form)
  by_blocks at other w v (inr (inr (inl x))) (inr (inl y)) = absurd (y.leads x.free)
  by_blocks at other w v (inr (inr (inl x))) (inr (inr (inl y))) = (x.place ∙ sym y.place, x.cause ∙ sym y.cause)
  by_blocks at other w v (inr (inr (inl x))) (inr (inr (inr y))) = absurd (x.none y.steps)
  by_blocks at other w v (inr (inr (inr x))) (inl y) = absurd (y.none x.form)
  by_blocks at other w v (inr (inr (inr x))) (inr (inl y)) = absurd (y.leads x.free)
  by_blocks at other w v (inr (inr (inr x))) (inr (inr (inl y))) = absurd (y.none x.steps)
  by_blocks at other w v (inr (inr (inr x))) (inr (inr (inr y))) =
      let same : x.block ≡ y.block = one_block (single_priced m weight item a) a.steps x.block y.block x.first y.first in
      (x.place ∙ sym y.place, x.cause ∙ ap (λ (b : Block). why.Block b.first b.last b.server) same ∙ sym y.cause)

one_cut : (m : Problem) (total : ℕ → ℕ) (weight : ℕ → ℕ → ℕ) (earlier : List LinRow) (cut : CutShape) (line at other : ℕ) (w v : Why) → IsCutFault m total weight earlier cut line at w → IsCutFault m total weight earlier cut line other v → IsSameFault at w other v
one_cut m total weight earlier (LsCut item last chosen) line at other w v a b = one_form (IsLsForm m item last chosen) (IsLeadFree m weight item) line at other w v a b
one_cut m total weight earlier (PriceCut item lists) line at other w v a b = one_form (IsPriceForm m item lists) (IsLeadFree m weight item) line at other w v a b
one_cut m total weight earlier (BlockCut item lists) line at other w v a b =
    by_blocks m weight item lists line at other w v (block_kind m weight item lists line at w a) (block_kind m weight item lists line other v b)
one_cut m total weight earlier (RoundCut divisor parts) line at other w v a b =
    let n = names m total earlier [] in
    by_rounding n parts line at other w v (round_kind n parts line at w a) (round_kind n parts line other v b)

module _ (m : Problem) (total : ℕ → ℕ) (weight : ℕ → ℕ → ℕ) (places : CutRowsByPlaces) (one : CutRowsAreOne) (limits : IsWithinLimits m) where
  -- a fault before the k-th cut is one of the first k
  in_front : (cuts : List CutShape) (k at : ℕ) (w : Why) (a : IsCutsFault m total weight cuts at w) → a.place < k → k < length cuts → IsCutsFault m total weight (take k cuts) at w
  in_front cuts k at w a less within =
      let few : k ≤ length cuts = omega (arith, within) in
      let same : take a.place (take k cuts) ≡ take a.place cuts = take-take a.place k cuts (omega (arith, less)) in
      record {
        place = a.place;
        exists = omega (arith, less, length-take-le k cuts few);
        rows = a.rows;
        before = subst (λ c. AreCutRows m total weight [] c a.rows) (sym same) a.before;
        small = subst (λ c. AreSmallCuts m total [] c a.rows) (sym same) a.small;
        fault =
            subst (λ c. IsCutFault m total weight a.rows (slice_index_or (take k cuts) a.place no_cut) (first_line + length (all_cut_values c)) at w) (sym same)
            (subst (λ c. IsCutFault m total weight a.rows c (first_line + length (all_cut_values (take a.place cuts))) at w) (sym (get_or-take k cuts a.place no_cut less)) a.fault);
      }

  one_place : (cuts : List CutShape) (k at other : ℕ) (w v : Why) (rows also : List LinRow) → AreCutRows m total weight [] (take k cuts) rows → AreCutRows m total weight [] (take k cuts) also → IsCutFault m total weight rows (slice_index_or cuts k no_cut) (first_line + length (all_cut_values (take k cuts))) at w → IsCutFault m total weight also (slice_index_or cuts k no_cut) (first_line + length (all_cut_values (take k cuts))) other v → IsSameFault at w other v
  one_place cuts k at other w v rows also are same a b =
      let line = first_line + length (all_cut_values (take k cuts)) in
      let cut = slice_index_or cuts k no_cut in
      one_cut m total weight also cut line at other w v (subst (λ r. IsCutFault m total weight r cut line at w) (one m total weight (take k cuts) rows also limits are same) a) b

  one_of_cuts : (cuts : List CutShape) (at other : ℕ) (w v : Why) → IsCutsFault m total weight cuts at w → IsCutsFault m total weight cuts other v → IsSameFault at w other v
  one_of_cuts cuts at other w v a b =
      ⊎_elim
      (λ same. one_place cuts b.place at other w v a.rows b.rows (subst (λ k. AreCutRows m total weight [] (take k cuts) a.rows) same a.before) b.before
      (subst (λ k. IsCutFault m total weight a.rows (slice_index_or cuts k no_cut) (first_line + length (all_cut_values (take k cuts))) at w) same a.fault) b.fault)
      (⊎_elim
      (λ sooner. absurd (no_cuts_fault m total weight places one limits (take b.place cuts) b.rows at w b.before b.small (in_front cuts b.place at w a sooner b.exists)))
      (λ later. absurd (no_cuts_fault m total weight places one limits (take a.place cuts) a.rows other v a.before a.small (in_front cuts a.place other v b later a.exists))))
      (cases_order a.place b.place)

  one_of_trees : AreLeafLaws → (c : Shape) (at other : ℕ) (w v : Why) → IsTreesFault m total weight c at w → IsTreesFault m total weight c other v → IsSameFault at w other v
  one_of_trees says c at other w v a b =
      let line = first_line + length (all_cut_values c.cuts) in
      let same : a.rows ≡ b.rows = one m total weight c.cuts a.rows b.rows limits a.cuts.are b.cuts.are in
      one_tree says (ground m total b.rows c.claim) [] c.tree line at other w v limits (subst (λ r. IsTreeFault (ground m total r c.claim) [] c.tree line at w) same a.fault) b.fault

  no_cuts_and_trees : (c : Shape) (at other : ℕ) (w v : Why) → IsCutsFault m total weight c.cuts at w → IsTreesFault m total weight c other v → ⊥
  no_cuts_and_trees c at other w v a b = no_cuts_fault m total weight places one limits c.cuts b.rows at w b.cuts.are b.cuts.small a

  by_pieces : AreLeafLaws → (c : Shape) (at other : ℕ) (w v : Why) → IsCutsFault m total weight c.cuts at w ⊎ IsTreesFault m total weight c at w → IsCutsFault m total weight c.cuts other v ⊎ IsTreesFault m total weight c other v → IsSameFault at w other v
  by_pieces says c at other w v (inl a) (inl b) = one_of_cuts c.cuts at other w v a b
  by_pieces says c at other w v (inl a) (inr b) = absurd (no_cuts_and_trees c at other w v a b)
  by_pieces says c at other w v (inr a) (inl b) = absurd (no_cuts_and_trees c other at v w b a)
  by_pieces says c at other w v (inr a) (inr b) = one_of_trees says c at other w v a b

-- the plan
same_broken : (a b : Broken) (x y : Result ℕ Broken) → x ≡ Err a → y ≡ Err b → x ≡ y → a ≡ b
same_broken a b x y is also same = cc

same_cost : (a b : ℕ) (x y : Result ℕ Broken) → x ≡ Ok a → y ≡ Ok b → x ≡ y → a ≡ b
same_cost a b x y is also same = cc

by_plans : JudgementIsOne → (m : Problem) (c : ℕ) (p : Plan) (w v : Why) → IsBrokenPlan m p w ⊎ IsOtherCost m c p w → IsBrokenPlan m p v ⊎ IsOtherCost m c p v → w ≡ v
by_plans one m c p w v (inl a) (inl b) =
    let same : a.broken ≡ b.broken = same_broken a.broken b.broken (Err a.broken) (Err b.broken) refl refl (one m p (Err a.broken) (Err b.broken) a.judged b.judged) in
    a.cause ∙ ap why.Plan same ∙ sym b.cause
by_plans one m c p w v (inl a) (inr b) =
    absurd (two_answers b.amount a.broken (Ok b.amount) (Err a.broken) refl refl (one m p (Ok b.amount) (Err a.broken) b.judged a.judged))
by_plans one m c p w v (inr a) (inl b) =
    absurd (two_answers a.amount b.broken (Ok a.amount) (Err b.broken) refl refl (one m p (Ok a.amount) (Err b.broken) a.judged b.judged))
by_plans one m c p w v (inr a) (inr b) =
    let same : a.amount ≡ b.amount = same_cost a.amount b.amount (Ok a.amount) (Ok b.amount) refl refl (one m p (Ok a.amount) (Ok b.amount) a.judged b.judged) in
    a.cause ∙ ap (λ (x : ℕ). why.Costs x c) same ∙ sym b.cause

one_optimal : JudgementIsOne → (m : Problem) (c : ℕ) (given : Option Plan) (w v : Why) → IsOptimalFault m c given w → IsOptimalFault m c given v → w ≡ v
one_optimal one m c None w v a b = missing_kind m c w a ∙ sym (missing_kind m c v b)
one_optimal one m c (Some p) w v a b = by_plans one m c p w v (plan_kind m c p w a) (plan_kind m c p v b)

one_plan : JudgementIsOne → (m : Problem) (claim : Claim) (given : Option Plan) (at other : ℕ) (w v : Why) → IsPlanFault m claim given at w → IsPlanFault m claim given other v → IsSameFault at w other v
one_plan one m (Optimal c) given at other w v a b = (a.0 ∙ sym b.0, one_optimal one m c given w v a.1 b.1)
one_plan one m Infeasible given at other w v a b = absurd a
one_plan one m (BoundOf c) given at other w v a b = absurd a

-- the whole
pub one_fault : JudgementIsOne → CutRowsByPlaces → CutRowsAreOne → AreLeafLaws → (m : Problem) (total : ℕ → ℕ) (weight : ℕ → ℕ → ℕ) (c : Shape) (given : Option Plan) (at other : ℕ) (w v : Why) → IsWithinLimits m → IsCheckFault m total weight c given at w → IsCheckFault m total weight c given other v → IsSameFault at w other v
one_fault judged places one says m total weight c given at other w v limits a b =
    ⊎_elim
    (λ x. ⊎_elim (λ y. one_plan judged m c.claim given at other w v x y) (λ y. absurd (no_plan_fault m total weight judged c.claim given at w y.0 x)) b)
    (λ x. ⊎_elim (λ y. absurd (no_plan_fault m total weight judged c.claim given other v x.0 y)) (λ y. by_pieces m total weight places one limits says c at other w v x.1 y.1) b)
    a
