-- What the pieces of a certificate make together.
use Rattle.std.proofs.Common.{◌≡◌, ◌+◌, ℕ, inl, inr, refl, subst, arith, List, [], length, Option, Some, None}
use Rattle.lot_sizing.specs.Problem.{Problem}
use Rattle.lot_sizing.specs.Plan as terms
use Rattle.lot_sizing.specs.Totals.{AreLargestTotals}
use Rattle.lot_model.specs.Views.{IsInstance}
use Rattle.plan_rules.specs.declared.plan.Plan.{Plan}
use Rattle.plan_rules.specs.Held.{plan_of}
use Rattle.lin_rows.specs.declared.bound.Bound.{Bound}
use Rattle.lin_rows.specs.Rows.{LinRow}
use Rattle.cert_lines.specs.declared.parts.Claim.{Claim}
use Rattle.cert_lines.specs.declared.parts.Claim.TheVariants.{Optimal, Infeasible, Bound as BoundOf}
use Rattle.certificate.specs.Shapes.{End, Shape, Split, TreeShape}
use Rattle.certificate.specs.Values.{all_cut_values}
use Rattle.cert_trees.specs.Laws.{PlansAreWithin}
use Rattle.cert_trees.specs.Ranges.{WithTotals, whole_ranges}
use Rattle.cert_trees.specs.Trees.{EachLeaf, high_path, low_path}
use Rattle.cert_meaning.specs.Accepts.{GoesWith, IsSmallLeaf, IsTrueOf, SaysEnough}
use Rattle.cert_meaning.specs.Named.{names}
use Rattle.cert_checker.specs.declared.fault.Why.{Why}
use Rattle.cert_checker.specs.Cuts.{OfProblem}
use Rattle.cert_checker.specs.Checks.{AreGoodCuts, ComesWith, Ground, IsCertified, IsCheckFault, IsCutsFault, IsGoodLeaf, IsGoodTree, IsPlanFault, IsTreeFault, first_line, ground, plan_given}
use Rattle.stream_check.specs.declared.fault.StreamFault.{StreamFault}
use Rattle.stream_check.specs.Nodes.{IsSafe}
use Rattle.stream_check.specs.Passes.{IsRefusal}
use Rattle.stream_check.proofs.Ways.{refusal_weaker}

-- ---- the claim is true
optimal_true : (m : Problem) (cost : ℕ) (p : terms.Plan) → terms.IsFeasible m p → terms.cost m p ≡ cost → ((q : terms.Plan) → terms.IsFeasible m q → IsSafe m (Optimal cost) q) → IsTrueOf m (Optimal cost) (Some p)
optimal_true m cost p feasible costs safe =
    (p, refl, record { feasible = feasible; least = λ q is. omega (arith, safe q is, costs) }, costs)

pub claim_true : (m : Problem) (claim : Claim) (given : Option Plan) → ComesWith m claim given → ((p : terms.Plan) → terms.IsFeasible m p → IsSafe m claim p) → IsTrueOf m claim (plan_given given)
claim_true m (Optimal cost) None comes safe = absurd comes
claim_true m (Optimal cost) (Some p) comes safe = optimal_true m cost (plan_of p) comes.1 comes.2 safe
claim_true m Infeasible given comes safe = safe
claim_true m (BoundOf cost) given comes safe = safe

-- ---- the certificate is accepted
enough_leaves : (g : Ground) (path : List Bound) (t : TreeShape) → EachLeaf (IsGoodLeaf g) path t → EachLeaf (λ p l. SaysEnough g.problem g.total g.rows g.ranges g.claim p l) path t
enough_leaves g path (Split c n low high) each = (enough_leaves g (low_path path c n) low each.0, enough_leaves g (high_path path c n) high each.1)
enough_leaves g path (End leaf) each = each.0

small_leaves : (g : Ground) (path : List Bound) (t : TreeShape) → EachLeaf (IsGoodLeaf g) path t → EachLeaf (λ p l. IsSmallLeaf (names g.problem g.total g.rows p) l) path t
small_leaves g path (Split c n low high) each = (small_leaves g (low_path path c n) low each.0, small_leaves g (high_path path c n) high each.1)
small_leaves g path (End leaf) each = each.1

goes_with : PlansAreWithin → (m : Problem) (total : ℕ → ℕ) → IsInstance m → AreLargestTotals m total → (claim : Claim) (given : Option Plan) → ComesWith m claim given → GoesWith m (whole_ranges total) claim (plan_given given)
goes_with within m total instance totals (Optimal c) None comes = absurd comes
goes_with within m total instance totals (Optimal c) (Some p) comes =
    (plan_of p, refl, comes.1, within m instance.ranked.0 total instance.limits.some_period instance.ranked.1 totals (plan_of p) comes.1, comes.2)
goes_with within m total instance totals Infeasible given comes = tt
goes_with within m total instance totals (BoundOf c) given comes = tt

module _ (m : Problem) (c : Shape) (given : Option Plan) (claim : Claim) (same : claim ≡ c.claim) where
  pub certified : PlansAreWithin → IsInstance m → (rows : List LinRow) → ComesWith m claim given → OfProblem m (λ total weight. AreGoodCuts m total weight c.cuts rows) → WithTotals m (λ total. IsGoodTree (ground m total rows claim) [] c.tree) → OfProblem m (λ total weight. IsCertified m total weight c given)
  certified within instance rows comes cuts tree = λ total weight totals weights.
      let g = ground m total rows c.claim in
      let made = cuts total weight totals weights in
      let good = subst (λ x. IsGoodTree (ground m total rows x) [] c.tree) same (tree total totals) in
      let has = subst (λ x. ComesWith m x given) same comes in
      record {
        accepted = record {
          rows = rows;
          cuts = made.are;
          tree = good.split;
          leaves = enough_leaves g [] c.tree good.leaves;
          plan = goes_with within m total instance totals c.claim given has;
        };
        fits = record { cuts = made.small; leaves = small_leaves g [] c.tree good.leaves };
        plan = has;
      }

  -- ---- or it is refused
  pub plan_refused : (at : ℕ) (w : Why) → IsPlanFault m claim given at w → OfProblem m (λ total weight. IsCheckFault m total weight c given at w)
  plan_refused at w faulty = λ total weight totals weights. inl (subst (λ x. IsPlanFault m x given at w) same faulty)

  pub cuts_refused : (f : StreamFault) → ComesWith m claim given → IsRefusal (λ at w. OfProblem m (λ total weight. IsCutsFault m total weight c.cuts at w)) f → IsRefusal (λ at w. OfProblem m (λ total weight. IsCheckFault m total weight c given at w)) f
  cuts_refused f comes refusal =
      let P : ℕ → Why → Type 0 = λ at w. OfProblem m (λ total weight. IsCutsFault m total weight c.cuts at w) in
      let Q : ℕ → Why → Type 0 = λ at w. OfProblem m (λ total weight. IsCheckFault m total weight c given at w) in
      refusal_weaker P Q
      (λ at w faulty total weight totals weights. inr (subst (λ x. ComesWith m x given) same comes, inl (faulty total weight totals weights)))
      f refusal

  pub tree_refused : (f : StreamFault) (rows : List LinRow) (line : ℕ) → ComesWith m claim given → OfProblem m (λ total weight. AreGoodCuts m total weight c.cuts rows) → line ≡ first_line + length (all_cut_values c.cuts) → IsRefusal (λ at w. WithTotals m (λ total. IsTreeFault (ground m total rows claim) [] c.tree line at w)) f → IsRefusal (λ at w. OfProblem m (λ total weight. IsCheckFault m total weight c given at w)) f
  tree_refused f rows line comes cuts is refusal =
      let P : ℕ → Why → Type 0 = λ at w. WithTotals m (λ total. IsTreeFault (ground m total rows claim) [] c.tree line at w) in
      let Q : ℕ → Why → Type 0 = λ at w. OfProblem m (λ total weight. IsCheckFault m total weight c given at w) in
      refusal_weaker P Q
      (λ at w faulty total weight totals weights. inr (
        subst (λ x. ComesWith m x given) same comes,
        inr (record {
          rows = rows;
          cuts = cuts total weight totals weights;
          fault = subst (λ x. IsTreeFault (ground m total rows x) [] c.tree (first_line + length (all_cut_values c.cuts)) at w) same
              (subst (λ x. IsTreeFault (ground m total rows claim) [] c.tree x at w) is (faulty total totals));
        }),
      ))
      f refusal
