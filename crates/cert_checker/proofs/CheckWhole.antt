-- What the pieces of a certificate make together.
use Rattle.std.proofs.Common.{◌≡◌, ◌+◌, ℕ, inl, inr, refl, subst, [], List, length, Option, Some, None}
use Rattle.lot_sizing.specs.Problem.{Problem}
use Rattle.lot_sizing.specs.Bill.{bill_of}
use Rattle.lot_sizing.specs.Totals.{AreLargestTotals}
use Rattle.lot_model.specs.Views.{IsInstance}
use Rattle.plan_rules.specs.Held.{plan_of}
use Rattle.plan_rules.specs.declared.plan.Plan.{Plan}
use Rattle.lin_rows.specs.Rows.{LinRow}
use Rattle.cert_lines.specs.declared.parts.Claim.{Claim}
use Rattle.cert_lines.specs.declared.parts.Claim.TheVariants.{Optimal, Infeasible, Bound as BoundOf}
use Rattle.lin_rows.specs.declared.bound.Bound.{Bound}
use Rattle.certificate.specs.Shapes.{End, Shape, Split, TreeShape}
use Rattle.certificate.specs.Values.{all_cut_values}
use Rattle.cert_trees.specs.Laws.{PlansAreWithin}
use Rattle.cert_trees.specs.Ranges.{WithTotals, whole_ranges}
use Rattle.cert_trees.specs.Trees.{EachLeaf, high_path, low_path}
use Rattle.bill.specs.Laws.{WeightsExist}
use Rattle.cert_meaning.specs.Accepts.{GoesWith, IsSmallLeaf, IsTrueOf, SaysEnough}
use Rattle.cert_meaning.specs.Laws.{AcceptedIsTrue}
use Rattle.cert_meaning.specs.Named.{names}
use Rattle.cert_checker.specs.declared.fault.CheckFault.{CheckFault}
use Rattle.cert_checker.specs.declared.fault.Why.{Why}
use Rattle.cert_checker.specs.Cuts.{OfProblem}
use Rattle.cert_checker.specs.Checks.{ComesWith, CutsHaveFault, HasFault, HaveGoodRows, IsGoodCertificate, TreeHasFault, TreeIsGood, Ground, IsCheckFault, IsCutsFault, IsGoodLeaf, IsPlanFault, IsTreeFault, first_line, ground, plan_given}
use Rattle.cert_checker.proofs.CheckRefusals.{rejected_weaker}

-- what a leaf has of two things
pub enough_leaves : (g : Ground) (path : List Bound) (t : TreeShape) → EachLeaf (IsGoodLeaf g) path t → EachLeaf (λ p l. SaysEnough g.problem g.total g.rows g.ranges g.claim p l) path t
enough_leaves g path (Split c n low high) each = (enough_leaves g (low_path path c n) low each.0, enough_leaves g (high_path path c n) high each.1)
enough_leaves g path (End leaf) each = each.0

pub small_leaves : (g : Ground) (path : List Bound) (t : TreeShape) → EachLeaf (IsGoodLeaf g) path t → EachLeaf (λ p l. IsSmallLeaf (names g.problem g.total g.rows p) l) path t
small_leaves g path (Split c n low high) each = (small_leaves g (low_path path c n) low each.0, small_leaves g (high_path path c n) high each.1)
small_leaves g path (End leaf) each = each.1

goes_with : PlansAreWithin → (m : Problem) (total : ℕ → ℕ) → IsInstance m → AreLargestTotals m total → (claim : Claim) (given : Option Plan) → ComesWith m claim given → GoesWith m (whole_ranges total) claim (plan_given given)
goes_with within m total instance totals (Optimal c) None comes = absurd comes
goes_with within m total instance totals (Optimal c) (Some p) comes =
    (plan_of p, refl, comes.1, within m instance.ranked.0 total instance.limits.some_period instance.ranked.1 totals (plan_of p) comes.1, comes.2)
goes_with within m total instance totals Infeasible given comes = tt
goes_with within m total instance totals (BoundOf c) given comes = tt

module _ (m : Problem) (c : Shape) (given : Option Plan) where
  pub certified : PlansAreWithin → IsInstance m → (rows : List LinRow) → ComesWith m c.claim given → HaveGoodRows m c.cuts rows → TreeIsGood m rows c.claim [] c.tree → IsGoodCertificate m c given
  certified within instance rows comes cuts tree = λ total weight totals weights.
      let g = ground m total rows c.claim in
      let made = cuts total weight totals weights in
      let good = tree total totals in
      record {
        accepted = record {
          rows = rows;
          cuts = made.are;
          tree = good.split;
          leaves = enough_leaves g [] c.tree good.leaves;
          plan = goes_with within m total instance totals c.claim given comes;
        };
        fits = record { cuts = made.small; leaves = small_leaves g [] c.tree good.leaves };
        plan = comes;
      }

  -- so the claim is true
  pub true_of : AcceptedIsTrue → WeightsExist → IsInstance m → IsGoodCertificate m c given → IsTrueOf m c.claim (plan_given given)
  true_of accepted exist instance is =
      let rank = instance.ranked.0 in
      let total = instance.totals.0 in
      let weight = exist (bill_of m) rank instance.ranked.1 in
      accepted m rank total weight.0 instance.limits.some_period instance.ranked.1 instance.totals.1 weight.1 c (plan_given given) (is total weight.0 instance.totals.1 weight.1).accepted

  -- a refusal of the whole
  pub plan_fault : (at : ℕ) (w : Why) → IsPlanFault m c.claim given at w → OfProblem m (λ total weight. IsCheckFault m total weight c given at w)
  plan_fault at w bad = λ total weight totals weights. inl bad

  pub cuts_fault : (f : CheckFault) → ComesWith m c.claim given → CutsHaveFault m c.cuts f → HasFault m c given f
  cuts_fault f comes bad =
      let P : ℕ → Why → Type 0 = λ at w. OfProblem m (λ total weight. IsCutsFault m total weight c.cuts at w) in
      let Q : ℕ → Why → Type 0 = λ at w. OfProblem m (λ total weight. IsCheckFault m total weight c given at w) in
      rejected_weaker f P Q (λ at w first total weight totals weights. inr (comes, inl (first total weight totals weights))) bad

  pub trees_fault : (f : CheckFault) (rows : List LinRow) (line : ℕ) → ComesWith m c.claim given → HaveGoodRows m c.cuts rows → line ≡ first_line + length (all_cut_values c.cuts) → TreeHasFault m rows c.claim [] c.tree line f → HasFault m c given f
  trees_fault f rows line comes cuts is bad =
      let P : ℕ → Why → Type 0 = λ at w. WithTotals m (λ total. IsTreeFault (ground m total rows c.claim) [] c.tree line at w) in
      let Q : ℕ → Why → Type 0 = λ at w. OfProblem m (λ total weight. IsCheckFault m total weight c given at w) in
      rejected_weaker f P Q
      (λ at w first total weight totals weights. inr (
        comes,
        inr (record {
          rows = rows;
          cuts = cuts total weight totals weights;
          fault = subst (λ x. IsTreeFault (ground m total rows c.claim) [] c.tree x at w) is (first total totals);
        }),
      ))
      bad
