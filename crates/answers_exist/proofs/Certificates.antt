-- Each certificate that has a text is accepted, or has a first fault.
use Rattle.std.proofs.Common.{◌+◌, ◌⊎◌, ⊎_elim, inl, inr, ℕ, refl, Option, Some, None, List, [], ◌∷◌, ◌++◌, length}
use Rattle.std.specs.Prelude.{Result, Ok, Err}
use Rattle.std.specs.List.{All}
use Rattle.std.proofs.lemmas.Bool.{cases_eq}
use Rattle.std.proofs.lemmas.List.Elements.{All-cons, All-nil}
use Rattle.bill.specs.Laws.{TotalsExist, WeightsExist}
use Rattle.lot_sizing.specs.Sums.{sum_to}
use Rattle.lot_sizing.specs.Problem.{IsWithinLimits, Problem, demand, item_at}
use Rattle.lot_sizing.specs.Bill.{AreWeights, bill_of}
use Rattle.lot_sizing.specs.Laws.{KeepsLeast}
use Rattle.lot_sizing.specs.Plan.{cost}
use Rattle.lot_sizing.specs.Totals.{AreLargestTotals, IsRanking}
use Rattle.plan_rules.specs.declared.broken.Broken.{Broken}
use Rattle.plan_rules.specs.declared.plan.Plan.{Plan}
use Rattle.plan_rules.specs.Broken.{IsJudged}
use Rattle.plan_rules.specs.Held.{plan_of}
use Rattle.lin_rows.specs.declared.bound.Bound.{Bound}
use Rattle.lin_rows.specs.Rows.{LinRow}
use Rattle.cert_lines.specs.declared.parts.Claim.{Claim}
use Rattle.cert_lines.specs.declared.parts.Claim.TheVariants.{Optimal, Infeasible, Bound as BoundOf}
use Rattle.cert_lines.specs.Shapes.{BlockCut, CutShape, EndLine, FarkasLeaf, LinearLeaf, LsCut, PointLeaf, PriceCut, ReducedLeaf, RoundCut}
use Rattle.certificate.specs.Shapes.{End, Shape, Split, TreeShape}
use Rattle.certificate.specs.Values.{AreLines, Values, all_cut_values, cut_values, tree_values}
use Rattle.cert_trees.specs.Laws.{PlansAreWithin}
use Rattle.cert_trees.specs.Paths.{AreChoices}
use Rattle.cert_trees.specs.Ranges.{IsChoice, whole_ranges}
use Rattle.cert_trees.specs.Trees.{EachLeaf, high_path, low_path}
use Rattle.cert_meaning.specs.Named.{names}
use Rattle.cert_meaning.specs.Accepts.{GoesWith, IsSmallLeaf, SaysEnough}
use Rattle.cert_checker.specs.declared.fault.Why.{Why}
use Rattle.cert_checker.specs.declared.fault.Why.TheVariants as why
use Rattle.cert_checker.specs.Cuts.{HasDivisor, OfProblem}
use Rattle.cert_checker.specs.Checks.{ComesWith, Ground, HaveDenominators, HaveGoodRows, IsCertified, IsGoodLeaf, IsGoodTree, IsPlanFault, line_at_claim, first_line, ground, plan_given}
use Rattle.existence.specs.Plans.{GridsAreJudged}
use Rattle.answers_exist.specs.Checking.{CertificatesComeOut, IsDecided}
use Rattle.answers_exist.proofs.Cuts.{CutGrounds, cuts_out, one_total, rows_of_problem}
use Rattle.answers_exist.proofs.Leaves.{tree_out}
use Rattle.answers_exist.proofs.Reducing.{ReducedGrounds}

-- what the laws below say
pub record Grounds : Type 0 where
  pub totals : TotalsExist
  pub weights : WeightsExist
  pub cuts : CutGrounds
  pub least : KeepsLeast
  pub within : PlansAreWithin
  pub judged : GridsAreJudged
  pub reduced : ReducedGrounds

-- ---- what a text says of divisors and denominators
lines_front : (version : ℕ) (xs ys : Values) → AreLines version (xs ++ ys) → AreLines version xs
lines_front version [] ys are = tt
lines_front version (x ∷ xs) ys are = (are.0, lines_front version xs ys are.1)

lines_back : (version : ℕ) (xs ys : Values) → AreLines version (xs ++ ys) → AreLines version ys
lines_back version [] ys are = are
lines_back version (x ∷ xs) ys are = lines_back version xs ys are.1

divisor_of : (version : ℕ) (c : CutShape) → AreLines version (cut_values c) → HasDivisor c
divisor_of version (LsCut item last chosen) are = tt
divisor_of version (PriceCut item a) are = tt
divisor_of version (BlockCut item a) are = tt
divisor_of version (RoundCut divisor parts) are = let small = are.0.form.small in (small.0, small.1)

divisors : (version : ℕ) (cuts : List CutShape) → AreLines version (all_cut_values cuts) → All HasDivisor cuts
divisors version [] are = All-nil HasDivisor
divisors version (c ∷ cuts) are =
    All-cons HasDivisor c cuts (divisor_of version c (lines_front version (cut_values c) (all_cut_values cuts) are)) (divisors version cuts (lines_back version (cut_values c) (all_cut_values cuts) are))

denominators : (version : ℕ) (t : TreeShape) → AreLines version (tree_values t) → HaveDenominators t
denominators version (Split c n low high) are = (denominators version low (lines_front version (tree_values low) (tree_values high) are.1), denominators version high (lines_back version (tree_values low) (tree_values high) are.1))
denominators version (End (LinearLeaf den parts)) are = let small = are.0.form.small in small.0
denominators version (End (FarkasLeaf parts)) are = tt
denominators version (End PointLeaf) are = tt
denominators version (End (ReducedLeaf den parts lists groups)) are = tt

-- ---- good leaves say enough, with small sums
enough_leaves : (g : Ground) (path : List Bound) (t : TreeShape) → EachLeaf (IsGoodLeaf g) path t → EachLeaf (SaysEnough g.problem g.total g.rows g.ranges g.claim) path t
enough_leaves g path (End leaf) each = each.0
enough_leaves g path (Split c n low high) each = (enough_leaves g (low_path path c n) low each.0, enough_leaves g (high_path path c n) high each.1)

small_leaves : (g : Ground) (path : List Bound) (t : TreeShape) → EachLeaf (IsGoodLeaf g) path t → EachLeaf (λ p leaf. IsSmallLeaf (names g.problem g.total g.rows p) leaf) path t
small_leaves g path (End leaf) each = each.1
small_leaves g path (Split c n low high) each = (small_leaves g (low_path path c n) low each.0, small_leaves g (high_path path c n) high each.1)

module _ (by : Grounds) (m : Problem) (rank : ℕ → ℕ) (limits : IsWithinLimits m) (ranks : IsRanking m rank) where
  -- ---- the plan
  abbrev PlanFault : Claim → Option Plan → Type 0
  PlanFault claim given = (at : ℕ) × (w : Why) × IsPlanFault m claim given at w

  judged_plan : (c : ℕ) (p : Plan) (found : Result ℕ Broken) → IsJudged m p found → ComesWith m (Optimal c) (Some p) ⊎ PlanFault (Optimal c) (Some p)
  judged_plan c p (Err broken) is = inr (line_at_claim, why.Plan broken, (refl, is))
  judged_plan c p (Ok amount) is =
      ⊎_elim
      (λ same. inl (is.0, is.1, same))
      (λ other. inr (line_at_claim, why.Costs (cost m (plan_of p)) c, (refl, (is.0, is.1, refl, refl, other))))
      (cases_eq (cost m (plan_of p)) c)

  plan_out : (claim : Claim) (given : Option Plan) → ComesWith m claim given ⊎ PlanFault claim given
  plan_out (Optimal c) None = inr (line_at_claim, why.PlanMissing, (refl, tt))
  plan_out (Optimal c) (Some p) = let found = by.judged m p in judged_plan c p found.0 found.1
  plan_out Infeasible given = inl tt
  plan_out (BoundOf c) given = inl tt

  goes_with : (total : ℕ → ℕ) → AreLargestTotals m total → (claim : Claim) (given : Option Plan) → ComesWith m claim given → GoesWith m (whole_ranges total) claim (plan_given given)
  goes_with total totals (Optimal c) None comes = absurd comes
  goes_with total totals (Optimal c) (Some p) comes = (plan_of p, refl, comes.1, by.within m rank total limits.some_period ranks totals (plan_of p) comes.1, comes.2)
  goes_with total totals Infeasible given comes = tt
  goes_with total totals (BoundOf c) given comes = tt

  -- ---- the whole
  some_total : (total : ℕ → ℕ) × AreLargestTotals m total
  some_total = by.totals (bill_of m) (λ i. sum_to m.periods (demand m i) + (item_at m i).end_max) (λ i. (item_at m i).opening) rank ranks

  some_weight : (weight : ℕ → ℕ → ℕ) × AreWeights (bill_of m) weight
  some_weight = by.weights (bill_of m) rank ranks

  certified : (c : Shape) (given : Option Plan) (rows : List LinRow) → ComesWith m c.claim given → HaveGoodRows m c.cuts rows → ((b : ℕ → ℕ) → AreLargestTotals m b → IsGoodTree (ground m b rows c.claim) [] c.tree) → OfProblem m (λ total weight. IsCertified m total weight c given)
  certified c given rows comes good tree total weight totals weights =
      let here = good total weight totals weights in
      let g = ground m total rows c.claim in
      let t = tree total totals in
      record {
        accepted = record {
          rows = rows;
          cuts = here.are;
          tree = t.split;
          leaves = enough_leaves g [] c.tree t.leaves;
          plan = goes_with total totals c.claim given comes;
        };
        fits = record { cuts = here.small; leaves = small_leaves g [] c.tree t.leaves };
        plan = comes;
      }

  decided : (c : Shape) (given : Option Plan) → All HasDivisor c.cuts → HaveDenominators c.tree → IsDecided m c given
  decided c given some_divisors some_denominators =
      let a = some_total in
      let v = some_weight in
      ⊎_elim
      (λ comes. ⊎_elim
      (λ rows. ⊎_elim
      (λ tree. inl (certified c given rows.0 comes rows.1 tree))
      (λ fault. inr (fault.0, fault.1, λ total weight totals weights. inr (comes, inr (record { rows = rows.0; cuts = rows.1 total weight totals weights; fault = fault.2 total totals }))))
      (tree_out by.least by.reduced m limits rank ranks a.0 a.1 (one_total by.cuts m limits rank ranks a.0 a.1 v.0 v.1) rows.0 (rows_of_problem by.cuts m limits rank ranks a.0 a.1 v.0 v.1 c.cuts rows.0 rows.1) c.claim c.tree [] nothing (first_line + length (all_cut_values c.cuts)) some_denominators))
      (λ fault. inr (fault.0, fault.1, λ total weight totals weights. inr (comes, inl (fault.2 total weight totals weights))))
      (cuts_out by.cuts m limits rank ranks a.0 a.1 v.0 v.1 c.cuts some_divisors))
      (λ fault. inr (fault.0, fault.1, λ total weight totals weights. inl fault.2))
      (plan_out c.claim given)
    where
      nothing : AreChoices m []
      nothing = All-nil (λ (x : Bound). IsChoice m x.column)

pub certificates_out : Grounds → CertificatesComeOut
certificates_out by m rank limits ranks c given writable =
    let version = c.version in
    let later = lines_back version (all_cut_values c.cuts) (tree_values c.tree ++ (EndLine ∷ [])) writable.lines in
    decided by m rank limits ranks c given
    (divisors version c.cuts (lines_front version (all_cut_values c.cuts) (tree_values c.tree ++ (EndLine ∷ [])) writable.lines))
    (denominators version c.tree (lines_front version (tree_values c.tree) (EndLine ∷ []) later))
