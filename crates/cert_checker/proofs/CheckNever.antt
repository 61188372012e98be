-- A certificate that is accepted and whose sums are small has no fault.
use Rattle.std.proofs.Common.{◌≡◌, ◌∙◌, ◌<◌, ◌+◌, ℕ, zero, suc, ⊎_elim, inl, inr, refl, sym, subst, arith, List, [], ◌∷◌, ◌++◌, append-nil, append_assoc, length, slice_index_or, take, Option, Some, None}
use Rattle.std.specs.Prelude.{Result, Ok, Err}
use Rattle.algebra.proofs.Order.{linear}
use Rattle.lot_sizing.specs.Echelon.{IsLeadFree}
use Rattle.lot_sizing.specs.Problem.{IsWithinLimits, Problem}
use Rattle.plan_rules.specs.Laws.{JudgementIsOne}
use Rattle.plan_rules.specs.declared.broken.Broken.{Broken}
use Rattle.plan_rules.specs.declared.plan.Plan.{Plan}
use Rattle.lin_rows.specs.declared.bound.Bound.{Bound}
use Rattle.lin_rows.specs.Rows.{LinRow}
use Rattle.cert_lines.specs.declared.parts.Claim.{Claim}
use Rattle.cert_lines.specs.declared.parts.Claim.TheVariants.{Optimal, Infeasible, Bound as BoundOf}
use Rattle.cert_lines.specs.declared.parts.Part.{Part}
use Rattle.cert_lines.specs.Shapes.{BlockCut, BlockLists, CutShape, FarkasLeaf, LeafShape, LinearLeaf, LsCut, PointLeaf, PriceCut, ReducedLeaf, RoundCut}
use Rattle.certificate.specs.Shapes.{End, Shape, Split, TreeShape}
use Rattle.certificate.specs.Values.{all_cut_values, tree_values}
use Rattle.cert_trees.specs.Ranges.{Ranges}
use Rattle.cert_trees.specs.Trees.{EachLeaf, IsSplitTree, high_path, low_path}
use Rattle.cert_meaning.specs.declared.says.LeafSays.{LeafSays}
use Rattle.cert_meaning.specs.declared.says.LeafSays.TheVariants.{NoPlan, AtLeast}
use Rattle.cert_meaning.specs.Named.{Named, names, no_row}
use Rattle.cert_meaning.specs.Parts.{AreParts, AreSmall}
use Rattle.cert_meaning.specs.Says.{IsFarkas, IsPoint, Says}
use Rattle.cert_meaning.specs.CutRows.{AreCutRows, IsBlockCut, IsCutRow}
use Rattle.cert_meaning.specs.Accepts.{AreSmallCuts, IsEnough, IsSmallCut, IsSmallLeaf, SaysEnough}
use Rattle.cert_meaning.specs.Laws.{CutRowsAreOne, CutRowsByPlaces}
use Rattle.cert_checker.specs.declared.fault.CheckFault.{CheckFault}
use Rattle.cert_checker.specs.declared.fault.CheckFault.TheVariants as fault
use Rattle.cert_checker.specs.declared.fault.Why.{Why}
use Rattle.cert_checker.specs.Cuts.{IsBlockCutFault, IsBlockForm, IsCutFault, IsFormFault, IsLsForm, IsPriceForm, IsRoundFault}
use Rattle.cert_checker.specs.Leaves.{IsFarkasFault, IsLeafFault, IsPointFault, farkas_most, linear_most}
use Rattle.cert_checker.proofs.CheckKinds.{block_kind, farkas_kind, form_kind, plan_kind, point_kind, round_kind}
use Rattle.cert_checker.proofs.ReducedNever.{AreLeafLaws, no_reduced_fault}
use Rattle.cert_checker.proofs.SumNever.{no_first_wrong, no_sum_fault}
use Rattle.cert_checker.specs.Checks.{ComesWith, Ground, HasFault, IsNeverRefused, IsCertified, IsCheckFault, IsCutsFault, IsNodeFault, IsOptimalFault, IsPlanFault, IsTreeFault, first_line, ground, no_cut}

-- leaves
no_farkas_fault : (n : Named) (parts : List Part) (line at : ℕ) (w : Why) → IsFarkas n parts → AreSmall n parts → IsFarkasFault n parts line at w → ⊥
no_farkas_fault n parts line at w is small bad =
    ⊎_elim
    (λ kind. omega (arith, linear, is.right, kind.short.right))
    (λ sum. no_sum_fault n farkas_most parts line at w is.parts_exist small is.columns sum)
    (farkas_kind n parts line at w bad)

no_point_fault : (n : Named) (ranges : Ranges) (line at : ℕ) (w : Why) → IsPoint n ranges → IsPointFault n ranges line at w → ⊥
no_point_fault n ranges line at w is bad = (point_kind n ranges line at w bad).none is

pub no_leaf_fault : AreLeafLaws → (n : Named) (ranges : Ranges) (leaf : LeafShape) (says : LeafSays) (line at : ℕ) (w : Why) → Says n ranges leaf says → IsSmallLeaf n leaf → IsLeafFault n ranges leaf line at w → ⊥
no_leaf_fault laws n ranges (LinearLeaf den parts) NoPlan line at w is small bad = is
no_leaf_fault laws n ranges (LinearLeaf den parts) (AtLeast bound) line at w is small bad = no_sum_fault n (linear_most n den) parts line at w is.parts_exist small is.columns bad
no_leaf_fault laws n ranges (FarkasLeaf parts) NoPlan line at w is small bad = no_farkas_fault n parts line at w is small bad
no_leaf_fault laws n ranges (FarkasLeaf parts) (AtLeast bound) line at w is small bad = is
no_leaf_fault laws n ranges PointLeaf NoPlan line at w is small bad = no_point_fault n ranges line at w is.0 bad
no_leaf_fault laws n ranges PointLeaf (AtLeast bound) line at w is small bad = no_point_fault n ranges line at w is.0 bad
no_leaf_fault laws n ranges (ReducedLeaf den parts lists groups) says line at w is small bad =
    no_reduced_fault n den parts lists groups ranges says line at w laws is small bad

pub no_node_fault : AreLeafLaws → (g : Ground) (path : List Bound) (leaf : LeafShape) (line at : ℕ) (w : Why) → SaysEnough g.problem g.total g.rows g.ranges g.claim path leaf → IsSmallLeaf (names g.problem g.total g.rows path) leaf → IsNodeFault g path leaf line at w → ⊥
no_node_fault one g path leaf line at w enough small (inl bad) = no_leaf_fault one (names g.problem g.total g.rows path) g.ranges leaf enough.0 line at w enough.1 small bad
no_node_fault one g path leaf line at w enough small (inr short) =
    let n = names g.problem g.total g.rows path in
    let same : enough.0 ≡ AtLeast short.0 = one.says n g.ranges leaf enough.0 (AtLeast short.0) enough.1 short.3.says in
    short.3.short (subst (IsEnough g.claim) same enough.2)

-- trees
pub no_tree_fault : AreLeafLaws → (g : Ground) (path : List Bound) (t : TreeShape) (line at : ℕ) (w : Why) → IsSplitTree g.problem g.ranges path t → EachLeaf (λ p l. SaysEnough g.problem g.total g.rows g.ranges g.claim p l) path t → EachLeaf (λ p l. IsSmallLeaf (names g.problem g.total g.rows p) l) path t → IsTreeFault g path t line at w → ⊥
no_tree_fault one g path (Split c n low high) line at w split enough small bad =
    ⊎_elim
    (λ stands. stands.2 split.0)
    (λ later. ⊎_elim
    (λ in_low. no_tree_fault one g (low_path path c n) low (line + 1) at w split.1 enough.0 small.0 in_low)
    (λ in_high. no_tree_fault one g (high_path path c n) high (line + 1 + length (tree_values low)) at w split.2 enough.1 small.1 in_high.1)
    later.1)
    bad
no_tree_fault one g path (End leaf) line at w split enough small bad = no_node_fault one g path leaf line at w enough small bad

-- a plan has no cost beside a rule that it breaks
pub two_answers : (c : ℕ) (broken : Broken) (a b : Result ℕ Broken) → a ≡ Ok c → b ≡ Err broken → a ≡ b → ⊥
two_answers c broken a b is also same = cc

-- cuts
no_form_fault : (Form LeadFree : Type 0) (line at : ℕ) (w : Why) → Form → LeadFree → IsFormFault Form LeadFree line at w → ⊥
no_form_fault Form LeadFree line at w form free bad = ⊎_elim (λ kind. kind.none form) (λ kind. kind.leads free) (form_kind Form LeadFree line at w bad)

no_block_fault : (m : Problem) (weight : ℕ → ℕ → ℕ) (item : ℕ) (a : BlockLists) (line at : ℕ) (w : Why) → IsBlockForm m item a → IsBlockCut m weight item a → IsBlockCutFault m weight item a line at w → ⊥
no_block_fault m weight item a line at w form is bad =
    ⊎_elim
    (λ kind. kind.none form)
    (⊎_elim
    (λ kind. kind.leads is.echelon.lead_free)
    (⊎_elim (λ kind. kind.none is.potentials.size) (λ kind. kind.first.broken (is.potentials.blocks kind.block kind.first.block))))
    (block_kind m weight item a line at w bad)

no_round_fault : (n : Named) (parts : List Part) (line at : ℕ) (w : Why) → AreParts n parts → AreSmall n parts → IsRoundFault n parts line at w → ⊥
no_round_fault n parts line at w are small bad =
    ⊎_elim (λ first. no_first_wrong n parts line at w are first) (λ kind. kind.large small) (round_kind n parts line at w bad)

module _ (m : Problem) (total : ℕ → ℕ) (weight : ℕ → ℕ → ℕ) where
  pub no_cut_fault : (earlier : List LinRow) (cut : CutShape) (row : LinRow) (line at : ℕ) (w : Why) → IsCutRow m total weight earlier cut row → IsSmallCut m total earlier cut → IsCutFault m total weight earlier cut line at w → ⊥
  no_cut_fault earlier (LsCut item last chosen) row line at w is small bad =
      let form : IsLsForm m item last chosen = record { item_exists = (is.0.echelon.low, is.0.echelon.high); low = is.0.low; high = is.0.high; size = is.0.size } in
      no_form_fault (IsLsForm m item last chosen) (IsLeadFree m weight item) line at w form is.0.echelon.lead_free bad
  no_cut_fault earlier (PriceCut item a) row line at w is small bad =
      let form : IsPriceForm m item a = record { item_exists = (is.0.echelon.low, is.0.echelon.high); price = is.0.price; prices = is.0.prices } in
      no_form_fault (IsPriceForm m item a) (IsLeadFree m weight item) line at w form is.0.echelon.lead_free bad
  no_cut_fault earlier (BlockCut item a) row line at w is small bad =
      let form : IsBlockForm m item a = record { item_exists = (is.0.echelon.low, is.0.echelon.high); setup = is.0.setup; prices = is.0.prices; steps = is.0.steps } in
      no_block_fault m weight item a line at w form is.0 bad
  no_cut_fault earlier (RoundCut divisor parts) row line at w is small bad = no_round_fault (names m total earlier []) parts line at w is.0.parts_exist small bad

  -- the sums of the cut at a place are small
  pub small_at : (earlier : List LinRow) (cuts : List CutShape) (rows : List LinRow) (k : ℕ) → AreSmallCuts m total earlier cuts rows → k < length cuts → IsSmallCut m total (earlier ++ take k rows) (slice_index_or cuts k no_cut)
  small_at earlier [] rows k are less = absurd (omega (arith, less))
  small_at earlier (d ∷ cuts) [] k are less = absurd are
  small_at earlier (d ∷ cuts) (s ∷ rows) zero are less = subst (λ e. IsSmallCut m total e d) (sym (append-nil earlier)) are.0
  small_at earlier (d ∷ cuts) (s ∷ rows) (suc k) are less =
      subst (λ e. IsSmallCut m total e (slice_index_or cuts k no_cut)) (append_assoc earlier (s ∷ []) (take k rows))
      (small_at (earlier ++ (s ∷ [])) cuts rows k are.1 (omega (arith, less)))

  pub no_cuts_fault : CutRowsByPlaces → CutRowsAreOne → IsWithinLimits m → (cuts : List CutShape) (rows : List LinRow) (at : ℕ) (w : Why) → AreCutRows m total weight [] cuts rows → AreSmallCuts m total [] cuts rows → IsCutsFault m total weight cuts at w → ⊥
  no_cuts_fault places one limits cuts rows at w are small first =
      let k = first.place in
      let all = places m total weight cuts rows are in
      let same : first.rows ≡ take k rows = one m total weight (take k cuts) first.rows (take k rows) limits first.before (all.first k) in
      let line = first_line + length (all_cut_values (take k cuts)) in
      no_cut_fault (take k rows) (slice_index_or cuts k no_cut) (slice_index_or rows k no_row) line at w (all.each k no_cut no_row first.exists) (small_at [] cuts rows k small first.exists)
      (subst (λ e. IsCutFault m total weight e (slice_index_or cuts k no_cut) line at w) same first.fault)

  -- the plan
  no_optimal_fault : JudgementIsOne → (c : ℕ) (given : Option Plan) (w : Why) → ComesWith m (Optimal c) given → IsOptimalFault m c given w → ⊥
  no_optimal_fault one c None w comes bad = comes
  no_optimal_fault one c (Some p) w comes bad =
      ⊎_elim
      (λ kind. two_answers c kind.broken (Ok c) (Err kind.broken) refl refl (one m p (Ok c) (Err kind.broken) (comes.0, comes.1, sym comes.2) kind.judged))
      (λ kind. kind.other (kind.judged.2 ∙ comes.2))
      (plan_kind m c p w bad)

  pub no_plan_fault : JudgementIsOne → (claim : Claim) (given : Option Plan) (at : ℕ) (w : Why) → ComesWith m claim given → IsPlanFault m claim given at w → ⊥
  no_plan_fault one (Optimal c) given at w comes bad = no_optimal_fault one c given w comes bad.1
  no_plan_fault one Infeasible given at w comes bad = bad
  no_plan_fault one (BoundOf c) given at w comes bad = bad

  -- the whole
  pub no_fault : JudgementIsOne → CutRowsByPlaces → CutRowsAreOne → AreLeafLaws → IsWithinLimits m → (c : Shape) (given : Option Plan) (at : ℕ) (w : Why) → IsCertified m total weight c given → IsCheckFault m total weight c given at w → ⊥
  no_fault judged places one says limits c given at w is bad =
      let rows = is.accepted.rows in
      ⊎_elim
      (λ plan. no_plan_fault judged c.claim given at w is.plan plan)
      (λ later. ⊎_elim
      (λ cuts. no_cuts_fault places one limits c.cuts rows at w is.accepted.cuts is.fits.cuts cuts)
      (λ tree.
      let same : tree.rows ≡ rows = one m total weight c.cuts tree.rows rows limits tree.cuts.are is.accepted.cuts in
      let line = first_line + length (all_cut_values c.cuts) in
      no_tree_fault says (ground m total rows c.claim) [] c.tree line at w is.accepted.tree is.accepted.leaves is.fits.leaves
      (subst (λ r. IsTreeFault (ground m total r c.claim) [] c.tree line at w) same tree.fault))
      later.1)
      bad

-- so a refusal of one that is certified is out of memory
pub never : (m : Problem) (c : Shape) (given : Option Plan) (f : CheckFault) → JudgementIsOne → CutRowsByPlaces → CutRowsAreOne → AreLeafLaws → IsWithinLimits m → HasFault m c given f → IsNeverRefused m c given f
never m c given (fault.Rejected r) judged places one says limits faulty = λ total weight totals weights is.
    absurd (no_fault m total weight judged places one says limits c given r.line r.why is (faulty total weight totals weights))
never m c given fault.Memory judged places one says limits faulty = λ total weight totals weights is. refl
