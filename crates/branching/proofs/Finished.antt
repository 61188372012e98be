-- What a tree that was sought shows, as a certificate says it.
use Rattle.std.proofs.Common.{◌≡◌, ◌≤◌, ◌<◌, ◌^◌, ◌∙◌, ⊎_elim, inl, inr, ◌+◌, ◌*◌, ℕ, Bool, refl, sym, ap, subst, arith, List, [], Option, Some, None}
use Rattle.std.specs.Prelude.{IfSome, map}
use Rattle.lot_sizing.specs.Best.{IsFloor}
use Rattle.lot_sizing.specs.Problem.{Problem, item_count}
use Rattle.lot_sizing.specs.Totals.{AreLargestTotals}
use Rattle.plan_rules.specs.declared.plan.Planned.{Planned}
use Rattle.plan_rules.specs.Held.{plan_of}
use Rattle.lin_rows.specs.declared.bound.Bound.{Bound}
use Rattle.lin_rows.specs.declared.column.Column.{Column}
use Rattle.lin_rows.specs.Rows.{LinRow}
use Rattle.cert_lines.specs.declared.limits.TheConstants.{MAX_BRANCHES}
use Rattle.cert_lines.specs.declared.parts.Claim.{Claim}
use Rattle.cert_lines.specs.declared.parts.Claim.TheVariants.{Optimal, Infeasible, Bound as BoundOf}
use Rattle.cert_lines.specs.Limits.{IsSmallClaim}
use Rattle.cert_lines.specs.Shapes.{cut_shape, leaf_shape}
use Rattle.certificate.specs.declared.tree.Tree.{Tree}
use Rattle.certificate.specs.Counts.{longest_path, node_count}
use Rattle.certificate.specs.Limits.{IsWritable}
use Rattle.certificate.specs.Shapes.{Shape, shape_of, tree_shape}
use Rattle.cert_trees.specs.Ranges.{IsWithin, Ranges}
use Rattle.cert_trees.specs.Trees as split
use Rattle.cert_meaning.specs.declared.says.LeafSays.TheVariants.{AtLeast}
use Rattle.cert_meaning.specs.Accepts.{IsEnough, IsTrueWithin}
use Rattle.cert_meaning.specs.Laws.{SaysAreOne}
use Rattle.cert_meaning.specs.Named.{names}
use Rattle.cert_meaning.specs.Says.{Says}
use Rattle.cert_checker.specs.Checks.{ComesWith, HaveGoodRows, line_count, plan_given}
use Rattle.cert_checker.specs.Cuts.{OfProblem}
use Rattle.own_plan.specs.Made.{IsMade}
use Rattle.search_result.specs.declared.found.Found.{Found}
use Rattle.search_result.specs.declared.found.RootSays.{RootSays}
use Rattle.leaf_growth.specs.declared.limits.TheConstants.{MAX_NODES}
use Rattle.tree_search.specs.declared.node.Range.{Range}
use Rattle.tree_search.specs.declared.proposal.Proposal.{Proposal}
use Rattle.tree_search.specs.declared.sought.Sought.{Sought}
use Rattle.tree_search.specs.declared.sought.Sought.TheVariants.{Branch', Leaf}
use Rattle.tree_search.specs.declared.limits.Limits.{Limits}
use Rattle.tree_search.specs.Gaps.{IsWithinGap}
use Rattle.tree_search.specs.Claims.{HasCause, IsBound, IsOpenDeep, IsShown, IsEvidenced, IsUndecided as IsLeftOpen, SomeSays}
use Rattle.tree_search.specs.Costs.{IsAtMost, IsBelow}
use Rattle.tree_search.specs.Counts.{longest, nodes}
use Rattle.tree_search.specs.declared.sought.Searched.{Searched}
use Rattle.tree_search.specs.Ranges.{height, high_side, low_side, volume}
use Rattle.tree_search.specs.Whole.{WholeIsMeasured}
use Rattle.tree_search.specs.Stripped.{IsStripped}
use Rattle.tree_search.specs.Trees.{AtLeaf, EachLeaf, IsSplitTree, SomeLeaf, high_path, low_path}
use Rattle.branching.specs.declared.guiding.Model.{Model}
use Rattle.branching.specs.declared.knowing.Known.{Known}
use Rattle.branching.specs.Finishing.{IsFinished, IsSearched}
use Rattle.incumbent.specs.Kept.{cost_kept, plan_kept, IsMadeWithin}
use Rattle.branching.specs.Knowing.{ranges_in, shapes}
use Rattle.branching.specs.Leaves.{IsGoodLeafWithin, IsKept, IsEvidentAt, said}
use Rattle.node_domains.specs.Nodes.{IsNodeOf, choice_place, choice_rules}
use Rattle.branching.specs.Search.{GoesTogether, IsBelowPlan, IsClaimedAtLeast, IsDecided, IsEvidence, IsPlanNear, in_version}
use Rattle.branching.specs.SearchWithin.{HasEvidenceWithin, IsCertifiedWithin, IsDeepIfOpenWithin, IsOutOfRoomWithin, IsProvedWithin, IsUndecidedWithin, SaysAmountWithin}
use Rattle.branching.specs.Search as shown
use Rattle.branching.proofs.Proved.{Grounds, IsEnoughAt, IsShownBy, proved_in, proved_shape}
use Rattle.branching.proofs.Translating.{each_on, each_two, some_on, split_tree}

-- ---- the claim
-- what each leaf says at least, where this is claimed
limit_of : Claim → Option ℕ
limit_of (Optimal amount) = Some amount
limit_of Infeasible = None
limit_of (BoundOf amount) = Some amount

enough_of : (claim : Claim) (says : Option ℕ) → IsAtMost (limit_of claim) says → IsEnough claim (said says)
unfolding limit_of
enough_of (Optimal amount) None least = tt
enough_of (Optimal amount) (Some n) least = least
enough_of Infeasible None least = tt
enough_of Infeasible (Some n) least = absurd least
enough_of (BoundOf amount) None least = tt
enough_of (BoundOf amount) (Some n) least = least

all_least : (m : Problem) (best : Option ℕ) (rs : List Range) (sought : Sought) (claim : Claim) → IsShown (choice_rules m) best rs sought claim → EachLeaf (choice_place m) (λ rs path p. IsAtMost (limit_of claim) p.says) rs [] sought
unfolding limit_of
all_least m best rs sought (Optimal amount) is = is.1
all_least m best rs sought Infeasible is = is.1
all_least m best rs sought (BoundOf amount) is = is.1

some_eq : (a b : ℕ) → Some a ≡ Some b → a ≡ b
some_eq a b e = cc e

-- the plan goes with the claim
pub comes : (m : Problem) (best : Option Planned) (rs : List Range) (sought : Sought) (claim : Claim) → IfSome best (IsMade m) → IsShown (choice_rules m) (cost_kept best) rs sought claim → ComesWith m claim (plan_kept best)
comes m None rs sought (Optimal amount) made is = cc (is.0)
comes m (Some p) rs sought (Optimal amount) made is = (made.fits, made.feasible, sym made.cost ∙ some_eq p.cost amount is.0)
comes m best rs sought Infeasible made is = tt
comes m best rs sought (BoundOf amount) made is = tt

pub goes : (m : Problem) (best : Option Planned) (rs : List Range) (sought : Sought) (claim : Claim) → IfSome best (IsMade m) → IsShown (choice_rules m) (cost_kept best) rs sought claim → GoesTogether m claim (plan_kept best)
goes m None rs sought (Optimal amount) made is = cc (is.0)
goes m (Some p) rs sought (Optimal amount) made is = refl
goes m None rs sought Infeasible made is = refl
goes m (Some p) rs sought Infeasible made is = cc (is.0)
goes m None rs sought (BoundOf amount) made is = tt
goes m (Some p) rs sought (BoundOf amount) made is = omega (arith, is.0, made.cost)

-- the plan is as near to a bound as the cost that is kept with it
near_kept : (m : Problem) (gap : Option ℕ) (amount : ℕ) (best : Option Planned) → IfSome best (IsMade m) → IsWithinGap gap amount (cost_kept best) → IsPlanNear m gap (BoundOf amount) (plan_kept best)
near_kept m None amount best made near = absurd near
near_kept m (Some gap) amount None made near = absurd near
near_kept m (Some gap) amount (Some p) made near = subst (λ cost. 10000 * cost ≤ 10000 * amount + gap * cost) made.cost near

-- some leaf that has one thing has another one, where all leaves have it
pub at_some : (place : Column → ℕ) (P R : AtLeaf) (C : Type 0) → ((rs : List Range) (path : List Bound) (p : Proposal) → P rs path p → R rs path p → C) → (rs : List Range) (path : List Bound) (sought : Sought) → EachLeaf place P rs path sought → SomeLeaf place R rs path sought → C
at_some place P R C f rs path (Branch' c spot at p low q high) each some =
    ⊎_elim
    (λ first. at_some place P R C f (low_side rs (place c) at) (low_path path c at) low each.0 first)
    (λ next. at_some place P R C f (high_side rs (place c) at) (high_path path c at) high each.1 next)
    some
at_some place P R C f rs path (Leaf p) each some = f rs path p each some

-- ---- the leaves
module _ (m : Problem) (ranges : Ranges) (version least : ℕ) (rows : List LinRow) (rs : List Range) (sought : Sought) where
  -- the amount of a bound is small, and no less than what is known of all plans
  small_bound : (bound : ℕ) → EachLeaf (choice_place m) (λ rs path p. IsKept m ranges version least rows rs path p) rs [] sought → SomeSays (choice_rules m) bound rs sought → bound < 2 ^ 127
  small_bound bound each some =
      at_some (choice_place m) (λ rs path p. IsKept m ranges version least rows rs path p) (λ rs path p. p.says ≡ Some bound) (bound < 2 ^ 127)
      (λ rs path p is e. let P : Option ℕ → Type 0 = λ s. IfSome s (λ n. n < 2 ^ 127) in subst P e is.good.small)
      rs [] sought each some

  least_bound : (bound : ℕ) → EachLeaf (choice_place m) (λ rs path p. IsKept m ranges version least rows rs path p) rs [] sought → SomeSays (choice_rules m) bound rs sought → least ≤ bound
  least_bound bound each some =
      at_some (choice_place m) (λ rs path p. IsKept m ranges version least rows rs path p) (λ rs path p. p.says ≡ Some bound) (least ≤ bound)
      (λ rs path p is e. subst (IsAtMost (Some least)) e is.good.no_less)
      rs [] sought each some

  pub small_claim : (best : Option Planned) (claim : Claim) → IfSome best (IsMade m) → EachLeaf (choice_place m) (λ rs path p. IsKept m ranges version least rows rs path p) rs [] sought → IsShown (choice_rules m) (cost_kept best) rs sought claim → IsSmallClaim claim
  small_claim None (Optimal amount) made each is = cc (is.0)
  small_claim (Some p) (Optimal amount) made each is = omega (arith, made.small, some_eq p.cost amount is.0)
  small_claim best Infeasible made each is = tt
  small_claim best (BoundOf amount) made each is = small_bound amount each is.2

  pub claimed_least : (best : Option Planned) (claim : Claim) → IfSome best (IsMade m) → IsFloor m least → EachLeaf (choice_place m) (λ rs path p. IsKept m ranges version least rows rs path p) rs [] sought → IsShown (choice_rules m) (cost_kept best) rs sought claim → IsClaimedAtLeast least claim
  claimed_least None (Optimal amount) made floor each is = cc (is.0)
  claimed_least (Some p) (Optimal amount) made floor each is = omega (arith, floor (plan_of p.plan) made.feasible, made.cost, some_eq p.cost amount is.0)
  claimed_least best Infeasible made floor each is = tt
  claimed_least best (BoundOf amount) made floor each is = least_bound amount each is.2

  -- each leaf of the certificate's tree says enough
  pub all_enough : (best : Option ℕ) (claim : Claim) (t : Tree) → IsNodeOf m ranges rs [] → longest sought ≤ MAX_BRANCHES → IsSplitTree (choice_place m) rs sought → IsStripped sought t → EachLeaf (choice_place m) (λ rs path p. IsKept m ranges version least rows rs path p) rs [] sought → IsShown (choice_rules m) best rs sought claim → split.EachLeaf (IsEnoughAt m ranges version rows claim) [] (tree_shape t)
  all_enough best claim t node short is same each shows =
      each_on m ranges
      (λ rs path p. IsKept m ranges version least rows rs path p × IsAtMost (limit_of claim) p.says)
      (IsEnoughAt m ranges version rows claim)
      (λ rs path p here deep both. record { amount = said p.says; says = both.0.good.says; enough = enough_of claim p.says both.1; lines = both.0.good.lines })
      rs [] sought t node (omega (arith, short)) is same
      (each_two (choice_place m) (λ rs path p. IsKept m ranges version least rows rs path p) (λ rs path p. IsAtMost (limit_of claim) p.says) rs [] sought each (all_least m best rs sought claim shows))

  -- ---- bounds
  -- what a leaf is told to say is what the certificate's leaf says
  says_is : SaysAreOne → (total : ℕ → ℕ) → AreLargestTotals m total → (path : List Bound) (p : Proposal) (amount : ℕ) → IsGoodLeafWithin m ranges version least rows path p → SaysAmountWithin m ranges rows amount path (leaf_shape p.leaf) → p.says ≡ Some amount
  says_is one total totals path p amount good says = from_said p.says amount (one (names m total rows path) ranges (leaf_shape p.leaf) (said p.says) (AtLeast amount) (good.says.said total totals) (says total totals))
    where
      from_said : (s : Option ℕ) (n : ℕ) → said s ≡ AtLeast n → s ≡ Some n
      from_said None n e = cc e
      from_said (Some k) n e = let same : k ≡ n = cc e in ap Some same

  pub all_evidence : SaysAreOne → (total : ℕ → ℕ) → AreLargestTotals m total → (root : RootSays) (bound : ℕ) (t : Tree) → IsNodeOf m ranges rs [] → longest sought ≤ MAX_BRANCHES → IsSplitTree (choice_place m) rs sought → IsStripped sought t → EachLeaf (choice_place m) (λ rs path p. IsKept m ranges version least rows rs path p) rs [] sought → EachLeaf (choice_place m) (λ rs path p. p.says ≡ Some bound → IsEvidentAt m root path p) rs [] sought → split.EachLeaf (λ path leaf. SaysAmountWithin m ranges rows bound path leaf → IsEvidence m root path bound) [] (tree_shape t)
  all_evidence one total totals root bound t node short is same each evident =
      each_on m ranges
      (λ rs path p. IsKept m ranges version least rows rs path p × (p.says ≡ Some bound → IsEvidentAt m root path p))
      (λ path leaf. SaysAmountWithin m ranges rows bound path leaf → IsEvidence m root path bound)
      (λ rs path p here deep both says.
      let e = says_is one total totals path p bound both.0.good says in
      let P : Option ℕ → Type 0 = λ s. IfSome s (IsEvidence m root path) in
      subst P e (both.1 e deep))
      rs [] sought t node (omega (arith, short)) is same
      (each_two (choice_place m) (λ rs path p. IsKept m ranges version least rows rs path p) (λ rs path p. p.says ≡ Some bound → IsEvidentAt m root path p) rs [] sought each evident)

  pub some_amount : (bound : ℕ) (t : Tree) → IsStripped sought t → EachLeaf (choice_place m) (λ rs path p. IsKept m ranges version least rows rs path p) rs [] sought → SomeSays (choice_rules m) bound rs sought → shown.SomeLeaf (SaysAmountWithin m ranges rows bound) [] (tree_shape t)
  some_amount bound t same each some =
      some_on m ranges
      (λ rs path p. IsKept m ranges version least rows rs path p)
      (λ rs path p. p.says ≡ Some bound)
      (SaysAmountWithin m ranges rows bound)
      (λ rs path p is e. λ total totals. let P : Option ℕ → Type 0 = λ s. Says (names m total rows path) ranges (leaf_shape p.leaf) (said s) in subst P e (is.good.says.said total totals))
      rs [] sought t same each some

  -- a leaf that is open is deep
  below_kept : (best : Option Planned) (amount : ℕ) → IfSome best (IsMade m) → IsBelowPlan m (plan_kept best) amount → IsBelow (Some amount) (cost_kept best)
  below_kept None amount made below = tt
  below_kept (Some p) amount made below = omega (arith, below, made.cost)

  pub all_deep : SaysAreOne → (total : ℕ → ℕ) → AreLargestTotals m total → (best : Option Planned) (t : Tree) → IfSome best (IsMade m) → IsNodeOf m ranges rs [] → longest sought ≤ MAX_BRANCHES → IsSplitTree (choice_place m) rs sought → IsStripped sought t → EachLeaf (choice_place m) (λ rs path p. IsKept m ranges version least rows rs path p) rs [] sought → EachLeaf (choice_place m) (IsOpenDeep (choice_rules m) (cost_kept best)) rs [] sought → split.EachLeaf (IsDeepIfOpenWithin m ranges (plan_kept best) rows) [] (tree_shape t)
  all_deep one total totals best t made node short is same each deep =
      each_on m ranges
      (λ rs path p. IsKept m ranges version least rows rs path p × IsOpenDeep (choice_rules m) (cost_kept best) rs path p)
      (IsDeepIfOpenWithin m ranges (plan_kept best) rows)
      (λ rs path p here few both amount says below.
      let e = says_is one total totals path p amount both.0.good says in
      both.1 (subst (λ s. IsBelow s (cost_kept best)) (sym e) (below_kept best amount made below)))
      rs [] sought t node (omega (arith, short)) is same
      (each_two (choice_place m) (λ rs path p. IsKept m ranges version least rows rs path p) (IsOpenDeep (choice_rules m) (cost_kept best)) rs [] sought each deep)

-- ---- the whole search
-- what a certificate is made of
abbrev pub made_shape : Model → Known → Searched → Tree → Shape
made_shape g k s t = record { version = g.version; claim = s.claim; cuts = shapes k; tree = tree_shape t }

-- the certificate's tree is the one that was sought, with as many nodes and as long a path
pub record IsTreeOf (s : Searched) (t : Tree) : Type 0 where
  pub stripped : IsStripped s.tree t
  pub nodes : node_count (tree_shape t) ≡ nodes s.tree
  pub longest : longest_path (tree_shape t) ≡ longest s.tree

-- the best plan, and that it is within the ranges
pub made_of : (m : Problem) (ranges : Ranges) (best : Option Planned) → IfSome best (IsMadeWithin m ranges) → IfSome best (IsMade m)
made_of m ranges None is = tt
made_of m ranges (Some p) is = is.made

pub within_of : (m : Problem) (ranges : Ranges) (best : Option Planned) → IfSome best (IsMadeWithin m ranges) → IfSome (plan_kept best) (λ p. IsWithin m ranges (plan_of p))
within_of m ranges None is = tt
within_of m ranges (Some p) is = is.within

module _ (g : Model) (k : Known) (budget : ℕ) (limits : Limits) (stopping : Bool) (rs : List Range) (s : Searched) (t : Tree) (is : IsSearched g k budget limits stopping rs s) (of : IsTreeOf s t) where
  pub shown_by : s.nodes ≤ MAX_NODES → IsShownBy g.instance.now (ranges_in g) (made_shape g k s t) k.rows.items (plan_kept k.best)
  shown_by few =
      let m = g.instance.now in
      let ranges = ranges_in g in
      let rows = k.rows.items in
      let begun = is.known.begun in
      let made = made_of m ranges k.best is.known.best in record {
        version = begun.known;
        amount = small_claim m ranges g.version g.least rows rs s.tree k.best s.claim made is.holds is.shown;
        good = is.known.cuts.good;
        few = is.known.cuts.few;
        lines = is.known.cuts.lines;
        inside = is.known.given.inside;
        split = split_tree m ranges rs [] s.tree t is.node is.split of.stripped;
        paths = omega (arith, of.longest, is.short);
        leaves = all_enough m ranges g.version g.least rows rs s.tree (cost_kept k.best) s.claim t is.node is.short is.split of.stripped is.holds is.shown;
        comes = comes m k.best rs s.tree s.claim made is.shown;
        within = within_of m ranges k.best is.known.best;
        nodes = omega (arith, of.nodes, is.nodes, few);
      }

  -- the causes of a bound
  no_room : SaysAreOne → (total : ℕ → ℕ) → AreLargestTotals g.instance.now total → IsLeftOpen (choice_rules g.instance.now) (cost_kept k.best) budget rs s.tree → (found : Found) → found.nodes ≡ s.nodes → found.plan ≡ plan_kept k.best → shown.tree_in found ≡ tree_shape t → IsOutOfRoomWithin g.instance.now (ranges_in g) budget found k.rows.items
  no_room one total totals left found nodes_are plan_is tree_is =
      let m = g.instance.now in
      let ranges = ranges_in g in
      ⊎_elim
      (λ less. inl (omega (arith, less, nodes_are, is.nodes)))
      (λ deep. inr (record {
        longest = ap longest_path tree_is ∙ of.longest ∙ deep.0;
        height = λ other others. omega (arith, deep.1, is.listed.height other others);
        leaves = subst (λ p. split.EachLeaf (IsDeepIfOpenWithin m ranges p k.rows.items) [] (shown.tree_in found)) (sym plan_is)
            (subst (λ x. split.EachLeaf (IsDeepIfOpenWithin m ranges (plan_kept k.best) k.rows.items) [] x) (sym tree_is)
            (all_deep m ranges g.version g.least k.rows.items rs s.tree one total totals k.best t (made_of m ranges k.best is.known.best) is.node is.short is.split of.stripped is.holds deep.2));
      }))
      left

  left_open : SaysAreOne → (total : ℕ → ℕ) → AreLargestTotals g.instance.now total → (amount : ℕ) → s.claim ≡ BoundOf amount → (found : Found) → found.certificate.claim ≡ s.claim → found.nodes ≡ s.nodes → found.plan ≡ plan_kept k.best → shown.tree_in found ≡ tree_shape t → IsUndecidedWithin g.instance.now (ranges_in g) budget limits stopping found k.rows.items
  left_open one total totals amount bound found claim_is nodes_are plan_is tree_is =
      let m = g.instance.now in
      let why : HasCause (choice_rules m) (cost_kept k.best) budget limits.gap stopping rs s.tree (BoundOf amount) = subst (HasCause (choice_rules m) (cost_kept k.best) budget limits.gap stopping rs s.tree) bound is.cause in
      ⊎_elim
      (λ left. inl (no_room one total totals left found nodes_are plan_is tree_is))
      (λ other. inr (⊎_elim
      (λ near. inl (subst (λ c. IsPlanNear m limits.gap c found.plan) (sym (claim_is ∙ bound)) (subst (λ p. IsPlanNear m limits.gap (BoundOf amount) p) (sym plan_is) (near_kept m limits.gap amount k.best (made_of m (ranges_in g) k.best is.known.best) near))))
      (λ stop. inr stop)
      other))
      why

if_bound : (claim : Claim) (P : ℕ → Type 0) → ((amount : ℕ) → claim ≡ BoundOf amount → P amount) → shown.IfBound claim P
if_bound (Optimal amount) P all = tt
if_bound Infeasible P all = tt
if_bound (BoundOf amount) P all = all amount refl

is_decided : (claim : Claim) → (IsBound claim → ⊥) → IsDecided claim
is_decided (Optimal amount) none = tt
is_decided Infeasible none = tt
is_decided (BoundOf amount) none = none tt

pub finished : (g : Model) (k : Known) (budget : ℕ) (limits : Limits) (stopping : Bool) (rs : List Range) (s : Searched) (t : Tree) (found : Found) → WholeIsMeasured → SaysAreOne → (total : ℕ → ℕ) → AreLargestTotals g.instance.now total → IsSearched g k budget limits stopping rs s → IsTreeOf s t → found.certificate.claim ≡ s.claim → found.certificate.cuts ≡ k.cuts → found.certificate.tree ≡ t → found.plan ≡ plan_kept k.best → found.root ≡ g.root → found.nodes ≡ s.nodes → IsFinished g k budget limits stopping found
finished g k budget limits stopping rs s t found measured one total totals is of claim_is cuts_are tree_is plan_is root_is nodes_are =
    let m = g.instance.now in
    let ranges = ranges_in g in
    let rows = k.rows.items in
    let made = made_of m ranges k.best is.known.best in
    let tree_same : shown.tree_in found ≡ tree_shape t = ap tree_shape tree_is in
    let good : HaveGoodRows m (shown.cuts_in found) rows = subst (λ c. HaveGoodRows m c rows) (sym (ap (λ v. map cut_shape v.items) cuts_are)) is.known.cuts.good in
    let bound_of : (amount : ℕ) → found.certificate.claim ≡ BoundOf amount → s.claim ≡ BoundOf amount = λ amount e. sym claim_is ∙ e in
    record {
      within = omega (arith, nodes_are, is.within);
      goes = subst (λ c. GoesTogether m c found.plan) (sym claim_is) (subst (λ p. GoesTogether m s.claim p) (sym plan_is) (goes m k.best rs s.tree s.claim made is.shown));
      cause = if_bound found.certificate.claim (λ amount. shown.WithRows m found (IsUndecidedWithin m ranges budget limits stopping found)) (λ amount e.
          (rows, good, left_open g k budget limits stopping rs s t is of one total totals amount (bound_of amount e) found claim_is nodes_are plan_is tree_same));
      evidence = if_bound found.certificate.claim (λ amount. shown.WithRows m found (HasEvidenceWithin m ranges found amount)) (λ amount e.
          let b = bound_of amount e in
          let shows : IsShown (choice_rules m) (cost_kept k.best) rs s.tree (BoundOf amount) = subst (IsShown (choice_rules m) (cost_kept k.best) rs s.tree) b is.shown in
          let evident : IsEvidenced (choice_rules m) (λ list path p. IsEvidentAt m g.root path p) rs s.tree (BoundOf amount) = subst (IsEvidenced (choice_rules m) (λ list path p. IsEvidentAt m g.root path p) rs s.tree) b is.evident in (
            rows,
            good,
            record {
              some = subst (λ x. shown.SomeLeaf (SaysAmountWithin m ranges rows amount) [] x) (sym tree_same) (some_amount m ranges g.version g.least rows rs s.tree amount t of.stripped is.holds shows.2);
              each = subst (λ x. split.EachLeaf (λ path leaf. SaysAmountWithin m ranges rows amount path leaf → IsEvidence m found.root path amount) [] x) (sym tree_same)
                  (subst (λ r. split.EachLeaf (λ path leaf. SaysAmountWithin m ranges rows amount path leaf → IsEvidence m r path amount) [] (tree_shape t)) (sym root_is)
                  (all_evidence m ranges g.version g.least rows rs s.tree one total totals g.root amount t is.node is.short is.split of.stripped is.holds evident));
            },
          ));
      complete = λ all none still other others enough. subst IsDecided (sym claim_is) (is_decided s.claim (is.decided none still
          (omega (arith, enough.volume, ap volume (is.listed.whole all other others), (measured (item_count m) m.periods other).0))
          (omega (arith, enough.height, ap height (is.listed.whole all other others), (measured (item_count m) m.periods other).1))));
      least = subst (IsClaimedAtLeast g.least) (sym claim_is) (claimed_least m ranges g.version g.least rows rs s.tree k.best s.claim made is.known.begun.floor is.holds is.shown);
    }

-- what is found is proved
pub found_proved : (g : Model) (k : Known) (budget : ℕ) (limits : Limits) (stopping : Bool) (rs : List Range) (s : Searched) (t : Tree) (found : Found) → Grounds g.instance.now → IsSearched g k budget limits stopping rs s → IsTreeOf s t → s.nodes ≤ MAX_NODES → shape_of found.certificate ≡ in_version found.certificate.version (made_shape g k s t) → (IsWritable (made_shape g k s t) → IsWritable (shape_of found.certificate)) → found.plan ≡ plan_kept k.best → found.nodes ≡ s.nodes → IsProvedWithin g.instance.now (ranges_in g) found
found_proved g k budget limits stopping rs s t found by is of few shape written plan_is nodes_are =
    let m = g.instance.now in
    let ranges = ranges_in g in
    let first = proved_shape m by ranges (made_shape g k s t) k.rows.items (plan_kept k.best) (shown_by g k budget limits stopping rs s t is of few) in
    let made = in_version found.certificate.version (made_shape g k s t) in
    let p = proved_in m ranges (made_shape g k s t) found.certificate.version (plan_kept k.best) (subst IsWritable shape (written first.writable)) first in
    record {
      writable = subst IsWritable (sym shape) p.writable;
      lines = subst (λ (c : Shape). line_count c < 2 ^ 63) (sym shape) p.lines;
      certified = subst (λ (c : Shape). OfProblem m (λ total weight. IsCertifiedWithin m total weight ranges c found.plan)) (sym shape) (subst (λ q. OfProblem m (λ total weight. IsCertifiedWithin m total weight ranges made q)) (sym plan_is) p.certified);
      claim = subst (λ (c : Shape). IsTrueWithin m ranges c.claim (plan_given found.plan)) (sym shape) (subst (λ q. IsTrueWithin m ranges made.claim (plan_given q)) (sym plan_is) p.claim);
      nodes = nodes_are ∙ sym is.nodes ∙ sym of.nodes ∙ sym (ap (λ (c : Shape). node_count c.tree) shape);
    }
