-- What a tree shows of all plans in its ranges.
use Rattle.std.specs.Prelude.{◌≡◌, ◌⊎◌, ℕ, ◌+◌, ◌<◌, ◌≤◌, Bool, true, List, [], length, Option, Some, None}
use Rattle.cert_lines.specs.declared.limits.TheConstants.{MAX_BRANCHES}
use Rattle.tree_search.specs.declared.sought.Sought.{Sought as Tree}
use Rattle.tree_search.specs.declared.proposal.Proposal.{Proposal}
use Rattle.lin_rows.specs.declared.bound.Bound.{Bound as PathBound}
use Rattle.cert_lines.specs.declared.parts.Claim.{Claim}
use Rattle.cert_lines.specs.declared.parts.Claim.TheVariants.{Optimal, Infeasible, Bound}
use Rattle.tree_search.specs.Counts.{longest, nodes}
use Rattle.tree_search.specs.declared.node.Range.{Range}
use Rattle.tree_search.specs.Ranges.{height}
use Rattle.tree_search.specs.Costs.{IsAtMost, IsBelow}
use Rattle.tree_search.specs.Gaps.{IsWithinGap}
use Rattle.tree_search.specs.Trees.{AtLeaf, EachLeaf, Rules, SomeLeaf}

-- each leaf says no plan, or at least this
abbrev pub SaysAtLeast : Rules → Option ℕ → List Range → Tree → Type 0
SaysAtLeast rules cost rs tree = EachLeaf rules.place (λ rs path leaf. IsAtMost cost leaf.says) rs [] tree

-- some leaf says just this
abbrev pub SomeSays : Rules → ℕ → List Range → Tree → Type 0
SomeSays rules bound rs tree = SomeLeaf rules.place (λ rs path leaf. leaf.says ≡ Some bound) rs [] tree

-- the claim is what the leaves and the cost of the best plan show
abbrev pub IsShown : Rules → Option ℕ → List Range → Tree → Claim → Type 0
IsShown rules best rs tree (Optimal cost) = (best ≡ Some cost) × SaysAtLeast rules (Some cost) rs tree
IsShown rules best rs tree Infeasible = (best ≡ None) × SaysAtLeast rules None rs tree
IsShown rules best rs tree (Bound bound) = IsBelow (Some bound) best × SaysAtLeast rules (Some bound) rs tree × SomeSays rules bound rs tree

abbrev pub IsBound : Claim → Type 0
IsBound (Optimal cost) = ⊥
IsBound Infeasible = ⊥
IsBound (Bound bound) = Unit {0}

-- where a bound is claimed, there is evidence at each leaf that says just this number
abbrev pub IsEvidenced : Rules → AtLeaf → List Range → Tree → Claim → Type 0
IsEvidenced rules IsEvident rs tree (Optimal cost) = Unit {0}
IsEvidenced rules IsEvident rs tree Infeasible = Unit {0}
IsEvidenced rules IsEvident rs tree (Bound bound) = EachLeaf rules.place (λ rs path leaf. leaf.says ≡ Some bound → IsEvident rs path leaf) rs [] tree

-- a leaf that is open against a best cost has MAX_BRANCHES branches above it
abbrev pub IsOpenDeep : Rules → Option ℕ → List Range → List PathBound → Proposal → Type 0
IsOpenDeep rules best rs path leaf = IsBelow leaf.says best → MAX_BRANCHES ≤ length path

-- two more nodes would pass the budget, or all leaves that are open have MAX_BRANCHES branches above them, which is the longest path, and there is more height than that
abbrev pub IsUndecided : Rules → Option ℕ → ℕ → List Range → Tree → Type 0
IsUndecided rules best budget rs tree =
    (budget < nodes tree + 2)
    ⊎ ((longest tree ≡ MAX_BRANCHES) × (MAX_BRANCHES < height rs) × EachLeaf rules.place (IsOpenDeep rules best) rs [] tree)

-- why a bound is claimed though a leaf is open: want of nodes or depth; the best cost lies within the gap above it; or the guide may have ended the search
abbrev pub HasCause : Rules → Option ℕ → ℕ → Option ℕ → Bool → List Range → Tree → Claim → Type 0
HasCause rules best budget gap may_stop rs tree (Optimal cost) = Unit {0}
HasCause rules best budget gap may_stop rs tree Infeasible = Unit {0}
HasCause rules best budget gap may_stop rs tree (Bound bound) = IsUndecided rules best budget rs tree ⊎ IsWithinGap gap bound best ⊎ (may_stop ≡ true)

-- the claim of a cost and of the least number that a leaf says
abbrev pub IsLeastClaim : Option ℕ → Option ℕ → Claim → Type 0
IsLeastClaim best least (Optimal cost) = (best ≡ Some cost) × (IsBelow least best → ⊥)
IsLeastClaim best least Infeasible = (best ≡ None) × (IsBelow least best → ⊥)
IsLeastClaim best least (Bound bound) = (least ≡ Some bound) × IsBelow least best
