-- Why a search ends with a bound, and when it doesn't.
use Rattle.std.proofs.Common.{◌≡◌, ◌≤◌, ◌+◌, ◌-◌, ◌*◌, ◌/◌, ◌∙◌, ⊎_elim, inl, inr, ℕ, Bool, true, false, refl, subst, arith, List, [], Option, Some, None}
use Rattle.std.proofs.lemmas.Bool.{cases_lt}
use Rattle.cert_lines.specs.declared.limits.TheConstants.{MAX_BRANCHES}
use Rattle.cert_lines.specs.declared.parts.Claim.{Claim}
use Rattle.cert_lines.specs.declared.parts.Claim.TheVariants.{Optimal, Infeasible, Bound}
use Rattle.tree_search.specs.declared.node.Range.{Range}
use Rattle.tree_search.specs.declared.sought.Sought.{Sought as Tree}
use Rattle.tree_search.specs.Claims.{HasCause, IsBound, IsLeastClaim}
use Rattle.tree_search.specs.Costs.{IsBelow}
use Rattle.tree_search.specs.Counts.{branches, nodes}
use Rattle.tree_search.specs.Gaps.{IsNear}
use Rattle.tree_search.specs.Growing.{AreBranches, EachEnd, IsSound}
use Rattle.tree_search.specs.Guided.{IsEnded}
use Rattle.tree_search.specs.Ranges.{AreOrdered, height, volume}
use Rattle.tree_search.specs.Trees.{AtLeaf, Rules, least_said}
use Rattle.tree_search.proofs.Claims.{bound_open, cause, no_bound}
use Rattle.tree_search.proofs.Shown.{grown, nodes_of_branches}

pub caused : (rules : Rules) (H T : AtLeaf) (best least : Option ℕ) (budget room : ℕ) (gap : Option ℕ) (may : Bool) (rs : List Range) (tree : Tree) (claim : Claim) → AreOrdered rs → 1 ≤ budget → branches tree + room ≡ (budget - 1) / 2 → AreBranches rules rs [] tree → EachEnd (IsSound H T best) rs [] tree → (may ≡ false → 1 ≤ room → IsEnded gap best tree rs []) → least_said tree ≡ least → IsLeastClaim best least claim → HasCause rules best budget gap may rs tree claim
caused rules H T best least budget room gap may rs tree (Optimal cost) o some count b s ended e h = tt
caused rules H T best least budget room gap may rs tree Infeasible o some count b s ended e h = tt
caused rules H T best least budget room gap true rs tree (Bound bound) o some count b s ended e h = inr (inr refl)
caused rules H T best least budget room gap false rs tree (Bound bound) o some count b s ended e h =
    ⊎_elim
    (λ much. inl (inl much))
    (λ little.
    let left : 1 ≤ room = omega (arith, little, some, count, nodes_of_branches tree) in
    ⊎_elim
    (λ deep. inl (cause rules best least budget rs tree (Bound bound) o (grown rules H T best budget room rs tree some count b s (λ _. deep)) e h tt))
    (λ near. inr (inl (subst (λ x. IsNear gap x best) (e ∙ h.0) near)))
    (ended refl left))
    (cases_lt budget (nodes tree + 2))

-- without a gap nothing that is below the best cost is near it
never_near : (gap least best : Option ℕ) → gap ≡ None → IsBelow least best → IsNear gap least best → ⊥
never_near None None best none below near = below
never_near None (Some bound) best none below near = near
never_near (Some gap) least best none below near = cc none

pub none_left : (rules : Rules) (H T : AtLeaf) (best least : Option ℕ) (budget room : ℕ) (gap : Option ℕ) (may : Bool) (rs : List Range) (tree : Tree) (claim : Claim) → AreOrdered rs → 1 ≤ budget → branches tree + room ≡ (budget - 1) / 2 → AreBranches rules rs [] tree → EachEnd (IsSound H T best) rs [] tree → (may ≡ false → 1 ≤ room → IsEnded gap best tree rs []) → least_said tree ≡ least → IsLeastClaim best least claim → gap ≡ None → may ≡ false → 2 * volume rs ≤ budget + 1 → height rs ≤ MAX_BRANCHES → IsBound claim → ⊥
none_left rules H T best least budget room gap may rs tree claim o some count b s ended e h none still enough low bound =
    let below = bound_open rules best least tree claim e h bound in
    no_bound rules best least budget rs tree claim o
    (grown rules H T best budget room rs tree some count b s
    (λ left. ⊎_elim (λ deep. deep) (λ near. absurd (never_near gap (least_said tree) best none below near)) (ended still left)))
    e h enough low bound
