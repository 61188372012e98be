-- What a search has shown when it ends.
use Rattle.std.specs.Prelude.{◌≡◌, ℕ, ◌+◌, ◌*◌, ◌≤◌, Bool, false, List, [], None}
use Rattle.cert_lines.specs.declared.limits.TheConstants.{MAX_BRANCHES}
use Rattle.search_result.specs.declared.found.Found.{Found}
use Rattle.tree_search.specs.declared.node.Range.{Range}
use Rattle.tree_search.specs.declared.sought.Searched.{Searched}
use Rattle.tree_search.specs.declared.limits.Limits.{Limits}
use Rattle.tree_search.specs.Claims.{HasCause, IsBound, IsShown, IsEvidenced}
use Rattle.tree_search.specs.Counts.{longest, nodes}
use Rattle.tree_search.specs.Ranges.{height, volume}
use Rattle.tree_search.specs.Trees.{EachLeaf, IsSplitTree}
use Rattle.branching.specs.declared.guiding.Model.{Model}
use Rattle.branching.specs.declared.knowing.Known.{Known}
use Rattle.branching.specs.Knowing.{IsKeptIn, IsKnown, IsNodeIn, IsEvidentIn, ranges_in}
use Rattle.incumbent.specs.Kept.{cost_kept}
use Rattle.node_domains.specs.Nodes.{choice_place, choice_rules}
use Rattle.branching.specs.Search.{DecidesSmall, GoesTogether, IfBound, IsClaimedAtLeast, WithRows}
use Rattle.branching.specs.SearchWithin.{HasEvidenceWithin, IsUndecidedWithin}
use Rattle.node_domains.specs.Listed.{AreListed}
use Rattle.node_domains.specs.Within.{IsWhole}

-- a tree over the ranges that were given, whose leaves say what is claimed
pub record IsSearched (g : Model) (k : Known) (budget : ℕ) (limits : Limits) (stopping : Bool) (rs : List Range) (s : Searched) : Type 0 where
  pub known : IsKnown g k
  pub listed : AreListed g.instance.now (ranges_in g) rs
  pub node : IsNodeIn g rs []
  pub nodes : nodes s.tree ≡ s.nodes
  pub within : s.nodes ≤ budget
  pub short : longest s.tree ≤ MAX_BRANCHES
  pub split : IsSplitTree (choice_place g.instance.now) rs s.tree
  pub holds : EachLeaf (choice_place g.instance.now) (IsKeptIn g k) rs [] s.tree
  pub shown : IsShown (choice_rules g.instance.now) (cost_kept k.best) rs s.tree s.claim
  pub evident : IsEvidenced (choice_rules g.instance.now) (λ rs path p. IsEvidentIn g path p) rs s.tree s.claim
  pub cause : HasCause (choice_rules g.instance.now) (cost_kept k.best) budget limits.gap stopping rs s.tree s.claim
  pub decided : limits.gap ≡ None → stopping ≡ false → 2 * volume rs ≤ budget + 1 → height rs ≤ MAX_BRANCHES → IsBound s.claim → ⊥

-- what is found with its certificate, after such a search
pub record IsFinished (g : Model) (k : Known) (budget : ℕ) (limits : Limits) (stopping : Bool) (found : Found) : Type 0 where
  pub within : found.nodes ≤ budget
  pub goes : GoesTogether g.instance.now found.certificate.claim found.plan
  pub cause : IfBound found.certificate.claim (λ amount. WithRows g.instance.now found (IsUndecidedWithin g.instance.now (ranges_in g) budget limits stopping found))
  pub evidence : IfBound found.certificate.claim (λ amount. WithRows g.instance.now found (HasEvidenceWithin g.instance.now (ranges_in g) found amount))
  pub complete : IsWhole g.instance.now (ranges_in g) → DecidesSmall g.instance.now budget limits stopping found.certificate.claim
  pub least : IsClaimedAtLeast g.least found.certificate.claim
