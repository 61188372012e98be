-- What the search of a problem is given, what it finds, and what is promised of that.
use Rattle.std.specs.Prelude.{◌≡◌, ◌↔◌, ◌≤◌, ℕ, false, Option, Some, None, IfSome, ⊤}
use Rattle.lot_sizing.specs.Problem.{IsUncoupled, Problem}
use Rattle.plan_rules.specs.declared.plan.Plan.{Plan}
use Rattle.cert_lines.specs.declared.limits.TheConstants.{MAX_CERT_VERSION}
use Rattle.certificate.specs.Shapes.{shape_of}
use Rattle.search_result.specs.Found.{IsProved}
use Rattle.search_result.specs.declared.found.Found.{Found}
use Rattle.search_result.specs.declared.found.RootSays.TheVariants as at_root
use Rattle.tree_search.specs.declared.limits.Limits.{Limits}
use Rattle.branching.specs.Search.{CostsAtMost, DecidesSmall, GoesTogether, HasEvidence, IfBound, IsGoodPlan, IsNoLessThanApart, IsSaidAtRoot, IsUndecided, IsVersionOf, KeepsOwn, UsesRoot, WithRows, cost_of}
use Rattle.lotplan.specs.declared.sought.Sought.{Sought}

-- a search with a budget alone, whose certificate may have any version
abbrev pub only : ℕ → Sought
only budget = record { budget = budget; begins = None; gap = None; may_stop = false; newest = MAX_CERT_VERSION }

-- where the search starts from a plan of this cost, there is a plan that costs no more
abbrev pub IsKept : Problem → Option ℕ → Option Plan → Type 0
IsKept problem begins given = IfSome begins (CostsAtMost problem given)

-- the limits that end the search beside its budget
abbrev pub limits_of : Sought → Limits
limits_of sought = record { gap = sought.gap }

-- what holds of what is found
pub record IsFound (problem : Problem) (sought : Sought) (found : Found) : Type 0 where
  -- the certificate has a text, of the least version from the usual one on that has its lines, and of none above the newest that is asked for; it is accepted, and its claim is true; its tree has the nodes that are told, no more than the budget
  pub proved : IsProved problem found
  pub version : IsVersionOf problem sought.newest (shape_of found.certificate)
  pub within : found.nodes ≤ sought.budget
  -- the plan is feasible, goes with the claim, and costs no more than the plan to start from and than a feasible own-period plan
  pub plan : IfSome found.plan (IsGoodPlan problem)
  pub together : GoesTogether problem found.certificate.claim found.plan
  pub kept : IsKept problem sought.begins found.plan
  pub own : KeepsOwn problem found.plan
  -- a bound has its cause, among them the gap and a word to end only where they are given, and evidence at the leaves that say it; a budget for all choices leaves none where they aren't
  pub cause : IfBound found.certificate.claim (λ amount. WithRows problem found (IsUndecided problem sought.budget (limits_of sought) sought.may_stop found))
  pub evidence : IfBound found.certificate.claim (λ amount. WithRows problem found (HasEvidence problem found amount))
  pub small : DecidesSmall problem sought.budget (limits_of sought) sought.may_stop found.certificate.claim
  -- what is said at the root is so, and is used; what is claimed is no less than what the items cost apart
  pub root : IsSaidAtRoot problem found.root
  pub uncoupled : (found.root ≡ at_root.Uncoupled) ↔ IsUncoupled problem
  pub used : UsesRoot found found.root
  pub apart : IsNoLessThanApart problem found.certificate.claim

-- the plan costs so much, or there is none
abbrev pub PlanCosts : Problem → Option Plan → Option ℕ → Type 0
PlanCosts problem (Some plan) (Some amount) = cost_of problem plan ≡ amount
PlanCosts problem (Some plan) None = ⊥
PlanCosts problem None (Some amount) = ⊥
PlanCosts problem None None = ⊤
