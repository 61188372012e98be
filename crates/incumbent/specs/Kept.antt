-- The best plan that is kept while more of them are looked at.
use Rattle.std.specs.Prelude.{ℕ, Option, Some, None, IfSome}
use Rattle.lot_sizing.specs.Problem.{Problem}
use Rattle.lot_sizing.specs.Plan as terms
use Rattle.plan_rules.specs.declared.plan.Plan.{Plan}
use Rattle.plan_rules.specs.declared.plan.Planned.{Planned}
use Rattle.plan_rules.specs.Held.{plan_of}
use Rattle.cert_trees.specs.Ranges.{IsWithin, Ranges}
use Rattle.own_plan.specs.Made.{IsMade}
use Rattle.own_plan.specs.OwnPeriod.{IsOwnPeriod}
use Rattle.tree_search.specs.Costs.{IsAtMost}
use Rattle.node_domains.specs.declared.within.Ranges.{Ranges as Given}
use Rattle.node_domains.specs.Within.{AllLieWithin, HaveShape, given_ranges}
use Rattle.incumbent.specs.Good.{IsGoodWithin, cost_of}

-- ---- plans that were made
-- a plan that was made, within the ranges
pub record IsMadeWithin (m : Problem) (ranges : Ranges) (planned : Planned) : Type 0 where
  pub made : IsMade m planned
  pub within : IsWithin m ranges (plan_of planned.plan)

-- ---- the best plan so far
-- its cost, and none where there is no plan
abbrev pub cost_kept : Option Planned → Option ℕ
cost_kept None = None
cost_kept (Some made) = Some made.cost

-- the plan alone
abbrev pub plan_kept : Option Planned → Option Plan
plan_kept None = None
plan_kept (Some made) = Some made.plan

-- it is at least as good
abbrev pub IsNoWorse : Option Planned → Option Planned → Type 0
IsNoWorse new old = IsAtMost (cost_kept new) (cost_kept old)

-- there is a plan, which costs no more than this
abbrev pub CostsNoMore : Option Planned → ℕ → Type 0
CostsNoMore best amount = IsAtMost (cost_kept best) (Some amount)

-- it costs no more than the plan that was given, and than the own-period plan, where these are
abbrev pub KeepsGiven : Problem → Option Plan → Option Planned → Type 0
KeepsGiven m first best = IfSome first (λ p. CostsNoMore best (cost_of m p))

abbrev pub KeepsOwnMade : Problem → Option Planned → Type 0
KeepsOwnMade m best = (q : terms.Plan) → IsOwnPeriod m q → terms.IsFeasible m q → CostsNoMore best (terms.cost m q)

-- the ranges have the problem's shape, and the best plan so far was made within them, if there is one
pub record IsBestSoFar (m : Problem) (r : Given) (best : Option Planned) : Type 0 where
  pub shape : HaveShape m r
  pub made : IfSome best (IsMadeWithin m (given_ranges r))

-- so was the new one, which is at least as good as the old one
pub record IsNoWorseBest (m : Problem) (r : Given) (new old : Option Planned) : Type 0 where
  pub made : IfSome new (IsMadeWithin m (given_ranges r))
  pub kept : IsNoWorse new old

-- it is at least as good as a plan that was found, where that lies within the ranges
abbrev pub IsNoWorseIfWithin : Problem → Given → Option Planned → Planned → Type 0
IsNoWorseIfWithin m r best made = IsWithin m (given_ranges r) (plan_of made.plan) → IsNoWorse best (Some made)

-- the ranges have the problem's shape, and the plan that was given is a feasible one within them, if there is one
pub record IsFirstWithin (m : Problem) (r : Given) (first : Option Plan) : Type 0 where
  pub shape : HaveShape m r
  pub good : IfSome first (IsGoodWithin m (given_ranges r))

-- the best plan to begin with is within the ranges, and costs no more than the plan that was given, and than the own-period plan where all plans are within the ranges
pub record IsFirstBest (m : Problem) (r : Given) (first : Option Plan) (best : Option Planned) : Type 0 where
  pub made : IfSome best (IsMadeWithin m (given_ranges r))
  pub kept : KeepsGiven m first best
  pub own : AllLieWithin m (given_ranges r) → KeepsOwnMade m best
