-- The best plan while more of them are looked at.
use Rattle.std.specs.Prelude.{Option, Some, None, IfSome, IfNone}
use Rattle.std.proofs.Common.{subst}
use Rattle.lot_sizing.specs.Problem.{Problem}
use Rattle.lot_sizing.specs.Plan as terms
use Rattle.plan_rules.specs.declared.plan.Plan.{Plan}
use Rattle.plan_rules.specs.declared.plan.Planned.{Planned}
use Rattle.plan_rules.specs.Held.{plan_of}
use Rattle.own_plan.specs.Made.{CostsAsOwn, IsMade}
use Rattle.own_plan.specs.OwnPeriod.{HasOwnPeriod}
use Rattle.tree_search.proofs.Endless.{at_most-trans}
use Rattle.node_domains.specs.declared.within.Ranges.{Ranges as Given}
use Rattle.node_domains.specs.Within.{AllLieWithin, given_ranges}
use Rattle.incumbent.specs.Good.{cost_of}
use Rattle.incumbent.specs.Kept.{CostsNoMore, IsFirstBest, IsNoWorse, IsNoWorseBest, IsNoWorseIfWithin, KeepsGiven, KeepsOwnMade, cost_kept}

pub given_on : (m : Problem) (first : Option Plan) (best new : Option Planned) → IsNoWorse new best → KeepsGiven m first best → KeepsGiven m first new
given_on m None best new less kept = tt
given_on m (Some p) best new less kept = at_most-trans (cost_kept new) (cost_kept best) (Some (cost_of m p)) less kept

-- where all plans lie within the ranges, a plan that is no worse than the own-period plan was kept
pub own_kept : (m : Problem) (r : Given) (own best : Option Planned) → IfSome own (IsMade m) → IfSome own (CostsAsOwn m) → IfNone own (HasOwnPeriod m → ⊥) → IfSome own (IsNoWorseIfWithin m r best) → AllLieWithin m (given_ranges r) → KeepsOwnMade m best
own_kept m r None best made one none kept all = λ q is feasible. absurd (none (q, is, feasible))
own_kept m r (Some p) best made one none kept all = λ q is feasible. subst (λ n. CostsNoMore best n) (one q is) (kept (all (plan_of p.plan) made.feasible))

-- a best plan to begin with is one after plans that are no worse
pub first_on : (m : Problem) (r : Given) (first : Option Plan) (best new : Option Planned) → IsNoWorseBest m r new best → IsFirstBest m r first best → IsFirstBest m r first new
first_on m r first best new less is = record {
  made = less.made;
  kept = given_on m first best new less.kept is.kept;
  own = λ all q own feasible. at_most-trans (cost_kept new) (cost_kept best) (Some (terms.cost m q)) less.kept (is.own all q own feasible);
}
