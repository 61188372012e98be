-- The best plan alone, without its cost.
use Rattle.std.proofs.Common.{ℕ, arith, Option, Some, None}
use Rattle.std.specs.Prelude.{IfSome}
use Rattle.lot_sizing.specs.Problem.{Problem}
use Rattle.lot_sizing.specs.Plan as terms
use Rattle.plan_rules.specs.declared.plan.Plan.{Plan}
use Rattle.plan_rules.specs.declared.plan.Planned.{Planned}
use Rattle.plan_rules.specs.Held.{plan_of}
use Rattle.cert_trees.specs.Ranges.{Ranges}
use Rattle.own_plan.specs.Made.{IsMade}
use Rattle.node_domains.specs.Within.{AllLieWithin}
use Rattle.incumbent.specs.Good.{IsGoodPlan, IsGoodWithin, cost_of}
use Rattle.incumbent.specs.Kept.{CostsNoMore, IsMadeWithin, KeepsGiven, KeepsOwnMade, plan_kept}
use Rattle.branching.specs.Search.{CostsAtMost, KeepsFirst, KeepsOwn}

pub costs_kept : (m : Problem) (best : Option Planned) (amount : ℕ) → IfSome best (IsMade m) → CostsNoMore best amount → CostsAtMost m (plan_kept best) amount
costs_kept m None amount made less = less
costs_kept m (Some p) amount made less = omega (arith, less, made.cost)

pub good_kept : (m : Problem) (ranges : Ranges) (best : Option Planned) → IfSome best (IsMadeWithin m ranges) → IfSome (plan_kept best) (IsGoodWithin m ranges)
good_kept m ranges None made = tt
good_kept m ranges (Some p) made = record { good = record { fits = made.made.fits; feasible = made.made.feasible }; within = made.within }

pub good_first : (m : Problem) (ranges : Ranges) (plan : Option Plan) → IfSome plan (IsGoodWithin m ranges) → IfSome plan (IsGoodPlan m)
good_first m ranges None good = tt
good_first m ranges (Some p) good = good.good

pub first_within : (m : Problem) (ranges : Ranges) (plan : Option Plan) → AllLieWithin m ranges → IfSome plan (IsGoodPlan m) → IfSome plan (IsGoodWithin m ranges)
first_within m ranges None all good = tt
first_within m ranges (Some p) all good = record { good = good; within = all (plan_of p) good.feasible }

pub first_kept : (m : Problem) (first : Option Plan) (best : Option Planned) → IfSome best (IsMade m) → KeepsGiven m first best → KeepsFirst m first (plan_kept best)
first_kept m None best made kept = tt
first_kept m (Some p) best made kept = costs_kept m best (cost_of m p) made kept

pub own_kept : (m : Problem) (best : Option Planned) → IfSome best (IsMade m) → KeepsOwnMade m best → KeepsOwn m (plan_kept best)
own_kept m best made kept = λ q own feasible. costs_kept m best (terms.cost m q) made (kept q own feasible)
