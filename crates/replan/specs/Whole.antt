-- What is found of the later periods, told of the whole problem.
use Rattle.std.specs.Prelude.{◌≡◌, ℕ, ◌+◌, Option, Some, None, ⊤}
use Rattle.lot_sizing.specs.Problem.{Problem}
use Rattle.lot_sizing.specs.Plan.{IsFeasible, Plan, cost}
use Rattle.plan_rules.specs.declared.plan.Plan.{Plan as Grids}
use Rattle.plan_rules.specs.Held.{plan_of}
use Rattle.cert_lines.specs.declared.parts.Claim.{Claim}
use Rattle.cert_lines.specs.declared.parts.Claim.TheVariants.{Optimal, Infeasible, Bound as BoundOf}
use Rattle.search_result.specs.declared.found.Found.{Found}
use Rattle.frozen_start.specs.Starts.{Agrees, IsBestAfter, IsFloorAfter, NoneAgreesWith}
use Rattle.frozen_start.specs.Rests.{join}
use Rattle.replan.specs.declared.found.Rest.{Rest}
use Rattle.replan.specs.declared.planned.Replanned.{Replanned}
use Rattle.replan.specs.declared.planned.Replanned.TheVariants.{NoStart, Planned}

-- where the later periods were searched, this is so of the rest and of what was found of it
abbrev pub IfPlanned : (Rest → Found → Type 0) → Replanned → Type 0
IfPlanned P NoStart = ⊤
IfPlanned P (Planned rest found) = P rest found

-- behind the start, a plan of the rest is a feasible plan of the whole, which agrees with the start and costs what both cost
pub record IsJoined (m : Problem) (p : Plan) (first : ℕ) (rest : Rest) (q : Plan) : Type 0 where
  pub feasible : IsFeasible m (join m p first q)
  pub agrees : Agrees m p (join m p first q) first
  pub costs : cost m (join m p first q) ≡ rest.spent + cost rest.instance q

-- behind the start, a plan of the rest is a best one of all that agree with the start, and costs so much
pub record IsBestJoined (m : Problem) (p : Plan) (first : ℕ) (q : Plan) (total : ℕ) : Type 0 where
  pub best : IsBestAfter m p first (join m p first q)
  pub costs : cost m (join m p first q) ≡ total

-- what a claim of the rest, with the plan that was found of it, says of all plans of the whole that agree with the start
abbrev pub DecidesWhole : Problem → Plan → ℕ → (spent : ℕ) → Claim → Option Grids → Type 0
DecidesWhole m p first spent (Optimal amount) (Some q) = IsBestJoined m p first (plan_of q) (spent + amount)
DecidesWhole m p first spent (Optimal amount) None = ⊥
DecidesWhole m p first spent Infeasible given = NoneAgreesWith m p first
DecidesWhole m p first spent (BoundOf bound) given = IsFloorAfter m p first (spent + bound)

-- the amount that is claimed of the whole: what is spent and what is claimed of the rest
abbrev pub total_claimed : ℕ → Claim → Option ℕ
total_claimed spent (Optimal amount) = Some (spent + amount)
total_claimed spent Infeasible = None
total_claimed spent (BoundOf bound) = Some (spent + bound)
