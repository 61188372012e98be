-- What is found of the rest says what holds of the whole.
use Rattle.std.proofs.Common.{◌≡◌, ℕ, ◌+◌, subst, sym, arith}
use Rattle.std.specs.Prelude.{Option, Some, None, IfSome, IfNone}
use Rattle.lot_sizing.specs.Problem.{Problem}
use Rattle.lot_sizing.specs.Plan.{IsFeasible, Plan, cost}
use Rattle.lot_sizing.specs.Best.{IsBest}
use Rattle.plan_rules.specs.declared.plan.Plan.{Plan as Grids}
use Rattle.plan_rules.specs.Held.{plan_of}
use Rattle.cert_lines.specs.declared.parts.Claim.{Claim}
use Rattle.cert_lines.specs.declared.parts.Claim.TheVariants.{Optimal, Infeasible, Bound as BoundOf}
use Rattle.cert_meaning.specs.Accepts.{IsTrueOf}
use Rattle.cert_checker.specs.Checks.{plan_given}
use Rattle.frozen_start.specs.Starts.{IsFloorAfter, NoneAgreesWith, StartStands}
use Rattle.frozen_start.specs.Rests.{IsRestOf}
use Rattle.frozen_start.specs.Held.{start_of}
use Rattle.frozen_start.specs.Laws.{BestGoOn, FloorsGoOn, JoinsAreFeasible, NoneAgrees}
use Rattle.branching.specs.Search.{IsGoodPlan}
use Rattle.replan.specs.declared.found.Rest.{Rest}
use Rattle.replan.specs.Answers.{IsRest, LeavesRest}
use Rattle.replan.specs.Whole.{DecidesWhole, IsJoined}

-- ---- of a start only quantities and setups count
pub stands : (m : Problem) (p : Grids) (first : ℕ) → StartStands m (start_of p.make p.setup) first → StartStands m (plan_of p) first
stands m p first s = record { setup = s.setup; made = s.made; capacity = s.capacity; lots = s.lots; in_time = s.in_time }

pub stands_back : (m : Problem) (p : Grids) (first : ℕ) → StartStands m (plan_of p) first → StartStands m (start_of p.make p.setup) first
stands_back m p first s = record { setup = s.setup; made = s.made; capacity = s.capacity; lots = s.lots; in_time = s.in_time }

pub leaves : (m : Problem) (p : Grids) (first : ℕ) → LeavesRest m (start_of p.make p.setup) first → LeavesRest m (plan_of p) first
leaves m p first l = record { may_go_on = l.may_go_on; stands = stands m p first l.stands }

pub leaves_back : (m : Problem) (p : Grids) (first : ℕ) → LeavesRest m (plan_of p) first → LeavesRest m (start_of p.make p.setup) first
leaves_back m p first l = record { may_go_on = l.may_go_on; stands = stands_back m p first l.stands }

is_rest_of : (m : Problem) (p : Grids) (first : ℕ) (rest : Problem) → IsRestOf m (start_of p.make p.setup) first rest → IsRestOf m (plan_of p) first rest
is_rest_of m p first rest is = record {
  some_later = is.some_later;
  periods = is.periods;
  resource_count = is.resource_count;
  item_count = is.item_count;
  resources = is.resources;
  items = is.items;
}

is_rest : (m : Problem) (p : Grids) (first : ℕ) (rest : Rest) → IsRest m (start_of p.make p.setup) first rest → IsRest m (plan_of p) first rest
is_rest m p first rest is = record {
  may = leaves m p first is.may;
  rest = is_rest_of m p first rest.instance is.rest;
  one = is.one;
  means = is.means;
  spent = is.spent;
  small = is.small;
}

none_agrees : (m : Problem) (p : Grids) (first : ℕ) → NoneAgreesWith m (start_of p.make p.setup) first → NoneAgreesWith m (plan_of p) first
none_agrees m p first none q good agrees = none q good (record { make = agrees.make; setup = agrees.setup })

-- what is given for the grids, told of the plan
pub rest_given :
    (m : Problem) (p : Grids) (first : ℕ) (given : Option Rest) (rest : Rest) → given ≡ Some rest → IfSome given (IsRest m (start_of p.make p.setup) first)
    → IsRest m (plan_of p) first rest
rest_given m p first given rest same h =
    let P : Option Rest → Type 0 = λ o. IfSome o (IsRest m (start_of p.make p.setup) first) in
    is_rest m p first rest (subst P same h)

pub none_given :
    (m : Problem) (p : Grids) (first : ℕ) (given : Option Rest) → given ≡ None → IfNone given (NoneAgreesWith m (start_of p.make p.setup) first)
    → NoneAgreesWith m (plan_of p) first
none_given m p first given same h =
    let P : Option Rest → Type 0 = λ o. IfNone o (NoneAgreesWith m (start_of p.make p.setup) first) in
    none_agrees m p first (subst P same h)

-- ---- the whole
joined : JoinsAreFeasible → (m : Problem) (p : Plan) (first : ℕ) (rest : Rest) (q : Plan) → IsRest m p first rest → IsFeasible rest.instance q → IsJoined m p first rest q
joined law m p first rest q is good =
    let made = law m p first rest.instance q is.may.may_go_on.no_leads is.rest is.may.stands good in
    record { feasible = made.0; agrees = made.1; costs = omega (arith, made.2, is.spent) }

pub joined_if :
    JoinsAreFeasible → (m : Problem) (p : Plan) (first : ℕ) (rest : Rest) → IsRest m p first rest → (given : Option Grids) → IfSome given (IsGoodPlan rest.instance)
    → IfSome given (λ q. IsJoined m p first rest (plan_of q))
joined_if law m p first rest is (Some q) good = joined law m p first rest (plan_of q) is good.feasible
joined_if law m p first rest is None good = tt

-- a claim that is true of the rest decides the whole
pub decides :
    NoneAgrees → FloorsGoOn → BestGoOn → (m : Problem) (p : Plan) (first : ℕ) (rest : Rest) → IsRest m p first rest
    → (claim : Claim) (given : Option Grids) → IsTrueOf rest.instance claim (plan_given given) → DecidesWhole m p first rest.spent claim given
decides none floors best m p first rest is (Optimal amount) (Some q) h =
    let same : plan_of q ≡ h.0 = cc h.1 in
    let least = subst (IsBest rest.instance) (sym same) h.2 in
    let costs = subst (λ x. cost rest.instance x ≡ amount) (sym same) h.3 in
    let made = best m p first rest.instance (plan_of q) is.may.may_go_on.no_leads is.rest is.may.stands least in
    record { best = made.0; costs = omega (arith, made.1, is.spent, costs) }
decides none floors best m p first rest is (Optimal amount) None h = absurd (cc h.1)
decides none floors best m p first rest is Infeasible given h = none m p first rest.instance is.may.may_go_on.no_leads is.rest h
decides none floors best m p first rest is (BoundOf bound) given h =
    let P : ℕ → Type 0 = λ spent. IsFloorAfter m p first (spent + bound) in
    subst P (sym is.spent) (floors m p first rest.instance bound is.may.may_go_on.no_leads is.rest h)
