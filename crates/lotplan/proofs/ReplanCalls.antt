-- The two files call for a status of `replan`, and for one, but for what may be left open.
use Rattle.std.proofs.Common.{◌≡◌, ◌⊎◌, ◌<◌, ◌≤◌, ◌*◌, ◌∙◌, ⊎_elim, inl, inr, ℕ, sym, ap, subst, arith, List, Option, Some, None, refl, length}
use Rattle.std.specs.Prelude.{Ok, Err, Result, IfSome, IsNone}
use Rattle.std.proofs.lemmas.Bool.{cases_eq, cases_lt}
use Rattle.lot_sizing.specs.Problem.{Problem, capacity, item_at, item_count, resource_count}
use Rattle.lot_sizing.specs.Plan.{Each, IsLot, IsMadeWithSetup, IsSetup, IsWithinCapacity, Plan, arriving, time_used}
use Rattle.lot_sizing.specs.Least.{least_backlog, least_stock, outflow, supply}
use Rattle.lot_sizing.specs.Totals.{IsRanking}
use Rattle.lot_sizing.proofs.Same.{SamePlan}
use Rattle.lot_sizing.proofs.Sums.{sum_to-same}
use Rattle.lot_draft.specs.declared.fault.ModelFault.{ModelFault}
use Rattle.lot_model.specs.Drafted.{written_out}
use Rattle.lot_model.specs.Meaning.{Means}
use Rattle.instance_reader.specs.Model.{BytesMean}
use Rattle.instance_reader.specs.declared.versions.TheConstants.{NEWEST_VERSION}
use Rattle.plan_file.specs.Records.{IsPlanOf, records_of}
use Rattle.plan_file.specs.declared.fault.PlanFault.{PlanFault}
use Rattle.plan_file.proofs.Meanings.{means_one}
use Rattle.existence.proofs.Deciding.{Decided, all_or_first, both_or_not, each_or_first, if_or_not, le_or_not, lt_or_not, none_or_not, within_or_not}
use Rattle.frozen_start.specs.Starts.{Agrees, HasNoLeads, StartStands}
use Rattle.frozen_start.specs.Rests.{IsRestItem, rest_of}
use Rattle.frozen_start.specs.Laws.{ThereIsOneRest}
use Rattle.frozen_start.proofs.Parts.{arriving_start, time_start, used_up_start}
use Rattle.replan.specs.Answers.{IsFirstLead, LeavesRest, MayGoOn, RestMeans}
use Rattle.replan.specs.declared.fault.RestFault.{RestFault}
use Rattle.replan.specs.declared.fault.RestFault.TheVariants.{First, Lead, Draft, Memory}
use Rattle.lotplan.specs.Finding.{only}
use Rattle.lotplan.specs.Planning.{MayBeLeft, ProblemCallsFor}
use Rattle.lotplan.specs.Reading.{AreNoPlan, file_limit}
use Rattle.lotplan.specs.Replanning.{GivenCallsFor, IsNoRest, IsRestMeant, MayLeaveAfter, MayLeaveRest, ReplanCallsFor, StartCallsFor}
use Rattle.lotplan.specs.declared.status.TheConstants.{NO_PLAN, FAULTY, REFUSED, MISSING, TOO_LONG, NO_REST}
use Rattle.lotplan.proofs.Calls.{AreLaws, Grounds, OneIsUndecided, no_fault, one_problem, same_plan}
use Rattle.lotplan.proofs.PlanCalls.{problem_one, ranked_some}

-- ---- plans that agree in a start have one rest, or none
module _ (m : Problem) (p q : Plan) (first : ℕ) (leadless : HasNoLeads m) (agrees : Agrees m p q first) where
  supply_one : (i t : ℕ) → 1 ≤ i → i ≤ item_count m → t ≤ first → supply m p.make i t ≡ supply m q.make i t
  supply_one i t low high few =
      let sums = sum_to-same t (arriving m p.make i) (arriving m q.make i) (λ u u_low u_high. arriving_start m p q first leadless agrees i u low high u_low (omega (arith, u_high, few))) in
      omega (arith, sums)

  outflow_one : (i t : ℕ) → t ≤ first → outflow m p.make i t ≡ outflow m q.make i t
  outflow_one i t few = sum_to-same t _ _ (λ u u_low u_high. omega (arith, used_up_start m p q first agrees i u u_low (omega (arith, u_high, few))))

  least_stock_one : (i t : ℕ) → 1 ≤ i → i ≤ item_count m → t ≤ first → least_stock m p.make i t ≡ least_stock m q.make i t
  least_stock_one i t low high few = omega (arith, supply_one i t low high few, outflow_one i t few)

  least_backlog_one : (i t : ℕ) → 1 ≤ i → i ≤ item_count m → t ≤ first → least_backlog m p.make i t ≡ least_backlog m q.make i t
  least_backlog_one i t low high few = omega (arith, supply_one i t low high few, outflow_one i t few)

  stands_one : StartStands m p first → StartStands m q first
  stands_one s = record {
    setup = λ i t low high t_low t_high. omega (arith, s.setup i t low high t_low t_high, agrees.setup i t low high t_low t_high);
    made = λ i t low high t_low t_high some. sym (agrees.setup i t low high t_low t_high) ∙ s.made i t low high t_low t_high (omega (arith, some, agrees.make i t low high t_low t_high));
    capacity = λ k t low high t_low t_high. omega (arith, s.capacity k t low high t_low t_high, time_start m p q first agrees k t t_low t_high);
    lots = λ i t low high t_low t_high.
        let x = agrees.make i t low high t_low t_high in
        let lot = s.lots i t low high t_low t_high in
        (omega (arith, x, ap (λ n. (item_at m i).min_lot * n) (agrees.setup i t low high t_low t_high), lot.0), subst (λ n. IfSome (item_at m i).max_lot (λ most. n ≤ most)) x lot.1);
    in_time = λ i t low high t_low t_high free. sym (least_backlog_one i t low high t_high) ∙ s.in_time i t low high t_low t_high free;
  }

  rest_of_one : ThereIsOneRest → first < m.periods → rest_of m p first ≡ rest_of m q first
  rest_of_one law inside =
      let rest = rest_of m p first in
      let r = (law m p first rest inside).1 refl in
      (law m q first rest inside).0 (record {
        some_later = r.some_later;
        periods = r.periods;
        resource_count = r.resource_count;
        item_count = r.item_count;
        resources = r.resources;
        items = λ i low high.
            subst (λ owed. IsRestItem first (least_stock m q.make i first) owed (item_at m i) (item_at rest i)) (least_backlog_one i first low high (omega arith))
            (subst (λ left. IsRestItem first left (least_backlog m p.make i first) (item_at m i) (item_at rest i)) (least_stock_one i first low high (omega arith)) (r.items i low high));
      })

-- plans with the same numbers agree in each start
agrees_same : (m : Problem) (p q : Plan) (first : ℕ) → first < m.periods → SamePlan m p q → Agrees m p q first
agrees_same m p q first inside same = record {
  make = λ i t low high t_low t_high. same.make i t low high t_low (omega (arith, t_high, inside));
  setup = λ i t low high t_low t_high. same.setup i t low high t_low (omega (arith, t_high, inside));
}

-- ---- for one
module _ (laws : AreLaws) (m : Problem) (first budget : ℕ) where
  module _ (p q : Plan) (same : SamePlan m p q) (back : SamePlan m q p) where
    leaves_same : LeavesRest m p first → LeavesRest m q first
    leaves_same l = record { may_go_on = l.may_go_on; stands = stands_one m p q first l.may_go_on.no_leads (agrees_same m p q first l.may_go_on.some_later same) l.stands }

    means_same : (r : Result Problem ModelFault) → MayGoOn m first → RestMeans m p first r → RestMeans m q first r
    means_same r may means = subst (λ k. Means (written_out k) r) (rest_of_one m p q first may.no_leads (agrees_same m p q first may.some_later same) laws.rests may.some_later) means

    no_rest_same : (fault : RestFault) → IsNoRest m p first fault → IsNoRest m q first fault
    no_rest_same First x = x
    no_rest_same (Lead item) x = x
    no_rest_same (Draft why) x = (leaves_same x.0, means_same (Err why) x.0.may_go_on x.1)
    no_rest_same Memory x = x

    start_same : (status : ℕ) → StartCallsFor m p first budget status → StartCallsFor m q first budget status
    start_same status (inl x) = inl (x.0, no_rest_same x.0 x.1, x.2)
    start_same status (inr (inl x)) = inr (inl (x.0, λ stands. x.1 (stands_one m q p first x.0.no_leads (agrees_same m q p first x.0.some_later back) stands), x.2))
    start_same status (inr (inr x)) = inr (inr (x.0, record { leaves = leaves_same x.1.leaves; means = means_same (Ok x.0) x.1.leaves.may_go_on x.1.means }, x.2))

  module _ (p : Plan) where
    -- no rest, no start and a rest exclude one another
    rest_or_no_start : (fault : RestFault) → IsNoRest m p first fault → MayGoOn m first → (StartStands m p first → ⊥) → ⊥
    rest_or_no_start First x may falls = omega (arith, x, may.some_later)
    rest_or_no_start (Lead item) x may falls = omega (arith, x.1.lead, may.no_leads item x.1.low x.1.high)
    rest_or_no_start (Draft why) x may falls = falls x.0.stands
    rest_or_no_start Memory x may falls = x

    rest_or_none : (fault : RestFault) (rest : Problem) → IsNoRest m p first fault → IsRestMeant m p first rest → ⊥
    rest_or_none First rest x is = omega (arith, x, is.leaves.may_go_on.some_later)
    rest_or_none (Lead item) rest x is = omega (arith, x.1.lead, is.leaves.may_go_on.no_leads item x.1.low x.1.high)
    rest_or_none (Draft why) rest x is = absurd (cc (laws.models (written_out (rest_of m p first)) (Ok rest) (Err why) is.means x.1))
    rest_or_none Memory rest x is = x

    one_rest : (a b : Problem) → IsRestMeant m p first a → IsRestMeant m p first b → b ≡ a
    one_rest a b x y =
        let same = laws.models (written_out (rest_of m p first)) (Ok b) (Ok a) y.means x.means in
        cc same

    -- what may be left open after the start
    abbrev MayLeave : Type 0
    MayLeave = (rest : Problem) × IsRestMeant m p first rest × MayBeLeft rest (only budget)

    start_one : (s t : ℕ) → StartCallsFor m p first budget s → StartCallsFor m p first budget t → (s ≡ t) ⊎ (MayLeave × OneIsUndecided s t)
    start_one s t (inl x) (inl y) = inl (x.2 ∙ sym y.2)
    start_one s t (inl x) (inr (inl y)) = absurd (rest_or_no_start x.0 x.1 y.0 y.1)
    start_one s t (inl x) (inr (inr y)) = absurd (rest_or_none x.0 y.0 x.1 y.1)
    start_one s t (inr (inl x)) (inl y) = absurd (rest_or_no_start y.0 y.1 x.0 x.1)
    start_one s t (inr (inl x)) (inr (inl y)) = inl (x.2 ∙ sym y.2)
    start_one s t (inr (inl x)) (inr (inr y)) = absurd (x.1 y.1.leaves.stands)
    start_one s t (inr (inr x)) (inl y) = absurd (rest_or_none y.0 x.0 y.1 x.1)
    start_one s t (inr (inr x)) (inr (inl y)) = absurd (y.1 x.1.leaves.stands)
    start_one s t (inr (inr x)) (inr (inr y)) = ⊎_elim
        (λ same. inl same)
        (λ left. inr ((x.0, x.1, left.0), left.1))
        (problem_one x.0 (only budget) s t x.2 (subst (λ k. ProblemCallsFor k (only budget) t) (one_rest x.0 y.0 x.1 y.1) y.2))

  -- what the bytes of a plan file may be
  abbrev HasPlan : List ℕ → ℕ → Type 0
  HasPlan bytes u = (plan : Plan) × IsPlanOf m (records_of bytes) plan × StartCallsFor m plan first budget u

  abbrev HasNoPlan : List ℕ → ℕ → Type 0
  HasNoPlan bytes u = (fault : PlanFault) × AreNoPlan m bytes fault × (u ≡ FAULTY)

  -- what may be left open of the plan file
  abbrev OrLeft : List ℕ → ℕ → ℕ → Type 0
  OrLeft bytes s t = (s ≡ t) ⊎ (MayLeaveRest m first budget bytes × OneIsUndecided s t)

  plans_apart : (bytes : List ℕ) (u v : ℕ) → HasNoPlan bytes u → HasPlan bytes v → ⊥
  plans_apart bytes u v none plan = none.1.cause ((means_one m (records_of bytes)).plan_or_fault plan.0 none.0 plan.1 none.1.is)

  plans_one : (bytes : List ℕ) (s t : ℕ) → HasPlan bytes s → HasPlan bytes t → OrLeft bytes s t
  plans_one bytes s t a b =
      let there = same_plan m bytes b.0 a.0 b.1 a.1 in
      let back = same_plan m bytes a.0 b.0 a.1 b.1 in
      ⊎_elim
      (λ same. inl same)
      (λ left. inr (record { plan = a.0; is = a.1; rest = left.0.0; meant = left.0.1; left = left.0.2 }, left.1))
      (start_one a.0 s t a.2 (start_same b.0 a.0 there back t b.2))

  bytes_one : (bytes : List ℕ) (s t : ℕ) → HasNoPlan bytes s ⊎ HasPlan bytes s → HasNoPlan bytes t ⊎ HasPlan bytes t → OrLeft bytes s t
  bytes_one bytes s t (inl a) (inl b) = inl (a.2 ∙ sym b.2)
  bytes_one bytes s t (inl a) (inr b) = absurd (plans_apart bytes s t a b)
  bytes_one bytes s t (inr a) (inl b) = absurd (plans_apart bytes t s b a)
  bytes_one bytes s t (inr a) (inr b) = plans_one bytes s t a b

-- what may be left open of both files
abbrev BothOrLeft : (first budget : ℕ) → Option (List ℕ) → Option (List ℕ) → ℕ → ℕ → Type 0
BothOrLeft first budget model plan s t = (s ≡ t) ⊎ (MayLeaveAfter first budget model plan × OneIsUndecided s t)

given_one : AreLaws → (m : Problem) (bytes : List ℕ) → BytesMean bytes (Ok m) → (first budget : ℕ) (file : Option (List ℕ)) (s t : ℕ) → GivenCallsFor m first budget file s → GivenCallsFor m first budget file t → BothOrLeft first budget (Some bytes) file s t
given_one laws m bytes means first budget None s t a b = inl (a ∙ sym b)
given_one laws m bytes means first budget (Some records) s t (inl a) (inl b) = inl (a.1 ∙ sym b.1)
given_one laws m bytes means first budget (Some records) s t (inl a) (inr b) = absurd (omega (arith, a.0, b.0))
given_one laws m bytes means first budget (Some records) s t (inr a) (inl b) = absurd (omega (arith, a.0, b.0))
given_one laws m bytes means first budget (Some records) s t (inr a) (inr b) = ⊎_elim
    (λ same. inl same)
    (λ left. inr ((m, means, left.0), left.1))
    (bytes_one laws m first budget records s t a.1 b.1)

pub replan_call : AreLaws → (first budget : ℕ) (model plan : Option (List ℕ)) (s t : ℕ) → ReplanCallsFor first budget model plan s → ReplanCallsFor first budget model plan t → BothOrLeft first budget model plan s t
replan_call laws first budget None plan s t a b = inl (a ∙ sym b)
replan_call laws first budget (Some bytes) plan s t (inl a) (inl b) = inl (a.1 ∙ sym b.1)
replan_call laws first budget (Some bytes) plan s t (inl a) (inr b) = absurd (omega (arith, a.0, b.0))
replan_call laws first budget (Some bytes) plan s t (inr a) (inl b) = absurd (omega (arith, a.0, b.0))
replan_call laws first budget (Some bytes) plan s t (inr (short, inl (f, reads, is))) (inr (also, inl (g, too, other))) = inl (is ∙ sym other)
replan_call laws first budget (Some bytes) plan s t (inr (short, inl (f, reads, is))) (inr (also, inr (m, too, calls))) = absurd (no_fault bytes m f too reads)
replan_call laws first budget (Some bytes) plan s t (inr (short, inr (m, reads, calls))) (inr (also, inl (f, too, is))) = absurd (no_fault bytes m f reads too)
replan_call laws first budget (Some bytes) plan s t (inr (short, inr (m, reads, calls))) (inr (also, inr (n, too, other))) =
    given_one laws m bytes reads first budget plan s t calls (subst (λ k. GivenCallsFor k first budget plan t) (one_problem bytes n m too reads) other)

-- ---- for some
each_or_not : (rows columns : ℕ) (R : ℕ → ℕ → Type 0) → ((i t : ℕ) → Decided (R i t)) → Decided (Each rows columns R)
each_or_not rows columns R decided = ⊎_elim
    (λ all. inl all)
    (λ f. inr (λ all. f.2.broken (all f.0 f.1 f.2.row_low f.2.row_high f.2.column_low f.2.column_high)))
    (each_or_first rows columns R decided)

module _ (m : Problem) (p : Plan) (first : ℕ) where
  in_time_or_not : (i t : ℕ) → Decided (IsNone (item_at m i).backlog_cost → least_backlog m p.make i t ≡ 0)
  in_time_or_not i t = if_or_not (none_or_not (item_at m i).backlog_cost) (cases_eq (least_backlog m p.make i t) 0)

  stands_or_not : Decided (StartStands m p first)
  stands_or_not = ⊎_elim
      (λ setup. ⊎_elim
      (λ made. ⊎_elim
      (λ time. ⊎_elim
      (λ lots. ⊎_elim
      (λ in_time. inl (record { setup = setup; made = made; capacity = time; lots = lots; in_time = in_time }))
      (λ no. inr (λ s. no s.in_time))
      (each_or_not (item_count m) first (λ i t. IsNone (item_at m i).backlog_cost → least_backlog m p.make i t ≡ 0) in_time_or_not))
      (λ no. inr (λ s. no s.lots))
      (each_or_not (item_count m) first (IsLot m p) (λ i t. both_or_not (le_or_not ((item_at m i).min_lot * p.setup i t) (p.make i t)) (within_or_not (item_at m i).max_lot (p.make i t)))))
      (λ no. inr (λ s. no s.capacity))
      (each_or_not (resource_count m) first (IsWithinCapacity m p) (λ k t. le_or_not (time_used m p k t) (capacity m k t))))
      (λ no. inr (λ s. no s.made))
      (each_or_not (item_count m) first (IsMadeWithSetup p) (λ i t. if_or_not (lt_or_not 0 (p.make i t)) (cases_eq (p.setup i t) 1))))
      (λ no. inr (λ s. no s.setup))
      (each_or_not (item_count m) first (IsSetup p) (λ i t. le_or_not (p.setup i t) 1))

-- the first item with a lead time, or none
lead_or_none : (m : Problem) → HasNoLeads m ⊎ ((i : ℕ) × IsFirstLead m i)
lead_or_none m = ⊎_elim
    (λ all. inl all)
    (λ f. inr (f.0, record { low = f.1; high = f.2; lead = omega (arith, some_lead (item_at m f.0).lead f.3); before = f.4 }))
    (all_or_first (λ i. (item_at m i).lead ≡ 0) (λ i. cases_eq (item_at m i).lead 0) (item_count m))
  where
    some_lead : (n : ℕ) → (n ≡ 0 → ⊥) → 1 ≤ n
    some_lead n not = ⊎_elim (λ less. less) (λ le. absurd (not (omega (arith, le)))) (cases_lt 0 n)

-- in a problem that a model means no item is its own component
ranked_rest : (m : Problem) (p : Plan) (first : ℕ) (rest : Problem) → RestMeans m p first (Ok rest) → (rank : ℕ → ℕ) × IsRanking rest rank
ranked_rest m p first rest means = subst (λ k. (rank : ℕ → ℕ) × IsRanking k rank) (sym means.0) means.1.ranked

module _ (by : Grounds) (first budget : ℕ) where
  module _ (m : Problem) (p : Plan) where
    rest_some : LeavesRest m p first → (r : Result Problem ModelFault) → RestMeans m p first r → (status : ℕ) × StartCallsFor m p first budget status
    rest_some leaves (Ok rest) means =
        let rank = ranked_rest m p first rest means in
        let call = ranked_some by rest (only budget) rank.0 rank.1 in
        (call.0, inr (inr (rest, record { leaves = leaves; means = means }, call.1)))
    rest_some leaves (Err fault) means = (NO_REST, inl (Draft fault, (leaves, means), refl))

    start_some : (status : ℕ) × StartCallsFor m p first budget status
    start_some = ⊎_elim
        (λ inside. ⊎_elim
        (λ leadless. ⊎_elim
        (λ stands. let means = by.models (written_out (rest_of m p first)) in rest_some (record { may_go_on = record { some_later = inside; no_leads = leadless }; stands = stands }) means.0 means.1)
        (λ falls. (NO_PLAN, inr (inl (record { some_later = inside; no_leads = leadless }, falls, refl))))
        (stands_or_not m p first))
        (λ lead. (NO_REST, inl (Lead lead.0, (inside, lead.1), refl)))
        (lead_or_none m))
        (λ past. (NO_REST, inl (First, past, refl)))
        (cases_lt first m.periods)

  given_some : (m : Problem) (file : Option (List ℕ)) → (status : ℕ) × GivenCallsFor m first budget file status
  given_some m None = (MISSING, refl)
  given_some m (Some bytes) = ⊎_elim
      (λ long. (TOO_LONG, inl (long, refl)))
      (λ short. ⊎_elim
      (λ read. let call = start_some m read.0 in (call.0, inr (short, inr (read.0, read.1, call.1))))
      (λ fault. (FAULTY, inr (short, inl (fault.0, record { cause = fault.1; is = fault.2 }, refl))))
      (by.records m (records_of bytes)))
      (cases_lt file_limit (length bytes))

  model_some : (bytes : List ℕ) (plan : Option (List ℕ)) → length bytes ≤ file_limit → (r : Result Problem ModelFault) → BytesMean bytes r → (status : ℕ) × ReplanCallsFor first budget (Some bytes) plan status
  model_some bytes plan short (Ok m) means = let call = given_some m plan in (call.0, inr (short, inr (m, means, call.1)))
  model_some bytes plan short (Err fault) means = (REFUSED, inr (short, inl (fault, means, refl)))

  pub replan_some : (model plan : Option (List ℕ)) → (status : ℕ) × ReplanCallsFor first budget model plan status
  replan_some None plan = (MISSING, refl)
  replan_some (Some bytes) plan = ⊎_elim
      (λ long. (TOO_LONG, inl (long, refl)))
      (λ short. let means = by.bytes NEWEST_VERSION bytes in model_some bytes plan short means.0 means.1)
      (cases_lt file_limit (length bytes))
