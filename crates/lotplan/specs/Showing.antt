-- What `demo` prints: what `plan` prints of two generated models.
use Rattle.std.specs.Prelude.{◌≡◌, ◌<◌, ◌≤◌, ◌+◌, ◌*◌, ℕ, true, false, List, [], ◌++◌, codes, ⊤}
use Rattle.lot_sizing.specs.Problem.{IsUncoupled, Problem, item_count}
use Rattle.lot_sizing.specs.Plan.{IsFeasible, Plan, cost}
use Rattle.lot_sizing.specs.Best.{IsBest, IsFloor}
use Rattle.lot_io.specs.Outside.{Printed, Shelved}
use Rattle.cert_lines.specs.declared.limits.TheConstants.{MAX_BRANCHES}
use Rattle.search_result.specs.declared.found.Found.{Found}
use Rattle.search_result.specs.declared.found.RootSays.TheVariants as at_root
use Rattle.report.specs.Generated.{generated}
use Rattle.lotplan.specs.Finding.{IsFound, only}
use Rattle.lotplan.specs.Planning.{IsAnswerTo, IsWithinOwn, PlanAnswer, above, between, infeasible, optimal, plan_line, no_input, unwritten}
use Rattle.lotplan.specs.Meaning.{Meaning, fixed_meaning}
use Rattle.lotplan.specs.Saying.{Tells}
use Rattle.lotplan.specs.declared.commands.demo.TheConstants.{COUPLED_BUDGET, COUPLED_ITEMS, COUPLED_PERIODS, FREE_BUDGET, FREE_ITEMS, FREE_PERIODS}
use Rattle.lotplan.specs.declared.said.Said.{Said}
use Rattle.lotplan.specs.declared.status.TheConstants.{DONE}
use Rattle.lotplan.specs.declared.status.Status.{Status}
use Rattle.lotplan.specs.declared.status.Status.TheVariants.{Done}

-- ---- the two models of a seed
abbrev pub free_problem : ℕ → Problem
free_problem seed = generated seed FREE_ITEMS FREE_PERIODS false

abbrev pub coupled_problem : ℕ → Problem
coupled_problem seed = generated seed COUPLED_ITEMS COUPLED_PERIODS true

-- ---- what is shown of a model
-- a best plan costs this
pub record IsBestCost (problem : Problem) (amount : ℕ) : Type 0 where
  pub chosen : Plan
  pub best : IsBest problem chosen
  pub costs : cost problem chosen ≡ amount

-- each plan costs at least the bound, and a feasible plan costs this, which is more and no more than a feasible own-period plan costs
pub record IsBetween (problem : Problem) (bound amount : ℕ) : Type 0 where
  pub floor : IsFloor problem bound
  pub below : bound < amount
  pub chosen : Plan
  pub feasible : IsFeasible problem chosen
  pub costs : cost problem chosen ≡ amount
  pub own : IsWithinOwn problem amount

-- what an answer says of a model that has a feasible own-period plan
abbrev pub IsTrueAnswer : Problem → PlanAnswer → Type 0
IsTrueAnswer problem (optimal says nodes amount) = IsBestCost problem amount
IsTrueAnswer problem (infeasible says nodes) = ⊥
IsTrueAnswer problem (between says nodes bound amount) = IsBetween problem bound amount
IsTrueAnswer problem (above says nodes bound) = ⊥
IsTrueAnswer problem (unwritten file) = ⊥
IsTrueAnswer problem (no_input why) = ⊥

-- a best plan was found with one node
abbrev pub IsBestAlone : PlanAnswer → Type 0
IsBestAlone answer = (amount : ℕ) × (answer ≡ optimal at_root.Uncoupled 1 amount)

-- where the best cost was left open, two more nodes would have passed the budget
abbrev pub IsSpent : ℕ → PlanAnswer → Type 0
IsSpent budget (optimal says nodes amount) = ⊤
IsSpent budget (infeasible says nodes) = ⊤
IsSpent budget (between says nodes bound amount) = budget < nodes + 2
IsSpent budget (above says nodes bound) = budget < nodes + 2
IsSpent budget (unwritten file) = ⊤
IsSpent budget (no_input why) = ⊤

-- the most branches of a path on one item in one period: one on its setup, and one on each bit of its lot, which isn't above `MAX_TOTAL` and so has at most 40
abbrev pub entry_branches : ℕ
entry_branches = 41

-- so few items over so few periods that no path can be as long as it may be
abbrev pub IsShort : Problem → Type 0
IsShort problem = item_count problem * problem.periods * entry_branches ≤ MAX_BRANCHES

-- `plan` with this budget answers so, once it is written: what was found, that the answer is to it and that what it says is so
pub record IsShown (problem : Problem) (budget : ℕ) (answer : PlanAnswer) : Type 0 where
  pub found : Found
  pub is : IsFound problem (only budget) found
  pub answers : IsAnswerTo problem found.certificate.claim found.plan found.root found.nodes answer
  pub holds : IsTrueAnswer problem answer
  pub alone : IsUncoupled problem → IsBestAlone answer
  pub spent : IsShort problem → IsSpent budget answer

-- ---- what is said
abbrev pub two_groups : PlanAnswer → PlanAnswer → List ℕ
two_groups free coupled = codes "free\n" ++ (plan_line free ++ (codes "coupled\n" ++ plan_line coupled))

-- the lines show what was found of the two models of a seed within their budgets, the uncoupled one first
pub record ShowsBoth (seed : ℕ) (text : List ℕ) : Type 0 where
  pub free : PlanAnswer
  pub free_shown : IsShown (free_problem seed) FREE_BUDGET free
  pub alone : IsBestAlone free
  pub coupled : PlanAnswer
  pub coupled_shown : IsShown (coupled_problem seed) COUPLED_BUDGET coupled
  pub spent : IsSpent COUPLED_BUDGET coupled
  pub lines : text ≡ two_groups free coupled

-- ---- what `DONE` says
abbrev pub Shows : (seed : ℕ) → Printed → Printed → Type 0
Shows seed = Tells (List ℕ) (ShowsBoth seed) (λ text. text)

-- ---- the command
-- it touches no file, and the lines are these
pub record DemoDoes (seed : ℕ) (old new : Shelved) (line : List ℕ) (status : Status) : Type 0 where
  pub same : new ≡ old
  pub shows : ShowsBoth seed line
  pub ends : status ≡ Done

abbrev pub DemoSays : ℕ → Said → Type 0
DemoSays seed said = (files : Shelved) → DemoDoes seed files files said.line.items said.status

abbrev pub demo_meaning : ℕ → Meaning
demo_meaning seed = fixed_meaning (DemoDoes seed) [] DONE
