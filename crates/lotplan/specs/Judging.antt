-- What `judge` answers, and why.
use Rattle.std.specs.Prelude.{◌≡◌, ◌⊎◌, ℕ, List, [], ◌∷◌, ◌++◌, codes, decimal, IsTrue, Option, ⊤}
use Rattle.lot_sizing.specs.Problem.{Problem}
use Rattle.lot_sizing.specs.Plan.{IsFeasible, Plan, cost}
use Rattle.lot_io.specs.Outside.{Files, OnlyReads, Printed, Shelved}
use Rattle.instance_reader.specs.Model.{BytesMean}
use Rattle.plan_rules.specs.Broken.{IsBroken}
use Rattle.plan_rules.specs.Texts.{broken_text}
use Rattle.plan_rules.specs.Held.{AllFit, plan_of}
use Rattle.plan_rules.specs.declared.broken.Broken.{Broken}
use Rattle.plan_rules.specs.declared.plan.Plan.{Plan as Grids}
use Rattle.plan_file.specs.Records.{IsPlanOf, records_of}
use Rattle.plan_file.specs.declared.fault.PlanFault.{PlanFault}
use Rattle.lotplan.specs.Reading.{ByFile, ByModel, AreNoPlan, FilesStop, HoldsPlan, HoldsProblem, read_meant, FileExplains, OfFile, OfModel, ReadAnswer, no_plan_line, read_line, read_status}
use Rattle.lotplan.specs.Meaning.{Meaning, whole_meaning}
use Rattle.lotplan.specs.Saying.{Answered, Tells, TellsAs}
use Rattle.lotplan.specs.declared.commands.judge.JudgeAnswer.{JudgeAnswer as HeldAnswer}
use Rattle.lotplan.specs.declared.commands.judge.JudgeAnswer.TheVariants as held
use Rattle.lotplan.specs.declared.commands.judge.NotFeasible.{NotFeasible}
use Rattle.lotplan.specs.declared.commands.judge.NotFeasible.TheVariants as stop
use Rattle.lotplan.specs.declared.status.TheConstants.{DONE, FAULTY}
use Rattle.lotplan.specs.declared.status.Status.{Status}
use Rattle.lotplan.specs.declared.status.Status.TheVariants as status

-- ---- answers
pub data JudgeAnswer : Type 0 where
  -- the plan is feasible, and costs this
  feasible : ℕ → JudgeAnswer
  -- the plan file holds no plan
  no_plan : PlanFault → JudgeAnswer
  -- the plan breaks this rule first
  broken : Broken → JudgeAnswer
  -- the model file gave no problem, or the plan file no bytes
  no_input : ReadAnswer → JudgeAnswer

-- what the program's own answer stands for
abbrev pub judge_meant : HeldAnswer → JudgeAnswer
judge_meant (held.Feasible amount) = feasible amount
judge_meant (held.NoPlan fault) = no_plan fault
judge_meant (held.Broken rule) = broken rule
judge_meant (held.NoInput why) = no_input (read_meant why)

abbrev pub judge_status : JudgeAnswer → Status
judge_status (feasible amount) = status.Done
judge_status (no_plan fault) = status.Faulty
judge_status (broken rule) = status.Faulty
judge_status (no_input why) = read_status why

abbrev pub judge_line : JudgeAnswer → List ℕ
judge_line (feasible amount) = codes "feasible " ++ (decimal amount ++ codes "\n")
judge_line (no_plan fault) = no_plan_line fault
judge_line (broken rule) = broken_text rule ++ codes "\n"
judge_line (no_input why) = read_line why

-- ---- causes
-- bytes hold a feasible plan, of which this holds
pub record AreFeasiblePlan (problem : Problem) (bytes : List ℕ) (P : Plan → Type 0) : Type 0 where
  pub plan : Plan
  pub is : IsPlanOf problem (records_of bytes) plan
  pub feasible : IsFeasible problem plan
  pub holds : P plan

-- they hold one which costs this
abbrev pub AreFeasible : Problem → List ℕ → (amount : ℕ) → Type 0
AreFeasible problem bytes amount = AreFeasiblePlan problem bytes (λ plan. cost problem plan ≡ amount)

-- they hold a plan that breaks this rule first
pub record AreBroken (problem : Problem) (bytes : List ℕ) (rule : Broken) : Type 0 where
  pub plan : Plan
  pub is : IsPlanOf problem (records_of bytes) plan
  pub infeasible : IsFeasible problem plan → ⊥
  pub breaks : IsBroken problem plan rule

-- what the bytes of a plan file are, where it holds some
abbrev pub BytesAre : Problem → JudgeAnswer → List ℕ → Type 0
BytesAre problem (feasible amount) bytes = AreFeasible problem bytes amount
BytesAre problem (no_plan fault) bytes = AreNoPlan problem bytes fault
BytesAre problem (broken rule) bytes = AreBroken problem bytes rule
BytesAre problem (no_input why) bytes = ⊥

-- why judging a plan file of a problem ends in this answer
abbrev pub PlanFileExplains : Problem → List ℕ → Shelved → Shelved → JudgeAnswer → Type 0
PlanFileExplains problem p old new (feasible amount) = IsTrue old.told → OfFile old.file p (BytesAre problem (feasible amount))
PlanFileExplains problem p old new (no_plan fault) = IsTrue old.told → OfFile old.file p (BytesAre problem (no_plan fault))
PlanFileExplains problem p old new (broken rule) = IsTrue old.told → OfFile old.file p (BytesAre problem (broken rule))
PlanFileExplains problem p old new (no_input why) = FileExplains p old new why

-- the model file means a problem, whose plan file these bytes are
abbrev pub FilesAre : Files → List ℕ → List ℕ → JudgeAnswer → Type 0
FilesAre before m p answer = OfModel before m (λ problem. OfFile before p (BytesAre problem answer))

-- why judging these files ends in this answer
abbrev pub JudgeExplains : List ℕ → List ℕ → Shelved → Shelved → JudgeAnswer → Type 0
JudgeExplains m p old new (feasible amount) = IsTrue old.told → FilesAre old.file m p (feasible amount)
JudgeExplains m p old new (no_plan fault) = IsTrue old.told → FilesAre old.file m p (no_plan fault)
JudgeExplains m p old new (broken rule) = IsTrue old.told → FilesAre old.file m p (broken rule)
JudgeExplains m p old new (no_input why) = FilesStop m p old new why

-- ---- where a command goes on with a feasible plan
-- grids hold a feasible plan of a problem, which costs this
pub record HoldFeasible (problem : Problem) (grids : Grids) (amount : ℕ) : Type 0 where
  pub fits : AllFit problem grids
  pub feasible : IsFeasible problem (plan_of grids)
  pub costs : amount ≡ cost problem (plan_of grids)

-- the model file means the problem, and the plan file holds this plan of it
pub record HoldsBoth (before : Files) (model_file plan_file : List ℕ) (problem : Problem) (grids : Grids) : Type 0 where
  pub model : HoldsProblem before model_file problem
  pub plan : HoldsPlan before plan_file problem grids

-- the model file means a problem, the plan file holds a feasible plan of it, and this holds of both
abbrev pub OfFeasible : Files → (model_file plan_file : List ℕ) → (Problem → Plan → Type 0) → Type 0
OfFeasible before m p P = OfModel before m (λ problem. OfFile before p (λ bytes. AreFeasiblePlan problem bytes (P problem)))

-- nothing more is said of them
abbrev pub AnyPlan : Problem → Plan → Type 0
AnyPlan problem plan = ⊤

-- `judge` finds no feasible plan
abbrev pub FindsNone : JudgeAnswer → Type 0
FindsNone (feasible amount) = ⊥
FindsNone (no_plan fault) = ⊤
FindsNone (broken rule) = ⊤
FindsNone (no_input why) = ⊤

-- it answers so, and the answer has its cause; out of memory needs none
abbrev pub ExplainsNone : (JudgeAnswer → Type 0) → NotFeasible → Type 0
ExplainsNone P (stop.Judged answer) = FindsNone (judge_meant answer) × P (judge_meant answer)
ExplainsNone P stop.Memory = ⊤

-- ---- what is done
-- what judging these files does: an answer that has its cause, and nothing is written
abbrev pub JudgeDoes : List ℕ → List ℕ → Shelved → Shelved → List ℕ → Status → Type 0
JudgeDoes m p old new = Answered JudgeAnswer (λ answer. JudgeExplains m p old new answer × OnlyReads old new) judge_line judge_status

-- ---- the status that the two files call for, faults and out of memory aside
-- for a plan file of a problem `DONE` where it holds a feasible plan, and else `FAULTY`
abbrev pub PlanCallsFor : Problem → Option (List ℕ) → ℕ → Type 0
PlanCallsFor problem = ByFile (λ bytes status.
    ((amount : ℕ) × AreFeasible problem bytes amount × (status ≡ DONE))
    ⊎ (((rule : Broken) × AreBroken problem bytes rule × (status ≡ FAULTY))
    ⊎ ((fault : PlanFault) × AreNoPlan problem bytes fault × (status ≡ FAULTY))))

abbrev pub JudgeCallsFor : Option (List ℕ) → Option (List ℕ) → ℕ → Type 0
JudgeCallsFor model plan = ByModel BytesMean (λ problem. PlanCallsFor problem plan) model

-- ---- what each status says
-- the plan file holds a feasible plan, and the line has its cost
abbrev pub FindsFeasible : Files → (model_file plan_file : List ℕ) → Printed → Printed → Type 0
FindsFeasible before m p = Tells ℕ (λ amount. FilesAre before m p (feasible amount)) (λ amount. judge_line (feasible amount))

-- the plan file holds no plan, or one that breaks a rule, and the line names the first fault
abbrev pub FindsFault : Files → (model_file plan_file : List ℕ) → Printed → Printed → Type 0
FindsFault before m p = TellsAs status.Faulty JudgeAnswer judge_status (FilesAre before m p) judge_line

-- ---- the command
abbrev pub judge_meaning : List ℕ → List ℕ → Meaning
judge_meaning m p = whole_meaning (JudgeDoes m p) (m ∷ p ∷ []) [] (FilesStop m p) (λ file. JudgeCallsFor (file m) (file p))
