-- What `replan` answers, why, and what it leaves.
use Rattle.std.specs.Prelude.{◌≡◌, ◌⊎◌, ◌<◌, ◌≤◌, ◌+◌, ℕ, List, [], ◌∷◌, ◌++◌, length, codes, decimal, IsTrue, Option, Some, None, Ok, ⊤}
use Rattle.lot_sizing.specs.Problem.{Problem}
use Rattle.lot_sizing.specs.Plan.{Plan}
use Rattle.lot_sizing.specs.Texts.{optimal_line}
use Rattle.lot_io.specs.Outside.{Files, OnlyReads, Printed, Rose, Shelved}
use Rattle.instance_reader.specs.Model.{BytesMean}
use Rattle.instance_reader.specs.Written.{IsModelText}
use Rattle.plan_file.specs.Records.{IsPlanOf, records_of}
use Rattle.plan_file.specs.declared.fault.PlanFault.{PlanFault}
use Rattle.cert_lines.specs.declared.parts.Claim.{Claim}
use Rattle.cert_lines.specs.declared.parts.Claim.TheVariants.{Optimal, Infeasible, Bound as BoundOf}
use Rattle.search_result.specs.declared.found.Found.{Found}
use Rattle.search_result.specs.declared.found.RootSays.{RootSays}
use Rattle.frozen_start.specs.Starts.{IsFloorAfter, NoneAgreesWith, StartStands}
use Rattle.replan.specs.Answers.{IsFirstLead, IsRest, IsRestRefused, LeavesRest, MayGoOn, RestMeans}
use Rattle.replan.specs.Texts.{rest_fault_text}
use Rattle.replan.specs.Whole.{IsBestJoined, IsJoined}
use Rattle.replan.specs.declared.fault.RestFault.{RestFault}
use Rattle.replan.specs.declared.fault.RestFault.TheVariants.{First, Lead, Draft, Memory}
use Rattle.replan.specs.declared.found.Rest.{Rest}
use Rattle.lotplan.specs.Writing.{IsUnwritten, IsWritten, StartsAmong, unwritten_line}
use Rattle.lotplan.specs.Reading.{ByFile, ByModel, AreNoPlan, FilesStop, OfFile, OfModel, ReadAnswer, file_limit, no_plan_line, read_line, read_meant, read_status}
use Rattle.lotplan.specs.Finding.{only}
use Rattle.lotplan.specs.Upgrading.{WritesModel}
use Rattle.lotplan.specs.Planning.{HasNone, HasPlan, IsAnswerTo, MayBeLeft, PlanAnswer, ProblemCallsFor, WriteExplains, WritesAbove, WritesBetween, WritesFeasible, WritesInfeasible, WritesOptimal, above, above_line, between, between_line, infeasible, infeasible_line, optimal, plan_status, three_lines, unwritten}
use Rattle.lotplan.specs.Planning.{no_input as no_model}
use Rattle.lotplan.specs.Checking.{CallsForDone}
use Rattle.lotplan.specs.Meaning.{Meaning}
use Rattle.lotplan.specs.Saying.{Answered, Gains, IsSaid, Tells}
use Rattle.lotplan.specs.declared.commands.replanning.ReplanAnswer.{ReplanAnswer as HeldAnswer}
use Rattle.lotplan.specs.declared.commands.replanning.ReplanAnswer.TheVariants as held
use Rattle.lotplan.specs.declared.model_file.PlanStop.{PlanStop}
use Rattle.lotplan.specs.declared.model_file.PlanStop.TheVariants as plan_stop
use Rattle.lotplan.specs.declared.said.Said.{Said}
use Rattle.lotplan.specs.declared.status.TheConstants.{NO_PLAN, FAULTY, NO_REST}
use Rattle.lotplan.specs.declared.status.Status.{Status}
use Rattle.lotplan.specs.declared.status.Status.TheVariants as status

-- ---- answers
pub data ReplanAnswer : Type 0 where
  -- the start stands, and the later periods were searched: what `plan` answers of them, and what the start costs
  searched : PlanAnswer → ℕ → ReplanAnswer
  -- the start doesn't stand
  no_start : ReplanAnswer
  -- no later periods can be planned
  no_rest : RestFault → ReplanAnswer
  -- the plan file holds no plan
  no_plan : PlanFault → ReplanAnswer
  -- the model file gave no problem, or the plan file no bytes
  no_input : ReadAnswer → ReplanAnswer

-- what the program's own answer stands for
abbrev pub replan_meant : HeldAnswer → ReplanAnswer
replan_meant held.NoStart = no_start
replan_meant (held.NoRest fault) = no_rest fault
replan_meant (held.NoPlan fault) = no_plan fault
replan_meant (held.NoInput why) = no_input (read_meant why)

abbrev pub replan_status : ReplanAnswer → Status
replan_status (searched answer spent) = plan_status answer
replan_status no_start = status.NoPlan
replan_status (no_rest fault) = status.NoRest
replan_status (no_plan fault) = status.Faulty
replan_status (no_input why) = read_status why

-- what the best plans that agree with the start cost, or what each of them costs at least
abbrev pub total_line : ℕ → List ℕ
total_line total = codes "total " ++ (decimal total ++ codes "\n")

abbrev pub floor_line : ℕ → List ℕ
floor_line floor = codes "total floor " ++ (decimal floor ++ codes "\n")

-- what `plan` prints of the later periods, and, where a cost or a bound is told of them, that with what the start costs
abbrev pub searched_line : ℕ → PlanAnswer → List ℕ
searched_line spent (optimal says nodes amount) = three_lines says nodes (optimal_line amount) ++ total_line (spent + amount)
searched_line spent (infeasible says nodes) = three_lines says nodes infeasible_line
searched_line spent (between says nodes bound amount) = three_lines says nodes (between_line bound amount) ++ floor_line (spent + bound)
searched_line spent (above says nodes bound) = three_lines says nodes (above_line bound) ++ floor_line (spent + bound)
searched_line spent (unwritten file) = unwritten_line file
searched_line spent (no_model why) = read_line why

-- of a claim of the later periods: the amount that is claimed of all plans that agree with the start
abbrev pub whole_line : Claim → Option ℕ → List ℕ
whole_line claim None = []
whole_line (Optimal amount) (Some total) = total_line total
whole_line Infeasible (Some total) = []
whole_line (BoundOf bound) (Some total) = floor_line total

abbrev pub no_rest_line : RestFault → List ℕ
no_rest_line fault = codes "refused rest " ++ (rest_fault_text fault ++ codes "\n")

abbrev pub replan_line : ReplanAnswer → List ℕ
replan_line (searched answer spent) = searched_line spent answer
replan_line no_start = infeasible_line
replan_line (no_rest fault) = no_rest_line fault
replan_line (no_plan fault) = no_plan_line fault
replan_line (no_input why) = read_line why

-- ---- causes
-- bytes hold a plan, feasible or not, of which this holds
pub record ArePlan (problem : Problem) (bytes : List ℕ) (P : Plan → Type 0) : Type 0 where
  pub plan : Plan
  pub is : IsPlanOf problem (records_of bytes) plan
  pub holds : P plan

-- the model file means a problem, the plan file holds a plan of it, and this holds of both
abbrev pub OfPlan : Files → (model_file plan_file : List ℕ) → (Problem → Plan → Type 0) → Type 0
OfPlan before m p P = OfModel before m (λ problem. OfFile before p (λ bytes. ArePlan problem bytes (P problem)))

-- the model file means a problem, and the plan file holds no plan of it, for this fault
abbrev pub OfNoPlan : Files → (model_file plan_file : List ℕ) → PlanFault → Type 0
OfNoPlan before m p fault = OfModel before m (λ problem. OfFile before p (λ bytes. AreNoPlan problem bytes fault))

-- the start stands, this is the rest after it, and the new model file holds it
pub record GoesOn (after : Files) (problem : Problem) (plan : Plan) (first : ℕ) (new_model_file : List ℕ) (rest : Rest) : Type 0 where
  pub is : IsRest problem plan first rest
  pub written : WritesModel after rest.instance new_model_file

-- a best plan of the rest was written with its certificate; behind the start it is a best one of all that agree with the start, and costs the total
pub record ReplansOptimal (after : Files) (problem : Problem) (plan : Plan) (first : ℕ) (new_model_file new_plan_file certificate_file : List ℕ) (budget : ℕ) (says : RootSays) (nodes amount spent : ℕ) : Type 0 where
  pub rest : Rest
  pub goes_on : GoesOn after problem plan first new_model_file rest
  pub is_spent : rest.spent ≡ spent
  pub later : WritesOptimal after rest.instance new_plan_file certificate_file (only budget) says nodes amount
  pub best : IsBestJoined problem plan first later.best.chosen (spent + amount)

-- no plan of the rest is feasible, the certificate of that was written, and no feasible plan agrees with the start
pub record ReplansInfeasible (before after : Files) (problem : Problem) (plan : Plan) (first : ℕ) (new_model_file new_plan_file certificate_file : List ℕ) (budget : ℕ) (says : RootSays) (nodes : ℕ) : Type 0 where
  pub rest : Rest
  pub goes_on : GoesOn after problem plan first new_model_file rest
  pub later : WritesInfeasible before after rest.instance new_plan_file certificate_file (only budget) says nodes
  pub none : NoneAgreesWith problem plan first

-- a plan of the rest was written with the certificate of a bound; behind the start it is feasible, and every plan that agrees with the start costs at least the floor
pub record ReplansBetween (after : Files) (problem : Problem) (plan : Plan) (first : ℕ) (new_model_file new_plan_file certificate_file : List ℕ) (budget : ℕ) (says : RootSays) (nodes bound amount spent : ℕ) : Type 0 where
  pub rest : Rest
  pub goes_on : GoesOn after problem plan first new_model_file rest
  pub is_spent : rest.spent ≡ spent
  pub later : WritesBetween after rest.instance new_plan_file certificate_file (only budget) says nodes bound amount
  pub joined : IsJoined problem plan first rest later.plan.chosen
  pub floor : IsFloorAfter problem plan first (spent + bound)

-- no plan of the rest was found, and the certificate of a bound was written; every plan that agrees with the start costs at least the floor
pub record ReplansAbove (before after : Files) (problem : Problem) (plan : Plan) (first : ℕ) (new_model_file new_plan_file certificate_file : List ℕ) (budget : ℕ) (says : RootSays) (nodes bound spent : ℕ) : Type 0 where
  pub rest : Rest
  pub goes_on : GoesOn after problem plan first new_model_file rest
  pub is_spent : rest.spent ≡ spent
  pub later : WritesAbove before after rest.instance new_plan_file certificate_file (only budget) says nodes bound
  pub floor : IsFloorAfter problem plan first (spent + bound)

-- some period is left, no item has a lead time, the start doesn't stand, and no feasible plan agrees with it
pub record HasNoStart (problem : Problem) (plan : Plan) (first : ℕ) : Type 0 where
  pub may : MayGoOn problem first
  pub falls : StartStands problem plan first → ⊥
  pub none : NoneAgreesWith problem plan first

-- why no later periods can be planned: none is left, this item is the first with a lead time, or the start stands and this is the first rule of models that they break
abbrev pub IsNoRest : Problem → Plan → ℕ → RestFault → Type 0
IsNoRest problem plan first First = problem.periods ≤ first
IsNoRest problem plan first (Lead item) = (first < problem.periods) × IsFirstLead problem item
IsNoRest problem plan first (Draft fault) = IsRestRefused problem plan first fault
IsNoRest problem plan first Memory = ⊥

-- the start stands, and there is a rest after it
abbrev pub HasRest : Problem → Plan → ℕ → Type 0
HasRest problem plan first = (rest : Rest) × IsRest problem plan first rest

-- the new model file holds it, and this holds of it
abbrev pub OfRest : (after : Files) (problem : Problem) (plan : Plan) (first : ℕ) (new_model_file : List ℕ) → (Problem → Type 0) → Type 0
OfRest after problem plan first n P = (rest : Rest) × GoesOn after problem plan first n rest × P rest.instance

-- which file could not be written, what holds `Of` the problem and the plan, and what is left: the model file of the rest, before the others are touched; the plan file of a rest with a plan; the certificate file, after the plan file holds a plan; or the certificate file of a rest of which no plan was found
abbrev pub FailsOn : ((Problem → Plan → Type 0) → Type 0) → (first : ℕ) (new_model_file new_plan_file certificate_file : List ℕ) → Shelved → Shelved → (file : List ℕ) → Type 0
FailsOn Of first n q c old new file =
    ((file ≡ n) × Of (λ problem plan. HasRest problem plan first) × StartsAmong (n ∷ []) 1 old new)
    ⊎ (((file ≡ q) × Of (λ problem plan. OfRest new.file problem plan first n HasPlan) × StartsAmong (n ∷ q ∷ []) 2 old new)
    ⊎ (((file ≡ c) × Of (λ problem plan. OfRest new.file problem plan first n (λ rest. (amount : ℕ) × WritesFeasible new.file rest q amount)) × StartsAmong (n ∷ q ∷ c ∷ []) 3 old new)
    ⊎ ((file ≡ c) × Of (λ problem plan. OfRest new.file problem plan first n HasNone) × StartsAmong (n ∷ c ∷ []) 2 old new)))

-- ---- what is written
-- the model file of the rest could not be written; or it was, and then what was found, as `plan` writes it
abbrev pub NextExplains : Problem → (new_model_file new_plan_file certificate_file : List ℕ) (budget : ℕ) → Shelved → Shelved → PlanAnswer → Type 0
NextExplains rest n q c budget old new answer =
    ((answer ≡ unwritten n) × IsUnwritten n old new)
    ⊎ ((bytes : List ℕ) × IsModelText rest bytes × BytesMean bytes (Ok rest) × (mid : Shelved) × IsWritten n bytes old mid × WriteExplains rest (only budget) q c mid new answer)

-- what is said is the answer to what was found of the rest, with the total
abbrev pub IsFoundLine : Rest → Found → Said → Type 0
IsFoundLine rest found said =
    (answer : PlanAnswer) × IsAnswerTo rest.instance found.certificate.claim found.plan found.root found.nodes answer × IsSaid (searched_line rest.spent answer) (plan_status answer) said

-- what is said is an answer that has its cause
abbrev pub NextSays : Rest → (new_model_file new_plan_file certificate_file : List ℕ) (budget : ℕ) → Shelved → Shelved → Said → Type 0
NextSays rest n q c budget old new said =
    (answer : PlanAnswer) × NextExplains rest.instance n q c budget old new answer × IsSaid (searched_line rest.spent answer) (plan_status answer) said

-- why planning on from the start of a plan, of which this holds `Of` the problem and the plan, ends in this answer, and what it leaves
abbrev pub StartExplains : ((Problem → Plan → Type 0) → Type 0) → (first : ℕ) (new_model_file new_plan_file certificate_file : List ℕ) (budget : ℕ) → Shelved → Shelved → ReplanAnswer → Type 0
StartExplains Of first n q c budget old new (searched (optimal says nodes amount) spent) =
    Of (λ problem plan. ReplansOptimal new.file problem plan first n q c budget says nodes amount spent) × StartsAmong (n ∷ q ∷ c ∷ []) 3 old new
StartExplains Of first n q c budget old new (searched (infeasible says nodes) spent) =
    Of (λ problem plan. ReplansInfeasible old.file new.file problem plan first n q c budget says nodes) × StartsAmong (n ∷ c ∷ []) 2 old new
StartExplains Of first n q c budget old new (searched (between says nodes bound amount) spent) =
    Of (λ problem plan. ReplansBetween new.file problem plan first n q c budget says nodes bound amount spent) × StartsAmong (n ∷ q ∷ c ∷ []) 3 old new
StartExplains Of first n q c budget old new (searched (above says nodes bound) spent) =
    Of (λ problem plan. ReplansAbove old.file new.file problem plan first n q c budget says nodes bound spent) × StartsAmong (n ∷ c ∷ []) 2 old new
StartExplains Of first n q c budget old new (searched (unwritten file) spent) = Rose old.write_faults new.write_faults × FailsOn Of first n q c old new file
StartExplains Of first n q c budget old new (searched (no_model why) spent) = ⊥
StartExplains Of first n q c budget old new no_start = Of (λ problem plan. HasNoStart problem plan first) × OnlyReads old new
StartExplains Of first n q c budget old new (no_rest fault) = Of (λ problem plan. IsNoRest problem plan first fault) × OnlyReads old new
StartExplains Of first n q c budget old new (no_plan fault) = ⊥
StartExplains Of first n q c budget old new (no_input why) = ⊥

-- of a problem and a plan, where files are told
abbrev pub StartSays : Problem → Plan → (first : ℕ) (new_model_file new_plan_file certificate_file : List ℕ) (budget : ℕ) → Shelved → Shelved → Said → Type 0
StartSays problem plan first n q c budget old new said =
    (answer : ReplanAnswer) × StartExplains (λ P. IsTrue old.told → P problem plan) first n q c budget old new answer × IsSaid (replan_line answer) (replan_status answer) said

-- why the files of a model and a plan give no plan; out of memory needs no cause
abbrev pub ExplainsGivenStop : (model_file plan_file : List ℕ) → Shelved → Shelved → PlanStop → Type 0
ExplainsGivenStop m p old new (plan_stop.NoPlan fault) = IsTrue old.told → OfNoPlan old.file m p fault
ExplainsGivenStop m p old new (plan_stop.Answered why) = FilesStop m p old new (read_meant why)
ExplainsGivenStop m p old new plan_stop.Memory = ⊤

-- why `replan` of these files ends in this answer, and what it leaves
abbrev pub ReplanExplains : (model_file plan_file : List ℕ) (first : ℕ) (new_model_file new_plan_file certificate_file : List ℕ) (budget : ℕ) → Shelved → Shelved → ReplanAnswer → Type 0
ReplanExplains m p first n q c budget old new (searched answer spent) =
    StartExplains (λ P. IsTrue old.told → OfPlan old.file m p P) first n q c budget old new (searched answer spent)
ReplanExplains m p first n q c budget old new no_start = StartExplains (λ P. IsTrue old.told → OfPlan old.file m p P) first n q c budget old new no_start
ReplanExplains m p first n q c budget old new (no_rest fault) =
    StartExplains (λ P. IsTrue old.told → OfPlan old.file m p P) first n q c budget old new (no_rest fault)
ReplanExplains m p first n q c budget old new (no_plan fault) = (IsTrue old.told → OfNoPlan old.file m p fault) × OnlyReads old new
ReplanExplains m p first n q c budget old new (no_input why) = FilesStop m p old new why × OnlyReads old new

-- what `replan` of these files does: an answer that has its cause
abbrev pub ReplanDoes : (model_file plan_file : List ℕ) (first : ℕ) (new_model_file new_plan_file certificate_file : List ℕ) (budget : ℕ) → Shelved → Shelved → List ℕ → Status → Type 0
ReplanDoes m p first n q c budget old new = Answered ReplanAnswer (ReplanExplains m p first n q c budget old new) replan_line replan_status

-- ---- the status that the two files call for, faults and out of memory aside
-- the start stands, and the later periods, written as a model of their own, mean this problem
pub record IsRestMeant (problem : Problem) (plan : Plan) (first : ℕ) (rest : Problem) : Type 0 where
  pub leaves : LeavesRest problem plan first
  pub means : RestMeans problem plan first (Ok rest)

-- for a plan of a problem `NO_REST` where no later periods can be planned, `NO_PLAN` where the start doesn't stand, and else what `plan` of the rest calls for
abbrev pub StartCallsFor : Problem → Plan → (first budget status : ℕ) → Type 0
StartCallsFor problem plan first budget status =
    ((fault : RestFault) × IsNoRest problem plan first fault × (status ≡ NO_REST))
    ⊎ ((MayGoOn problem first × (StartStands problem plan first → ⊥) × (status ≡ NO_PLAN))
    ⊎ ((rest : Problem) × IsRestMeant problem plan first rest × ProblemCallsFor rest (only budget) status))

-- for a plan file of a problem `FAULTY` where it holds no plan
abbrev pub GivenCallsFor : Problem → (first budget : ℕ) → Option (List ℕ) → ℕ → Type 0
GivenCallsFor problem first budget = ByFile (λ bytes status.
    ((fault : PlanFault) × AreNoPlan problem bytes fault × (status ≡ FAULTY))
    ⊎ ((plan : Plan) × IsPlanOf problem (records_of bytes) plan × StartCallsFor problem plan first budget status))

abbrev pub ReplanCallsFor : (first budget : ℕ) → Option (List ℕ) → Option (List ℕ) → ℕ → Type 0
ReplanCallsFor first budget model plan = ByModel BytesMean (λ problem. GivenCallsFor problem first budget plan) model

-- there is a rest after the start of the plan in these bytes, which the search may leave open
pub record MayLeaveRest (problem : Problem) (first budget : ℕ) (bytes : List ℕ) : Type 0 where
  pub plan : Plan
  pub is : IsPlanOf problem (records_of bytes) plan
  pub rest : Problem
  pub meant : IsRestMeant problem plan first rest
  pub left : MayBeLeft rest (only budget)

-- the files mean a problem and a plan of it, after whose start `UNDECIDED` is called for, beside `DONE` or `NO_PLAN`
abbrev pub MayLeaveAfter : (first budget : ℕ) → Option (List ℕ) → Option (List ℕ) → Type 0
MayLeaveAfter first budget (Some bytes) (Some records) = (problem : Problem) × BytesMean bytes (Ok problem) × MayLeaveRest problem first budget records
MayLeaveAfter first budget None plan = ⊥
MayLeaveAfter first budget (Some bytes) None = ⊥

-- ---- what each status says
-- a best plan of the later periods was written with the certificate that proves it; behind the start it is a best one of all that agree with the start, and the last line has its cost
pub record ReplansBest (before after : Files) (model_file plan_file : List ℕ) (first : ℕ) (new_model_file new_plan_file certificate_file : List ℕ) (budget : ℕ) (out_old out_new : Printed) : Type 0 where
  pub says : RootSays
  pub nodes : ℕ
  pub amount : ℕ
  pub spent : ℕ
  pub holds : OfPlan before model_file plan_file (λ problem plan. ReplansOptimal after problem plan first new_model_file new_plan_file certificate_file budget says nodes amount spent)
  pub lines : Gains (three_lines says nodes (optimal_line amount) ++ total_line (spent + amount)) out_old out_new

-- no feasible plan agrees with the start: it stands, no plan of the later periods is feasible, the certificate file proves that, and the lines say so
pub record FindsNoneLater (before after : Files) (model_file plan_file : List ℕ) (first : ℕ) (new_model_file new_plan_file certificate_file : List ℕ) (budget : ℕ) (out_old out_new : Printed) : Type 0 where
  pub says : RootSays
  pub nodes : ℕ
  pub holds : OfPlan before model_file plan_file (λ problem plan. ReplansInfeasible before after problem plan first new_model_file new_plan_file certificate_file budget says nodes)
  pub lines : Gains (three_lines says nodes infeasible_line) out_old out_new

-- or it doesn't stand, no file has changed, and the one line says so
pub record FindsNoStart (before after : Files) (model_file plan_file : List ℕ) (first : ℕ) (out_old out_new : Printed) : Type 0 where
  pub holds : OfPlan before model_file plan_file (λ problem plan. HasNoStart problem plan first)
  pub kept : after ≡ before
  pub line : Gains infeasible_line out_old out_new

-- the best cost of the later periods was left open: between the bound and what the plan in the new plan file costs, or above the bound
abbrev pub IsLeftAfter : (before after : Files) (problem : Problem) (plan : Plan) (first : ℕ) (new_model_file new_plan_file certificate_file : List ℕ) (budget : ℕ) → PlanAnswer → ℕ → Type 0
IsLeftAfter before after problem plan first n q c budget (optimal says nodes amount) spent = ⊥
IsLeftAfter before after problem plan first n q c budget (infeasible says nodes) spent = ⊥
IsLeftAfter before after problem plan first n q c budget (between says nodes bound amount) spent = ReplansBetween after problem plan first n q c budget says nodes bound amount spent
IsLeftAfter before after problem plan first n q c budget (above says nodes bound) spent = ReplansAbove before after problem plan first n q c budget says nodes bound spent
IsLeftAfter before after problem plan first n q c budget (unwritten file) spent = ⊥
IsLeftAfter before after problem plan first n q c budget (no_model why) spent = ⊥

-- the certificate file proves the bound, every plan that agrees with the start costs at least the floor, and the lines have both
pub record LeavesRestOpen (before after : Files) (model_file plan_file : List ℕ) (first : ℕ) (new_model_file new_plan_file certificate_file : List ℕ) (budget : ℕ) (out_old out_new : Printed) : Type 0 where
  pub answer : PlanAnswer
  pub spent : ℕ
  pub holds : OfPlan before model_file plan_file (λ problem plan. IsLeftAfter before after problem plan first new_model_file new_plan_file certificate_file budget answer spent)
  pub lines : Gains (searched_line spent answer) out_old out_new

-- no later periods can be planned, and the line says why
abbrev pub FindsNoRest : Files → (model_file plan_file : List ℕ) → (first : ℕ) → Printed → Printed → Type 0
FindsNoRest before m p first = Tells RestFault (λ fault. OfPlan before m p (λ problem plan. IsNoRest problem plan first fault)) no_rest_line

-- the plan file holds no plan, and the line names the first fault
abbrev pub FindsPlanFault : Files → (model_file plan_file : List ℕ) → Printed → Printed → Type 0
FindsPlanFault before m p = Tells PlanFault (OfNoPlan before m p) no_plan_line

-- a file could not be written, and the line names it
pub record FailsToReplan (old new : Shelved) (model_file plan_file : List ℕ) (first : ℕ) (new_model_file new_plan_file certificate_file : List ℕ) (out_old out_new : Printed) : Type 0 where
  pub file : List ℕ
  pub failed : Rose old.write_faults new.write_faults
  pub left : FailsOn (λ P. IsTrue old.told → OfPlan old.file model_file plan_file P) first new_model_file new_plan_file certificate_file old new file
  pub line : Gains (unwritten_line file) out_old out_new

-- `check` of the new files calls for `DONE`, and for no other status, where the new model file isn't longer than one that is read
abbrev pub CallsForDoneIfShort : (after : Files) (new_model_file new_plan_file certificate_file : List ℕ) → Type 0
CallsForDoneIfShort after n q c = ((bytes : List ℕ) → after n ≡ Some bytes → length bytes ≤ file_limit) → CallsForDone after n q c

-- ---- the command
abbrev pub replan_meaning : (model_file plan_file : List ℕ) (first : ℕ) (new_model_file new_plan_file certificate_file : List ℕ) (budget : ℕ) → Meaning
replan_meaning m p first n q c budget = record {
  does = ReplanDoes m p first n q c budget;
  reads = m ∷ p ∷ [];
  passes = [];
  writes = n ∷ q ∷ c ∷ [];
  stops = FilesStop m p;
  overlong = λ old. ⊥;
  calls_for = λ file. ReplanCallsFor first budget (file m) (file p);
  may_be_left = λ file. MayLeaveAfter first budget (file m) (file p);
}
