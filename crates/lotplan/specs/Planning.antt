-- What `plan` answers, why, and what it leaves.
use Rattle.std.specs.Prelude.{◌≡◌, ◌≢◌, ◌⊎◌, ◌<◌, ◌≤◌, ℕ, false, List, [], ◌∷◌, ◌++◌, codes, decimal, IsTrue, Option, Some, None, Ok, is_some}
use Rattle.lot_sizing.specs.Problem.{IsUncoupled, Problem}
use Rattle.lot_sizing.specs.Plan.{IsFeasible, Plan, cost}
use Rattle.lot_sizing.specs.Best.{IsBest, IsFloor, IsImpossible}
use Rattle.lot_sizing.specs.Texts.{optimal_line, plan_text}
use Rattle.lot_io.specs.Outside.{Files, OnlyReads, Printed, Rose, Shelved}
use Rattle.instance_reader.specs.Model.{BytesMean}
use Rattle.plan_rules.specs.declared.plan.Plan.{Plan as Grids}
use Rattle.plan_file.specs.Records.{IsPlanOf, records_of}
use Rattle.cert_lines.specs.declared.parts.Claim.{Claim}
use Rattle.cert_lines.specs.declared.parts.Claim.TheVariants.{Optimal, Infeasible, Bound as BoundOf}
use Rattle.certificate.specs.Counts.{node_count}
use Rattle.certificate.specs.Limits.{IsTextOf}
use Rattle.certificate.specs.Shapes.{shape_of}
use Rattle.cert_trees.specs.Ranges.{WithTotals}
use Rattle.stream_check.specs.Streams.{OfBytes}
use Rattle.own_plan.specs.OwnPeriod.{HasOwnPeriod, IsOwnPeriod}
use Rattle.search_result.specs.declared.found.Found.{Found}
use Rattle.search_result.specs.declared.found.RootSays.{RootSays}
use Rattle.search_result.specs.declared.found.RootSays.TheVariants as at_root
use Rattle.branching.specs.Search.{HasBudgetForAll, cost_of}
use Rattle.lotplan.specs.Writing.{StartsAmong, unwritten_line}
use Rattle.command_line.specs.Words.{Search}
use Rattle.lotplan.specs.Judging.{FindsFault, FindsNone, JudgeAnswer, JudgeCallsFor, JudgeExplains, OfFeasible, judge_line, judge_status}
use Rattle.lotplan.specs.Reading.{ByModel, FilesStop, read_meant, ModelExplains, OfModel, ReadAnswer, read_line, read_status}
use Rattle.lotplan.specs.Proving.{HoldsProof}
use Rattle.lotplan.specs.Finding.{IsFound, PlanCosts}
use Rattle.lotplan.specs.Meaning.{Meaning}
use Rattle.lotplan.specs.Saying.{Answered, Gains, IsSaid, TellsAs}
use Rattle.lotplan.specs.declared.commands.plan.PlanAnswer.{PlanAnswer as HeldAnswer}
use Rattle.lotplan.specs.declared.commands.plan.PlanAnswer.TheVariants as held
use Rattle.lotplan.specs.declared.said.Said.{Said}
use Rattle.lotplan.specs.declared.sought.Sought.{Sought}
use Rattle.lotplan.specs.declared.status.TheConstants.{DONE, NO_PLAN, UNDECIDED}
use Rattle.lotplan.specs.declared.status.Status.{Status}
use Rattle.lotplan.specs.declared.status.Status.TheVariants as status

-- ---- answers
pub data PlanAnswer : Type 0 where
  -- a best plan and its certificate were written: what was said at the root, the nodes of the certificate's tree, and the plan's cost
  optimal : RootSays → ℕ → ℕ → PlanAnswer
  -- no plan is feasible, and the certificate of that was written: what was said at the root, and the nodes of its tree
  infeasible : RootSays → ℕ → PlanAnswer
  -- a plan and the certificate of a bound were written: what was said at the root, the nodes, the bound, and the plan's cost
  between : RootSays → ℕ → ℕ → ℕ → PlanAnswer
  -- no plan was found, and the certificate of a bound was written: what was said at the root, the nodes, and the bound
  above : RootSays → ℕ → ℕ → PlanAnswer
  -- the plan file or the certificate file, of this name, could not be written
  unwritten : List ℕ → PlanAnswer
  -- the model file gave no problem
  no_input : ReadAnswer → PlanAnswer

-- what the program's own answer stands for
abbrev pub plan_meant : HeldAnswer → PlanAnswer
plan_meant (held.Optimal says nodes amount) = optimal says nodes amount
plan_meant (held.Infeasible says nodes) = infeasible says nodes
plan_meant (held.Between says nodes least amount) = between says nodes least amount
plan_meant (held.Above says nodes least) = above says nodes least
plan_meant (held.Unwritten file) = unwritten file.now
plan_meant (held.NoInput why) = no_input (read_meant why)

abbrev pub plan_status : PlanAnswer → Status
plan_status (optimal says nodes amount) = status.Done
plan_status (infeasible says nodes) = status.NoPlan
plan_status (between says nodes bound amount) = status.Undecided
plan_status (above says nodes bound) = status.Undecided
plan_status (unwritten file) = status.Unwritten
plan_status (no_input why) = read_status why

-- what was said at the root
abbrev pub root_line : RootSays → List ℕ
root_line at_root.Uncoupled = codes "root uncoupled\n"
root_line (at_root.Skipped cells) = codes "root skipped\n"
root_line (at_root.Closed bound) = codes "root closed " ++ (decimal bound ++ codes "\n")
root_line at_root.Empty = codes "root empty\n"
root_line (at_root.Stopped round) = codes "root stopped\n"
root_line (at_root.Passed round at) = codes "root passed\n"

abbrev pub nodes_line : ℕ → List ℕ
nodes_line nodes = codes "nodes " ++ (decimal nodes ++ codes "\n")

abbrev pub infeasible_line : List ℕ
infeasible_line = codes "infeasible\n"

-- with a plan and without one
abbrev pub between_line : ℕ → ℕ → List ℕ
between_line bound amount = codes "undecided " ++ (decimal bound ++ (codes " plan " ++ (decimal amount ++ codes "\n")))

abbrev pub above_line : ℕ → List ℕ
above_line bound = codes "undecided " ++ (decimal bound ++ codes "\n")

-- the root line, the nodes line and the line of the result
abbrev pub three_lines : RootSays → ℕ → List ℕ → List ℕ
three_lines says nodes result = root_line says ++ (nodes_line nodes ++ result)

abbrev pub plan_line : PlanAnswer → List ℕ
plan_line (optimal says nodes amount) = three_lines says nodes (optimal_line amount)
plan_line (infeasible says nodes) = three_lines says nodes infeasible_line
plan_line (between says nodes bound amount) = three_lines says nodes (between_line bound amount)
plan_line (above says nodes bound) = three_lines says nodes (above_line bound)
plan_line (unwritten file) = unwritten_line file
plan_line (no_input why) = read_line why

-- what is answered to a claim with a plan or without one, once what was found is written
abbrev pub IsAnswerTo : Problem → Claim → Option Grids → RootSays → ℕ → PlanAnswer → Type 0
IsAnswerTo problem (Optimal amount) given says nodes answer = answer ≡ optimal says nodes amount
IsAnswerTo problem Infeasible given says nodes answer = answer ≡ infeasible says nodes
IsAnswerTo problem (BoundOf bound) (Some plan) says nodes answer = answer ≡ between says nodes bound (cost_of problem plan)
IsAnswerTo problem (BoundOf bound) None says nodes answer = answer ≡ above says nodes bound

-- ---- causes
-- the certificate file has the text of the certificate that was found, with this claim and beside a plan of this cost or none; the lines have what was said at the root and the number of nodes
pub record ShowsFound (after : Files) (problem : Problem) (certificate_file : List ℕ) (sought : Sought) (says : RootSays) (nodes : ℕ) (claim : Claim) (costs : Option ℕ) : Type 0 where
  pub found : Found
  pub is : IsFound problem sought found
  pub root : found.root ≡ says
  pub counted : found.nodes ≡ nodes
  pub claims : found.certificate.claim ≡ claim
  pub plan : PlanCosts problem found.plan costs
  pub text : OfBytes (after certificate_file) (λ bytes. IsTextOf bytes (shape_of found.certificate))

-- the certificate file holds a certificate of this claim, which is accepted and true, of an optimal cost with the plan in the plan file; its tree has so many nodes
pub record WritesProof (after : Files) (problem : Problem) (plan_file certificate_file : List ℕ) (claim : Claim) (nodes : ℕ) : Type 0 where
  pub proof : HoldsProof after plan_file certificate_file problem claim
  pub counted : nodes ≡ node_count proof.holds.certificate.tree

-- the plan file's bytes are those of this plan and are read as it
pub record WritesPlan (after : Files) (problem : Problem) (plan_file : List ℕ) (chosen : Plan) : Type 0 where
  pub bytes : List ℕ
  pub written : after plan_file ≡ Some bytes
  pub text : bytes ≡ plan_text problem chosen
  pub read : IsPlanOf problem (records_of bytes) chosen

-- they are those of a best plan of the problem, which costs this amount
pub record WritesBest (after : Files) (problem : Problem) (plan_file : List ℕ) (amount : ℕ) : Type 0 where
  pub chosen : Plan
  pub best : IsBest problem chosen
  pub costs : cost problem chosen ≡ amount
  pub written : WritesPlan after problem plan_file chosen

-- they are those of a feasible plan, which costs this amount, and is best where the problem is uncoupled
pub record WritesFeasible (after : Files) (problem : Problem) (plan_file : List ℕ) (amount : ℕ) : Type 0 where
  pub chosen : Plan
  pub feasible : IsFeasible problem chosen
  pub costs : cost problem chosen ≡ amount
  pub best : IsUncoupled problem → IsBest problem chosen
  pub written : WritesPlan after problem plan_file chosen

-- a best plan of the problem was written, which costs this amount, and a certificate that no plan costs less
pub record WritesOptimal (after : Files) (problem : Problem) (plan_file certificate_file : List ℕ) (sought : Sought) (says : RootSays) (nodes amount : ℕ) : Type 0 where
  pub best : WritesBest after problem plan_file amount
  pub proof : WritesProof after problem plan_file certificate_file (Optimal amount) nodes
  pub shows : ShowsFound after problem certificate_file sought says nodes (Optimal amount) (Some amount)

-- no plan of the problem is feasible, a certificate of that was written, and the plan file is as it was
pub record WritesInfeasible (before after : Files) (problem : Problem) (plan_file certificate_file : List ℕ) (sought : Sought) (says : RootSays) (nodes : ℕ) : Type 0 where
  pub impossible : IsImpossible problem
  pub proof : WritesProof after problem plan_file certificate_file Infeasible nodes
  pub kept : after plan_file ≡ before plan_file
  pub shows : ShowsFound after problem certificate_file sought says nodes Infeasible None

-- no feasible own-period plan costs less than this
abbrev pub IsWithinOwn : Problem → ℕ → Type 0
IsWithinOwn problem amount = (own : Plan) → IsOwnPeriod problem own → IsFeasible problem own → amount ≤ cost problem own

-- each plan costs at least the bound, a certificate of that was written, and a plan that costs this amount, which is above the bound
pub record WritesBetween (after : Files) (problem : Problem) (plan_file certificate_file : List ℕ) (sought : Sought) (says : RootSays) (nodes bound amount : ℕ) : Type 0 where
  pub floor : IsFloor problem bound
  pub below : bound < amount
  pub own : IsWithinOwn problem amount
  pub plan : WritesFeasible after problem plan_file amount
  pub proof : WritesProof after problem plan_file certificate_file (BoundOf bound) nodes
  pub shows : ShowsFound after problem certificate_file sought says nodes (BoundOf bound) (Some amount)

-- each plan costs at least the bound, a certificate of that was written, no own-period plan is feasible, and the plan file is as it was
pub record WritesAbove (before after : Files) (problem : Problem) (plan_file certificate_file : List ℕ) (sought : Sought) (says : RootSays) (nodes bound : ℕ) : Type 0 where
  pub floor : IsFloor problem bound
  pub own : HasOwnPeriod problem → ⊥
  pub proof : WritesProof after problem plan_file certificate_file (BoundOf bound) nodes
  pub kept : after plan_file ≡ before plan_file
  pub shows : ShowsFound after problem certificate_file sought says nodes (BoundOf bound) None

-- a plan was found of the problem; without coupling it is best
pub record HasPlan (problem : Problem) : Type 0 where
  pub chosen : Plan
  pub feasible : IsFeasible problem chosen
  pub best : IsUncoupled problem → IsBest problem chosen

-- none was found; without coupling there is none
pub record HasNone (problem : Problem) : Type 0 where
  pub own : HasOwnPeriod problem → ⊥
  pub impossible : IsUncoupled problem → IsImpossible problem

-- ---- what is written
-- which file could not be written, what holds `Of` the problem, and what is left: the plan file of one with a plan, before the certificate file is touched; the certificate file, after the plan file holds a plan; or the certificate file of one of which no plan was found
abbrev pub FailsAt : ((Problem → Type 0) → Type 0) → (plan_file certificate_file : List ℕ) → Shelved → Shelved → (file : List ℕ) → Type 0
FailsAt Of p c old new file =
    ((file ≡ p) × Of HasPlan × StartsAmong (p ∷ []) 1 old new)
    ⊎ (((file ≡ c) × Of (λ problem. (amount : ℕ) × WritesFeasible new.file problem p amount) × StartsAmong (p ∷ c ∷ []) 2 old new)
    ⊎ ((file ≡ c) × Of HasNone × StartsAmong (c ∷ []) 1 old new))

-- what an answer to a search says was written
abbrev pub WritesFound : (before after : Files) (plan_file certificate_file : List ℕ) → PlanAnswer → Problem → Sought → Type 0
WritesFound before after p c (optimal says nodes amount) problem sought = WritesOptimal after problem p c sought says nodes amount
WritesFound before after p c (infeasible says nodes) problem sought = WritesInfeasible before after problem p c sought says nodes
WritesFound before after p c (between says nodes bound amount) problem sought = WritesBetween after problem p c sought says nodes bound amount
WritesFound before after p c (above says nodes bound) problem sought = WritesAbove before after problem p c sought says nodes bound
WritesFound before after p c (unwritten file) problem sought = ⊥
WritesFound before after p c (no_input why) problem sought = ⊥

-- why a search, of whose problem this holds, ends in this answer, and what it leaves; a file that can't be written, or gives no problem, has these causes
abbrev pub SearchExplains : ((Problem → Sought → Type 0) → Type 0) → (List ℕ → Type 0) → (ReadAnswer → Type 0) → (plan_file certificate_file : List ℕ) → Shelved → Shelved → PlanAnswer → Type 0
SearchExplains Of Fails Stops p c old new (optimal says nodes amount) = (IsTrue old.told → Of (WritesFound old.file new.file p c (optimal says nodes amount))) × StartsAmong (p ∷ c ∷ []) 2 old new
SearchExplains Of Fails Stops p c old new (infeasible says nodes) = (IsTrue old.told → Of (WritesFound old.file new.file p c (infeasible says nodes))) × StartsAmong (c ∷ []) 1 old new
SearchExplains Of Fails Stops p c old new (between says nodes bound amount) = (IsTrue old.told → Of (WritesFound old.file new.file p c (between says nodes bound amount))) × StartsAmong (p ∷ c ∷ []) 2 old new
SearchExplains Of Fails Stops p c old new (above says nodes bound) = (IsTrue old.told → Of (WritesFound old.file new.file p c (above says nodes bound))) × StartsAmong (c ∷ []) 1 old new
SearchExplains Of Fails Stops p c old new (unwritten file) = Rose old.write_faults new.write_faults × Fails file
SearchExplains Of Fails Stops p c old new (no_input why) = Stops why

-- of a problem
abbrev pub WriteExplains : Problem → Sought → List ℕ → List ℕ → Shelved → Shelved → PlanAnswer → Type 0
WriteExplains problem sought p c old new =
    SearchExplains (λ P. P problem sought) (FailsAt (λ P. IsTrue old.told → P problem) p c old new) (λ why. ⊥) p c old new

-- ---- what the words give to the search
-- of these words, from a plan of this cost or from none
abbrev pub sought_by : Search → Option ℕ → Sought
sought_by search begins = record { budget = search.budget; begins = begins; gap = search.gap; may_stop = is_some search.seconds; newest = search.newest }

-- something holds of the problem in the model file and of what its search is given; where a file to start from is named, that holds a feasible plan of the problem, and the search starts from it
abbrev pub OfStart : Files → List ℕ → Search → Option (List ℕ) → (Problem → Sought → Type 0) → Type 0
OfStart before m search None P = OfModel before m (λ problem. P problem (sought_by search None))
OfStart before m search (Some start) P = OfFeasible before m start (λ problem plan. P problem (sought_by search (Some (cost problem plan))))

abbrev pub OfSearch : Files → List ℕ → Search → (Problem → Sought → Type 0) → Type 0
OfSearch before m search P = OfStart before m search search.start P

-- the files to start from
abbrev pub start_files : Option (List ℕ) → List (List ℕ)
start_files None = []
start_files (Some start) = start ∷ []

-- why planning these files, the search of which was begun if there is a problem, ends in this answer, and what it leaves
abbrev pub PlanExplains : List ℕ → List ℕ → List ℕ → Search → Shelved → Shelved → PlanAnswer → Type 0
PlanExplains m p c search old new =
    SearchExplains (OfSearch old.file m search) (FailsAt (λ P. IsTrue old.told → OfModel old.file m P) p c old new)
    (λ why. (search.start ≡ None) × ModelExplains m old new why × OnlyReads old new) p c old new

-- what a run of `plan` comes to
pub data PlanOutcome : Type 0 where
  -- the answer of the search, or that there is no problem to search
  of_search : PlanAnswer → PlanOutcome
  -- there is no plan to start from: what `judge` answers of the model file and the file to start from
  of_start : JudgeAnswer → PlanOutcome

abbrev pub outcome_status : PlanOutcome → Status
outcome_status (of_search answer) = plan_status answer
outcome_status (of_start answer) = judge_status answer

abbrev pub outcome_line : PlanOutcome → List ℕ
outcome_line (of_search answer) = plan_line answer
outcome_line (of_start answer) = judge_line answer

-- why it comes to that
abbrev pub OutcomeExplains : List ℕ → List ℕ → List ℕ → Search → Shelved → Shelved → PlanOutcome → Type 0
OutcomeExplains m p c search old new (of_search answer) = PlanExplains m p c search old new answer
OutcomeExplains m p c search old new (of_start answer) =
    (start : List ℕ) × (search.start ≡ Some start) × FindsNone answer × JudgeExplains m start old new answer × OnlyReads old new

-- what is said is an answer that has its cause
abbrev pub WriteSays : Problem → Sought → List ℕ → List ℕ → Shelved → Shelved → Said → Type 0
WriteSays problem sought p c old new said = (answer : PlanAnswer) × WriteExplains problem sought p c old new answer × IsSaid (plan_line answer) (plan_status answer) said

-- what planning these files does: an outcome that has its cause
abbrev pub PlanDoes : List ℕ → List ℕ → List ℕ → Search → Shelved → Shelved → List ℕ → Status → Type 0
PlanDoes m p c search old new = Answered PlanOutcome (OutcomeExplains m p c search old new) outcome_line outcome_status

-- ---- the status that the files call for, faults and out of memory aside
-- the search may leave the problem open: it is coupled, and the budget isn't enough for all choices, or the search may end before that
pub record MayBeLeft (problem : Problem) (sought : Sought) : Type 0 where
  pub coupled : IsUncoupled problem → ⊥
  pub large : sought.gap ≡ None → sought.may_stop ≡ false → WithTotals problem (λ total. HasBudgetForAll problem sought.budget total → ⊥)

-- for a problem `DONE` where a plan is feasible and `NO_PLAN` where none is; `UNDECIDED` only where it may be left open
abbrev pub ProblemCallsFor : Problem → Sought → ℕ → Type 0
ProblemCallsFor problem sought status =
    ((status ≡ DONE) × (p : Plan) × IsFeasible problem p) ⊎ (((status ≡ NO_PLAN) × IsImpossible problem) ⊎ ((status ≡ UNDECIDED) × MayBeLeft problem sought))

abbrev pub FileCallsFor : Option (List ℕ) → Sought → ℕ → Type 0
FileCallsFor model sought = ByModel BytesMean (λ problem. ProblemCallsFor problem sought) model

-- where a file to start from is named: what `judge` calls for of it, if that isn't `DONE`; and else what the model file calls for
abbrev pub PlanCallFor : List ℕ → Sought → Option (List ℕ) → Files → ℕ → Type 0
PlanCallFor m sought None file status = FileCallsFor (file m) sought status
PlanCallFor m sought (Some start) file status =
    ((status ≢ DONE) × JudgeCallsFor (file m) (file start) status) ⊎ (JudgeCallsFor (file m) (file start) DONE × FileCallsFor (file m) sought status)

-- the file means a problem that the search may leave open, so that `UNDECIDED` is called for, beside `DONE` or `NO_PLAN`
abbrev pub MayLeave : Option (List ℕ) → Sought → Type 0
MayLeave None sought = ⊥
MayLeave (Some bytes) sought = (problem : Problem) × BytesMean bytes (Ok problem) × MayBeLeft problem sought

-- and the file to start from, if one is named, holds a feasible plan of it
abbrev pub PlanMayLeave : List ℕ → Sought → Option (List ℕ) → Files → Type 0
PlanMayLeave m sought None file = MayLeave (file m) sought
PlanMayLeave m sought (Some start) file = JudgeCallsFor (file m) (file start) DONE × MayLeave (file m) sought

-- why the files give nothing to go on with: the model file, or, where one is named, the file to start from
abbrev pub PlanStops : List ℕ → Option (List ℕ) → Shelved → Shelved → ReadAnswer → Type 0
PlanStops m None = ModelExplains m
PlanStops m (Some start) = FilesStop m start

-- ---- what each status says
-- the plan file holds a best plan of the problem in the model file, the certificate file proves that it is, and the lines have its cost
pub record PlansBest (before after : Files) (model_file plan_file certificate_file : List ℕ) (search : Search) (out_old out_new : Printed) : Type 0 where
  pub says : RootSays
  pub nodes : ℕ
  pub amount : ℕ
  pub holds : OfSearch before model_file search (λ problem sought. WritesOptimal after problem plan_file certificate_file sought says nodes amount)
  pub lines : Gains (three_lines says nodes (optimal_line amount)) out_old out_new

-- no plan of the problem in the model file is feasible, the certificate file proves it, and the lines say so
pub record FindsNoPlan (before after : Files) (model_file plan_file certificate_file : List ℕ) (search : Search) (out_old out_new : Printed) : Type 0 where
  pub says : RootSays
  pub nodes : ℕ
  pub holds : OfSearch before model_file search (λ problem sought. WritesInfeasible before after problem plan_file certificate_file sought says nodes)
  pub lines : Gains (three_lines says nodes infeasible_line) out_old out_new

-- the best cost of the problem in the model file was left open, between the bound and what the plan in the plan file costs, or above the bound; the certificate file proves the bound, and the lines say so
abbrev pub LeavesOpen : (before after : Files) (model_file plan_file certificate_file : List ℕ) → Search → Printed → Printed → Type 0
LeavesOpen before after m p c search = TellsAs status.Undecided PlanAnswer plan_status (λ answer. OfSearch before m search (WritesFound before after p c answer)) plan_line

-- the file to start from held a feasible plan, and the plan file holds one that costs no more
abbrev pub KeepsStart : Files → Files → (model_file plan_file start_file : List ℕ) → Type 0
KeepsStart before after m p start = OfFeasible before m start (λ problem given. (amount : ℕ) × WritesFeasible after problem p amount × (amount ≤ cost problem given))

-- the file to start from holds no plan, or one that breaks a rule, and the line names the first fault
pub record FindsStartFault (before : Files) (model_file : List ℕ) (search : Search) (out_old out_new : Printed) : Type 0 where
  pub start : List ℕ
  pub named : search.start ≡ Some start
  pub finds : FindsFault before model_file start out_old out_new

-- the plan file or the certificate file could not be written, and the line names it
pub record FailsToWrite (old new : Shelved) (model_file plan_file certificate_file : List ℕ) (out_old out_new : Printed) : Type 0 where
  pub file : List ℕ
  pub failed : Rose old.write_faults new.write_faults
  pub left : FailsAt (λ P. IsTrue old.told → OfModel old.file model_file P) plan_file certificate_file old new file
  pub line : Gains (unwritten_line file) out_old out_new

-- ---- the command
abbrev pub plan_meaning : List ℕ → List ℕ → List ℕ → Search → Meaning
plan_meaning m p c search = record {
  does = PlanDoes m p c search;
  reads = m ∷ start_files search.start;
  passes = [];
  writes = p ∷ c ∷ [];
  stops = PlanStops m search.start;
  overlong = λ old. ⊥;
  calls_for = PlanCallFor m (sought_by search None) search.start;
  may_be_left = PlanMayLeave m (sought_by search None) search.start;
}
