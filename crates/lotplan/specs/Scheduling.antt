-- What `schedule` writes, and what `schedcheck` answers, and why.
use Rattle.std.specs.Prelude.{◌≡◌, ◌≢◌, ◌⊎◌, ℕ, List, [], ◌∷◌, ◌++◌, length, codes, IsTrue, Option, Some, ⊤}
use Rattle.lot_sizing.specs.Problem.{Problem}
use Rattle.lot_sizing.specs.Plan.{Plan}
use Rattle.lot_io.specs.Outside.{Files, OnlyReads, Printed, Shelved}
use Rattle.plan_file.specs.Records.{records_of}
use Rattle.lot_schedule.specs.Slots.{IsSchedule}
use Rattle.lot_schedule.specs.Orders.{HasLeastEnds, IsInOrder, TiesAreByItem}
use Rattle.lot_schedule.specs.Laws.{AreNamed}
use Rattle.lot_schedule.specs.Records.{AreRowsOf}
use Rattle.lot_schedule.specs.Faults.{IsSlotBroken, IsSlotFault}
use Rattle.lot_schedule.specs.Texts.{schedule_text, slot_broken_text, slot_fault_text}
use Rattle.lot_schedule.specs.declared.slot.Slot.{Slot}
use Rattle.lot_schedule.specs.declared.broken.SlotBroken.{SlotBroken}
use Rattle.lot_schedule.specs.declared.fault.SlotFault.{SlotFault}
use Rattle.lot_schedule.specs.declared.fault.SlotFault.TheVariants as slot_fault
use Rattle.lotplan.specs.Extracting.{Extract, extract_meaning}
use Rattle.lotplan.specs.Judging.{AnyPlan, FindsNone, JudgeAnswer, JudgeCallsFor, JudgeExplains, OfFeasible, judge_line, judge_status}
use Rattle.lotplan.specs.Meaning.{Meaning, whole_meaning}
use Rattle.lotplan.specs.Reading.{ByFile, FileExplains, FilesStop, OfFile, ReadAnswer, read_line, read_meant, read_status}
use Rattle.lotplan.specs.Saying.{Answered, Gains, IsSaid, TellsAs}
use Rattle.lotplan.specs.declared.commands.schedcheck.SchedcheckAnswer.{SchedcheckAnswer as HeldAnswer}
use Rattle.lotplan.specs.declared.commands.schedcheck.SchedcheckAnswer.TheVariants as held
use Rattle.lotplan.specs.declared.said.Said.{Said}
use Rattle.lotplan.specs.declared.status.TheConstants.{DONE, FAULTY}
use Rattle.lotplan.specs.declared.status.Status.{Status}
use Rattle.lotplan.specs.declared.status.Status.TheVariants as status

-- ---- answers of `schedcheck`
pub data SchedcheckAnswer : Type 0 where
  -- the slots are a schedule of the plan
  accepted : SchedcheckAnswer
  -- the schedule file holds no slots
  no_slots : SlotFault → SchedcheckAnswer
  -- this is wrong first with its slots
  rejected : SlotBroken → SchedcheckAnswer
  -- the plan isn't feasible, or gave no bytes, or the model file gave no problem: what `judge` answers
  no_plan_for : JudgeAnswer → SchedcheckAnswer
  -- the schedule file gave no bytes
  no_input : ReadAnswer → SchedcheckAnswer

-- what the program's own answer stands for
abbrev pub schedcheck_meant : HeldAnswer → SchedcheckAnswer
schedcheck_meant held.Accepted = accepted
schedcheck_meant (held.NoSlots fault) = no_slots fault
schedcheck_meant (held.Rejected broken) = rejected broken
schedcheck_meant (held.NoInput why) = no_input (read_meant why)

abbrev pub schedcheck_status : SchedcheckAnswer → Status
schedcheck_status accepted = status.Done
schedcheck_status (no_slots fault) = status.Faulty
schedcheck_status (rejected broken) = status.Faulty
schedcheck_status (no_plan_for answer) = judge_status answer
schedcheck_status (no_input why) = read_status why

abbrev pub accepted_line : List ℕ
accepted_line = codes "accepted schedule\n"

abbrev pub schedcheck_line : SchedcheckAnswer → List ℕ
schedcheck_line accepted = accepted_line
schedcheck_line (no_slots fault) = slot_fault_text fault ++ codes "\n"
schedcheck_line (rejected broken) = slot_broken_text broken ++ codes "\n"
schedcheck_line (no_plan_for answer) = judge_line answer
schedcheck_line (no_input why) = read_line why

-- ---- causes of `schedule`
-- the schedule file's bytes are the text of this many slots and are read as these; they are a schedule of the plan, in order, and for each resource and period no schedule has a smaller sum of ends; of equal lengths the lesser item is first
pub record WritesSchedule (after : Files) (problem : Problem) (plan : Plan) (schedule_file : List ℕ) (count : ℕ) : Type 0 where
  pub slots : List Slot
  pub bytes : List ℕ
  pub written : after schedule_file ≡ Some bytes
  pub text : bytes ≡ schedule_text problem slots
  pub read : AreRowsOf problem (records_of bytes) slots
  pub schedule : IsSchedule problem plan slots
  pub order : IsInOrder slots
  pub least : HasLeastEnds problem plan slots
  pub ties : TiesAreByItem problem plan slots
  pub counted : count ≡ length slots

-- what `schedule` writes
abbrev pub Laid : List ℕ → Extract
Laid s after problem plan count = WritesSchedule after problem plan s count

abbrev pub scheduled_word : List ℕ
scheduled_word = codes "scheduled"

-- ---- causes of `schedcheck`
-- bytes hold slots that are a schedule of the plan
pub record AreSchedule (problem : Problem) (plan : Plan) (bytes : List ℕ) : Type 0 where
  pub slots : List Slot
  pub is : AreRowsOf problem (records_of bytes) slots
  pub schedule : IsSchedule problem plan slots

-- they hold slots that are none, for this reason first
pub record AreRejected (problem : Problem) (plan : Plan) (bytes : List ℕ) (broken : SlotBroken) : Type 0 where
  pub slots : List Slot
  pub is : AreRowsOf problem (records_of bytes) slots
  pub breaks : IsSlotBroken problem plan slots broken
  pub none : AreSchedule problem plan bytes → ⊥

-- they hold no slots, for this fault
pub record AreNoSlots (problem : Problem) (plan : Plan) (bytes : List ℕ) (fault : SlotFault) : Type 0 where
  pub cause : fault ≢ slot_fault.Memory
  pub is : IsSlotFault problem (records_of bytes) fault
  pub none : AreSchedule problem plan bytes → ⊥

-- what the bytes of a schedule file of a plan are, where it holds some
abbrev pub SlotBytesAre : Problem → Plan → SchedcheckAnswer → List ℕ → Type 0
SlotBytesAre problem plan accepted bytes = AreSchedule problem plan bytes
SlotBytesAre problem plan (no_slots fault) bytes = AreNoSlots problem plan bytes fault
SlotBytesAre problem plan (rejected broken) bytes = AreRejected problem plan bytes broken
SlotBytesAre problem plan (no_plan_for answer) bytes = ⊥
SlotBytesAre problem plan (no_input why) bytes = ⊥

-- what is said of such bytes is an answer that has its cause
abbrev pub SlotBytesSay : Problem → Plan → List ℕ → Said → Type 0
SlotBytesSay problem plan bytes said =
    (answer : SchedcheckAnswer) × SlotBytesAre problem plan answer bytes × IsSaid (schedcheck_line answer) (schedcheck_status answer) said

-- the schedule file holds bytes that are so
abbrev pub ScheduleFileIs : Files → List ℕ → SchedcheckAnswer → Problem → Plan → Type 0
ScheduleFileIs before s answer problem plan = OfFile before s (SlotBytesAre problem plan answer)

-- why the checking of a schedule file of a feasible plan ends in this answer
abbrev pub SlotFileExplains : Problem → Plan → List ℕ → Shelved → Shelved → SchedcheckAnswer → Type 0
SlotFileExplains problem plan s old new accepted = IsTrue old.told → ScheduleFileIs old.file s accepted problem plan
SlotFileExplains problem plan s old new (no_slots fault) = IsTrue old.told → ScheduleFileIs old.file s (no_slots fault) problem plan
SlotFileExplains problem plan s old new (rejected broken) = IsTrue old.told → ScheduleFileIs old.file s (rejected broken) problem plan
SlotFileExplains problem plan s old new (no_plan_for answer) = ⊥
SlotFileExplains problem plan s old new (no_input why) = FileExplains s old new why

-- why `schedcheck` of these files does
abbrev pub SchedcheckExplains : (model_file plan_file schedule_file : List ℕ) → Shelved → Shelved → SchedcheckAnswer → Type 0
SchedcheckExplains m p s old new accepted = IsTrue old.told → OfFeasible old.file m p (ScheduleFileIs old.file s accepted)
SchedcheckExplains m p s old new (no_slots fault) = IsTrue old.told → OfFeasible old.file m p (ScheduleFileIs old.file s (no_slots fault))
SchedcheckExplains m p s old new (rejected broken) = IsTrue old.told → OfFeasible old.file m p (ScheduleFileIs old.file s (rejected broken))
SchedcheckExplains m p s old new (no_plan_for answer) = FindsNone answer × JudgeExplains m p old new answer
SchedcheckExplains m p s old new (no_input why) = (IsTrue old.told → OfFeasible old.file m p AnyPlan) × FileExplains s old new why

-- what is said is an answer that has its cause
abbrev pub SlotFileSays : Problem → Plan → List ℕ → Shelved → Shelved → Said → Type 0
SlotFileSays problem plan s old new said =
    (answer : SchedcheckAnswer) × SlotFileExplains problem plan s old new answer × IsSaid (schedcheck_line answer) (schedcheck_status answer) said

-- what `schedcheck` of these files does: an answer that has its cause, and nothing is written
abbrev pub SchedcheckDoes : (model_file plan_file schedule_file : List ℕ) → Shelved → Shelved → List ℕ → Status → Type 0
SchedcheckDoes m p s old new = Answered SchedcheckAnswer (λ answer. SchedcheckExplains m p s old new answer × OnlyReads old new) schedcheck_line schedcheck_status

-- why the files of `schedcheck` gave nothing to go on with: the model or the plan file, as in `judge`, or the schedule file of a feasible plan
abbrev pub SchedcheckStops : (model_file plan_file schedule_file : List ℕ) → Shelved → Shelved → ReadAnswer → Type 0
SchedcheckStops m p s old new why = FilesStop m p old new why ⊎ ((IsTrue old.told → OfFeasible old.file m p AnyPlan) × FileExplains s old new why)

-- ---- the status that the files call for, faults and out of memory aside
-- for a schedule file of a feasible plan `DONE` exactly where it holds a schedule, and else `FAULTY`
abbrev pub SlotsCallFor : Problem → Plan → Option (List ℕ) → ℕ → Type 0
SlotsCallFor problem plan = ByFile (λ bytes status. (AreSchedule problem plan bytes × (status ≡ DONE)) ⊎ ((AreSchedule problem plan bytes → ⊥) × (status ≡ FAULTY)))

-- that of the schedule file where the plan is feasible, and else what `judge` calls for
abbrev pub SchedcheckCallsFor : Files → (model_file plan_file schedule_file : List ℕ) → ℕ → Type 0
SchedcheckCallsFor file m p s status =
    OfFeasible file m p (λ problem plan. SlotsCallFor problem plan (file s) status)
    ⊎ (JudgeCallsFor (file m) (file p) status × (status ≢ DONE))

-- bytes are a schedule of a plan, or they aren't
abbrev pub SchedulesAreDecided : Type 0
SchedulesAreDecided = (problem : Problem) → AreNamed problem → (plan : Plan) (bytes : List ℕ) → AreSchedule problem plan bytes ⊎ (AreSchedule problem plan bytes → ⊥)

-- ---- what each status says
-- after `schedcheck` with `DONE`: the plan file holds a feasible plan, the schedule file holds a schedule of it, and the line says so
pub record AcceptsSchedule (before : Files) (model_file plan_file schedule_file : List ℕ) (out_old out_new : Printed) : Type 0 where
  pub holds : OfFeasible before model_file plan_file (ScheduleFileIs before schedule_file accepted)
  pub line : Gains accepted_line out_old out_new

-- the plan file holds a feasible plan, the schedule file holds no slots, or slots that are no schedule of it, and the line names the first fault
abbrev pub FindsSlotsFault : Files → (model_file plan_file schedule_file : List ℕ) → Printed → Printed → Type 0
FindsSlotsFault before m p s = TellsAs status.Faulty SchedcheckAnswer schedcheck_status (λ answer. OfFeasible before m p (ScheduleFileIs before s answer)) schedcheck_line

-- ---- the commands
abbrev pub schedule_meaning : (model_file plan_file schedule_file : List ℕ) → Meaning
schedule_meaning m p s = extract_meaning (Laid s) scheduled_word m p s

abbrev pub schedcheck_meaning : (model_file plan_file schedule_file : List ℕ) → Meaning
schedcheck_meaning m p s = whole_meaning (SchedcheckDoes m p s) (m ∷ p ∷ s ∷ []) [] (SchedcheckStops m p s) (λ file. SchedcheckCallsFor file m p s)
