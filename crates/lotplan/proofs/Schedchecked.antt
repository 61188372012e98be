-- What `schedcheck` leaves, by its answer, and what its files call for.
use Rattle.std.proofs.Common.{◌≡◌, ◌≢◌, ◌⊎◌, ◌≤◌, ◌∙◌, ⊎_elim, ℕ, List, length, Option, Some, None, IsTrue, inl, inr, refl, sym, ap, subst, arith}
use Rattle.std.specs.Prelude.{Result, Ok, Err, IfOk}
use Rattle.std.specs.declared.alloc.AllocError.{AllocError}
use Rattle.std.proofs.lemmas.Bool.{cases_eq, cases_lt}
use Rattle.lot_io.specs.Outside.{Files, OnlyReads, Printed, Shelved}
use Rattle.lot_io.proofs.Frames.{reads_on}
use Rattle.lot_sizing.specs.Problem.{Problem}
use Rattle.lot_sizing.specs.Plan.{Plan}
use Rattle.plan_rules.specs.declared.plan.Plan.{Plan as Grids}
use Rattle.plan_rules.specs.Held.{plan_of}
use Rattle.plan_file.specs.Records.{IsPlanOf, Record, records_of}
use Rattle.lot_schedule.specs.Laws.{AreNamed, MeanOneThing, RecordsMeanOneThing, RecordsMeanSlots, SlotsAreJudged}
use Rattle.lot_schedule.specs.Faults.{IsSlotBroken, IsSlotFault}
use Rattle.lot_schedule.specs.Records.{AreRowsOf}
use Rattle.lot_schedule.specs.declared.slot.Slot.{Slot}
use Rattle.lot_schedule.specs.declared.broken.SlotBroken.{SlotBroken}
use Rattle.lot_schedule.specs.declared.fault.SlotFault.{SlotFault}
use Rattle.lot_schedule.specs.declared.fault.SlotFault.TheVariants.{Memory}
use Rattle.lot_schedule.specs.Slots.{IsSchedule}
use Rattle.lot_schedule.proofs.Readings.{rows_exist}
use Rattle.instance_reader.specs.Model.{BytesMean}
use Rattle.lotplan.specs.Meaning.{Says}
use Rattle.lotplan.specs.declared.said.Said.{Said}
use Rattle.lotplan.specs.Status.{code_of}
use Rattle.lotplan.specs.Reading.{FileExplains, ReadAnswer, refused, missing, unread, too_long, file_limit, read_line, read_status}
use Rattle.lotplan.specs.Judging.{AnyPlan, AreFeasible, FindsFault, FindsNone, HoldFeasible, HoldsBoth, JudgeAnswer, JudgeCallsFor, JudgeExplains, OfFeasible, PlanCallsFor, feasible, no_plan, broken as broken_rule, no_input as judge_no_input, judge_line, judge_status}
use Rattle.lotplan.specs.Scheduling.{AcceptsSchedule, AreSchedule, FindsSlotsFault, ScheduleFileIs, SchedcheckAnswer, SchedcheckCallsFor, SchedcheckExplains, SchedulesAreDecided, SlotBytesAre, SlotBytesSay, SlotFileExplains, SlotFileSays, SlotsCallFor, accepted, no_slots, rejected, no_plan_for, no_input, schedcheck_line, schedcheck_meaning, schedcheck_status}
use Rattle.lotplan.specs.Saying.{Gains, IsSaid}
use Rattle.lotplan.specs.Run.{HadNoFault}
use Rattle.lotplan.specs.declared.status.Status.{Status}
use Rattle.lotplan.specs.declared.status.TheConstants.{DONE, FAULTY, MISSING, NO_COMMAND, TOO_LONG}
use Rattle.lotplan.proofs.Calls.{AreLaws, Grounds, one_problem, same_plan}
use Rattle.lotplan.proofs.Certified.{meant}
use Rattle.lotplan.proofs.JudgeCalls.{judge_call, judge_some}
use Rattle.lotplan.proofs.Kept.{IsCommand, read_after}
use Rattle.lotplan.proofs.Outputs.{IsAnswerNumber, IsCommandNumber, answered, read_number}
use Rattle.lotplan.proofs.Readings.{IsReading, SomeStop, reading, stops_after}
use Rattle.lotplan.proofs.Writings.{told_before}
use Rattle.lotplan.proofs.Judged as judging

-- ---- from the slots to the bytes
-- bytes that are the rows of one list of slots are no schedule where that is none
pub says_rejected : (problem : Problem) (plan : Plan) (bytes : List ℕ) (slots : List Slot) (wrong : SlotBroken) (r : Result Said AllocError) → MeanOneThing problem (records_of bytes) → AreRowsOf problem (records_of bytes) slots → IsSlotBroken problem plan slots wrong → (IsSchedule problem plan slots → ⊥) → IfOk r (IsSaid (schedcheck_line (rejected wrong)) (schedcheck_status (rejected wrong))) → IfOk r (SlotBytesSay problem plan bytes)
says_rejected problem plan bytes slots wrong (Ok said) one is breaks none says = (rejected wrong, record { slots = slots; is = is; breaks = breaks; none = λ x. none (subst (IsSchedule problem plan) (one.one_list x.slots slots x.is is) x.schedule) }, says)
says_rejected problem plan bytes slots wrong (Err e) one is breaks none says = tt

-- nor are those that have a fault
pub says_no_slots : (problem : Problem) (plan : Plan) (bytes : List ℕ) (fault : SlotFault) (r : Result Said AllocError) → MeanOneThing problem (records_of bytes) → fault ≢ Memory → IsSlotFault problem (records_of bytes) fault → IfOk r (IsSaid (schedcheck_line (no_slots fault)) (schedcheck_status (no_slots fault))) → IfOk r (SlotBytesSay problem plan bytes)
says_no_slots problem plan bytes fault (Ok said) one cause is says = (no_slots fault, record { cause = cause; is = is; none = λ x. cause (one.list_or_fault x.slots fault x.is is) }, says)
says_no_slots problem plan bytes fault (Err e) one cause is says = tt

-- ---- from the bytes to the schedule file
pub says_bytes : (problem : Problem) (plan : Plan) (s bytes : List ℕ) (old new : Shelved) (r : Result Said AllocError) → (IsTrue old.told → old.file s ≡ Some bytes) → length bytes ≤ file_limit → IfOk r (SlotBytesSay problem plan bytes) → IfOk r (SlotFileSays problem plan s old new)
says_bytes problem plan s bytes old new (Ok said) read short (answer, x, says) = (answer, of answer x, says)
  where
    of : (a : SchedcheckAnswer) → SlotBytesAre problem plan a bytes → SlotFileExplains problem plan s old new a
    of accepted y = λ t. (bytes, read t, short, y)
    of (no_slots fault) y = λ t. (bytes, read t, short, y)
    of (rejected wrong) y = λ t. (bytes, read t, short, y)
    of (no_plan_for why) y = absurd y
    of (no_input why) y = absurd y
says_bytes problem plan s bytes old new (Err e) read short some = tt

pub says_unread : (problem : Problem) (plan : Plan) (s : List ℕ) (old new : Shelved) (why : ReadAnswer) (r : Result Said AllocError) → FileExplains s old new why → IfOk r (IsSaid (read_line why) (read_status why)) → IfOk r (SlotFileSays problem plan s old new)
says_unread problem plan s old new why (Ok said) x says = (no_input why, x, says)
says_unread problem plan s old new why (Err e) x says = tt

-- ---- and to the three files
module _ (m p s : List ℕ) where
  schedcheck_after : (problem : Problem) (grids : Grids) (amount : ℕ) (old mid new : Shelved) (answer : SchedcheckAnswer) → (IsTrue old.told → HoldsBoth old.file m p problem grids) → HoldFeasible problem grids amount → OnlyReads old mid → SlotFileExplains problem (plan_of grids) s mid new answer → SchedcheckExplains m p s old new answer
  schedcheck_after problem grids amount old mid new accepted holds f reads x = λ t. judging.of_feasible old.file m p problem grids amount (ScheduleFileIs old.file s accepted) (holds t) f (subst (λ (b : Files). ScheduleFileIs b s accepted problem (plan_of grids)) reads.files (x (told_before reads t)))
  schedcheck_after problem grids amount old mid new (no_slots fault) holds f reads x = λ t. judging.of_feasible old.file m p problem grids amount (ScheduleFileIs old.file s (no_slots fault)) (holds t) f (subst (λ (b : Files). ScheduleFileIs b s (no_slots fault) problem (plan_of grids)) reads.files (x (told_before reads t)))
  schedcheck_after problem grids amount old mid new (rejected wrong) holds f reads x = λ t. judging.of_feasible old.file m p problem grids amount (ScheduleFileIs old.file s (rejected wrong)) (holds t) f (subst (λ (b : Files). ScheduleFileIs b s (rejected wrong) problem (plan_of grids)) reads.files (x (told_before reads t)))
  schedcheck_after problem grids amount old mid new (no_plan_for answer) holds f reads x = absurd x
  schedcheck_after problem grids amount old mid new (no_input why) holds f reads x = (λ t. judging.of_feasible old.file m p problem grids amount AnyPlan (holds t) f tt, stops_after s old mid new why reads x)

  pub says_given : (problem : Problem) (grids : Grids) (amount : ℕ) (old mid new : Shelved) (r : Result Said AllocError) → (IsTrue old.told → HoldsBoth old.file m p problem grids) → HoldFeasible problem grids amount → OnlyReads old mid → OnlyReads mid new → IfOk r (SlotFileSays problem (plan_of grids) s mid new) → IfOk r (Says (schedcheck_meaning m p s) old new)
  says_given problem grids amount old mid new (Ok said) holds f reads more (answer, x, says) = answered SchedcheckAnswer (λ a. SchedcheckExplains m p s old new a × OnlyReads old new) schedcheck_line schedcheck_status answer said (schedcheck_after problem grids amount old mid new answer holds f reads x, reads_on reads more) says
  says_given problem grids amount old mid new (Err e) holds f reads more some = tt

  pub says_none : (old new : Shelved) (answer : JudgeAnswer) (r : Result Said AllocError) → FindsNone answer × JudgeExplains m p old new answer → OnlyReads old new → IfOk r (IsSaid (judge_line answer) (judge_status answer)) → IfOk r (Says (schedcheck_meaning m p s) old new)
  says_none old new answer (Ok said) x reads says = answered SchedcheckAnswer (λ a. SchedcheckExplains m p s old new a × OnlyReads old new) schedcheck_line schedcheck_status (no_plan_for answer) said (x, reads) says
  says_none old new answer (Err e) x reads says = tt

  -- ---- what each number says
  module _ (code : ℕ) (old new : Shelved) (out_old out_new : Printed) where
    pub accepts_at : (answer : SchedcheckAnswer) → SchedcheckExplains m p s old new answer → code ≡ code_of (schedcheck_status answer) → Gains (schedcheck_line answer) out_old out_new → code ≡ DONE → IsTrue old.told → AcceptsSchedule old.file m p s out_old out_new
    accepts_at accepted x is line none t = record { holds = x t; line = line }
    accepts_at (no_slots fault) x is line none t = absurd (omega (arith, is, none))
    accepts_at (rejected wrong) x is line none t = absurd (omega (arith, is, none))
    accepts_at (no_plan_for (feasible amount)) x is line none t = absurd x.0
    accepts_at (no_plan_for (no_plan fault)) x is line none t = absurd (omega (arith, is, none))
    accepts_at (no_plan_for (broken_rule rule)) x is line none t = absurd (omega (arith, is, none))
    accepts_at (no_plan_for (judge_no_input why)) x is line none t = absurd (omega (arith, (reading why code is).low, none))
    accepts_at (no_input why) x is line none t = absurd (omega (arith, (reading why code is).low, none))

    pub fault_at : (answer : SchedcheckAnswer) → SchedcheckExplains m p s old new answer → code ≡ code_of (schedcheck_status answer) → Gains (schedcheck_line answer) out_old out_new → code ≡ FAULTY → IsTrue old.told → FindsFault old.file m p out_old out_new ⊎ FindsSlotsFault old.file m p s out_old out_new
    fault_at accepted x is line three t = absurd (omega (arith, is, three))
    fault_at (no_slots fault) x is line three t = inr (record { answer = no_slots fault; ends = refl; holds = x t; line = line })
    fault_at (rejected wrong) x is line three t = inr (record { answer = rejected wrong; ends = refl; holds = x t; line = line })
    fault_at (no_plan_for answer) x is line three t = inl (judging.fault_at m p code old new out_old out_new answer x.1 is line three t)
    fault_at (no_input why) x is line three t = absurd (omega (arith, (reading why code is).low, three))

  -- ---- what the files call for
  module _ (code : ℕ) (old new : Shelved) (out_old out_new : Printed) (fine : HadNoFault old new out_old out_new) (t : IsTrue old.told) where
    by_slots : (P : Problem → Plan → Type 0) → ((problem : Problem) (plan : Plan) → P problem plan → SlotsCallFor problem plan (old.file s) code) → OfFeasible old.file m p P → SchedcheckCallsFor old.file m p s code
    by_slots P calls (problem, holds, f) = inl (problem, holds, (f.0, f.1, f.2, record { plan = f.3.plan; is = f.3.is; feasible = f.3.feasible; holds = calls problem f.3.plan f.3.holds }))

    by_bytes : (problem : Problem) (plan : Plan) (bytes : List ℕ) → old.file s ≡ Some bytes → SlotsCallFor problem plan (Some bytes) code → SlotsCallFor problem plan (old.file s) code
    by_bytes problem plan bytes is calls = subst (λ f. SlotsCallFor problem plan f code) (sym is) calls

    -- what `judge` calls for where there is no feasible plan isn't `DONE`
    not_done : (answer : JudgeAnswer) → FindsNone answer → code ≡ code_of (judge_status answer) → code ≢ DONE
    not_done (feasible amount) none is = absurd none
    not_done (no_plan fault) none is = λ e. omega (arith, is, e)
    not_done (broken_rule rule) none is = λ e. omega (arith, is, e)
    not_done (judge_no_input why) none is = λ e. omega (arith, (reading why code is).low, e)

    slots_called : (problem : Problem) (plan : Plan) (why : ReadAnswer) → FileExplains s old new why → code ≡ code_of (read_status why) → SlotsCallFor problem plan (old.file s) code
    slots_called problem plan (refused fault) x is = absurd x
    slots_called problem plan (missing file) x is = subst (λ f. SlotsCallFor problem plan f code) (sym (x.2 t)) is
    slots_called problem plan (unread file) x is = absurd (fine.read x.1)
    slots_called problem plan (too_long file) x is = let h = x.2 t in by_bytes problem plan h.bytes h.read (inl (h.long, is))

    called_at : (answer : SchedcheckAnswer) → SchedcheckExplains m p s old new answer → code ≡ code_of (schedcheck_status answer) → SchedcheckCallsFor old.file m p s code
    called_at accepted x is = by_slots (ScheduleFileIs old.file s accepted) (λ problem plan h. by_bytes problem plan h.0 h.1 (inr (h.2, inl (h.3, is)))) (x t)
    called_at (no_slots fault) x is = by_slots (ScheduleFileIs old.file s (no_slots fault)) (λ problem plan h. by_bytes problem plan h.0 h.1 (inr (h.2, inr (h.3.none, is)))) (x t)
    called_at (rejected wrong) x is = by_slots (ScheduleFileIs old.file s (rejected wrong)) (λ problem plan h. by_bytes problem plan h.0 h.1 (inr (h.2, inr (h.3.none, is)))) (x t)
    called_at (no_plan_for answer) x is = inr (judging.called_at m p code old new out_old out_new fine t answer x.1 is, not_done answer x.0 is)
    called_at (no_input why) x is = by_slots AnyPlan (λ problem plan h. slots_called problem plan why x.1 is) (x.0 t)

  -- ---- files that give nothing to go on with, and the number of an answer
  stop_at : (old new : Shelved) (line : List ℕ) (status : Status) (answer : SchedcheckAnswer) → SchedcheckExplains m p s old new answer → line ≡ schedcheck_line answer → status ≡ schedcheck_status answer → IsReading (code_of status) → SomeStop (schedcheck_meaning m p s) old new line status
  stop_at old new line status accepted x says ends r = absurd (omega (arith, ap code_of ends, r.low))
  stop_at old new line status (no_slots fault) x says ends r = absurd (omega (arith, ap code_of ends, r.low))
  stop_at old new line status (rejected wrong) x says ends r = absurd (omega (arith, ap code_of ends, r.low))
  stop_at old new line status (no_plan_for answer) x says ends r = judging.stop_at (schedcheck_meaning m p s) m p old new line status (λ why y. inl y) answer x.1 says ends r
  stop_at old new line status (no_input why) x says ends r = record { why = why; cause = inr x; says = says; ends = ends }

answer_number : (answer : SchedcheckAnswer) → IsCommandNumber (code_of (schedcheck_status answer))
answer_number accepted = record { answers = record { unprinted = λ e. omega (arith, e); no_memory = λ e. omega (arith, e) }; command = λ e. omega (arith, e) }
answer_number (no_slots fault) = record { answers = record { unprinted = λ e. omega (arith, e); no_memory = λ e. omega (arith, e) }; command = λ e. omega (arith, e) }
answer_number (rejected wrong) = record { answers = record { unprinted = λ e. omega (arith, e); no_memory = λ e. omega (arith, e) }; command = λ e. omega (arith, e) }
answer_number (no_plan_for answer) = judging.answer_number answer
answer_number (no_input why) = read_number why

-- ---- they call for one status
-- of two plans that bytes mean, slots are a schedule of both or of none
same_schedule : AreLaws → (problem : Problem) (bytes text : List ℕ) (a b : Plan) → IsPlanOf problem (records_of bytes) a → IsPlanOf problem (records_of bytes) b → AreSchedule problem a text → AreSchedule problem b text
same_schedule laws problem bytes text a b is_a is_b x =
    let same = same_plan problem bytes a b is_a is_b in
    record { slots = x.slots; is = x.is; schedule = laws.schedules problem a b x.slots (record { make = same.make; setup = same.setup }) x.schedule }

slots_one : AreLaws → (problem : Problem) (bytes : List ℕ) (a b : Plan) → IsPlanOf problem (records_of bytes) a → IsPlanOf problem (records_of bytes) b → (file : Option (List ℕ)) (u v : ℕ) → SlotsCallFor problem a file u → SlotsCallFor problem b file v → u ≡ v
slots_one laws problem bytes a b is_a is_b None u v x y = x ∙ sym y
slots_one laws problem bytes a b is_a is_b (Some text) u v x y = ⊎_elim
    (λ c. ⊎_elim (λ d. c.1 ∙ sym d.1) (λ d. absurd (omega (arith, c.0, d.0))) y)
    (λ c. ⊎_elim (λ d. absurd (omega (arith, c.0, d.0))) (λ d. both c.1 d.1) y)
    x
  where
    both : ((AreSchedule problem a text × (u ≡ DONE)) ⊎ ((AreSchedule problem a text → ⊥) × (u ≡ FAULTY))) → ((AreSchedule problem b text × (v ≡ DONE)) ⊎ ((AreSchedule problem b text → ⊥) × (v ≡ FAULTY))) → u ≡ v
    both c d = ⊎_elim
        (λ e. ⊎_elim (λ f. e.1 ∙ sym f.1) (λ f. absurd (f.0 (same_schedule laws problem bytes text a b is_a is_b e.0))) d)
        (λ e. ⊎_elim (λ f. absurd (e.0 (same_schedule laws problem bytes text b a is_b is_a f.0))) (λ f. e.1 ∙ sym f.1) d)
        c

pub same_bytes : (a b : List ℕ) → Some a ≡ Some b → a ≡ b
same_bytes a b same = cc same

both_feasible : AreLaws → (file : Files) (m p s : List ℕ) (u v : ℕ) → OfFeasible file m p (λ problem plan. SlotsCallFor problem plan (file s) u) → OfFeasible file m p (λ problem plan. SlotsCallFor problem plan (file s) v) → u ≡ v
both_feasible laws file m p s u v (a, h, f) (b, k, g) =
    let model = same_bytes h.bytes k.bytes (sym h.read ∙ k.read) in
    let plans = same_bytes f.0 g.0 (sym f.1 ∙ g.1) in
    let same = one_problem h.bytes a b h.means (subst (λ w. BytesMean w (Ok b)) (sym model) k.means) in
    let is_b = subst (λ q. IsPlanOf q (records_of f.0) g.3.plan) (sym same) (subst (λ w. IsPlanOf b (records_of w) g.3.plan) (sym plans) g.3.is) in
    slots_one laws a f.0 f.3.plan g.3.plan f.3.is is_b (file s) u v f.3.holds (subst (λ q. SlotsCallFor q g.3.plan (file s) v) (sym same) g.3.holds)

-- a feasible plan calls for `DONE` of `judge`
is_done : (file : Files) (m p : List ℕ) (P : Problem → Plan → Type 0) → OfFeasible file m p P → JudgeCallsFor (file m) (file p) DONE
is_done file m p P x = judging.feasible_calls file m p P x

schedcheck_call : AreLaws → (file : Files) (m p s : List ℕ) (u v : ℕ) → SchedcheckCallsFor file m p s u → SchedcheckCallsFor file m p s v → u ≡ v
schedcheck_call laws file m p s u v a b = ⊎_elim
    (λ x. ⊎_elim
    (λ y. both_feasible laws file m p s u v x y)
    (λ y. absurd (y.1 (judge_call (file m) (file p) v DONE y.0 (is_done file m p (λ problem plan. SlotsCallFor problem plan (file s) u) x))))
    b)
    (λ x. ⊎_elim
    (λ y. absurd (x.1 (judge_call (file m) (file p) u DONE x.0 (is_done file m p (λ problem plan. SlotsCallFor problem plan (file s) v) y))))
    (λ y. judge_call (file m) (file p) u v x.0 y.0)
    b)
    a

-- ---- and for some
-- records are the rows of slots, which are a schedule or aren't, or they are no rows
pub decided : RecordsMeanOneThing → RecordsMeanSlots → SlotsAreJudged → SchedulesAreDecided
decided one slots judged problem named plan bytes = ⊎_elim
    (λ read. ⊎_elim
    (λ yes. inl (record { slots = read.0; is = read.1; schedule = yes }))
    (λ no. inr (λ s. no.0 (subst (IsSchedule problem plan) ((one problem rs named).one_list s.slots read.0 s.is read.1) s.schedule)))
    (judged problem plan read.0 (rows_exist problem rs read.0 read.1)))
    (λ fault. inr (λ s. fault.1 ((one problem rs named).list_or_fault s.slots fault.0 s.is fault.2)))
    (slots problem rs)
  where
    rs : List Record
    rs = records_of bytes

slots_some : Grounds → (problem : Problem) → AreNamed problem → (plan : Plan) (file : Option (List ℕ)) → (status : ℕ) × SlotsCallFor problem plan file status
slots_some by problem named plan None = (MISSING, refl)
slots_some by problem named plan (Some bytes) = ⊎_elim
    (λ long. (TOO_LONG, inl (long, refl)))
    (λ short. ⊎_elim (λ yes. (DONE, inr (short, inl (yes, refl)))) (λ no. (FAULTY, inr (short, inr (no, refl)))) (by.schedules problem named plan bytes))
    (cases_lt file_limit (length bytes))

-- a plan that `judge` calls `DONE` for is feasible
pub plan_done : (problem : Problem) (found : Option (List ℕ)) → PlanCallsFor problem found DONE → (bytes : List ℕ) × (found ≡ Some bytes) × (length bytes ≤ file_limit) × (amount : ℕ) × AreFeasible problem bytes amount
plan_done problem None calls = absurd (omega (arith, calls))
plan_done problem (Some bytes) calls = ⊎_elim
    (λ long. absurd (omega (arith, long.1)))
    (λ short. ⊎_elim
    (λ yes. (bytes, refl, short.0, yes.0, yes.1))
    (λ no. absurd (⊎_elim (λ b. omega (arith, b.2)) (λ b. omega (arith, b.2)) no))
    short.1)
    calls

pub model_done : (found plan : Option (List ℕ)) → JudgeCallsFor found plan DONE → (bytes : List ℕ) × (found ≡ Some bytes) × (length bytes ≤ file_limit) × (problem : Problem) × BytesMean bytes (Ok problem) × PlanCallsFor problem plan DONE
model_done None plan calls = absurd (omega (arith, calls))
model_done (Some bytes) plan calls = ⊎_elim
    (λ long. absurd (omega (arith, long.1)))
    (λ short. ⊎_elim (λ no. absurd (omega (arith, no.2))) (λ yes. (bytes, refl, short.0, yes.0, yes.1, yes.2)) short.1)
    calls

is_named : Grounds → (bytes : List ℕ) (problem : Problem) → BytesMean bytes (Ok problem) → AreNamed problem
is_named by bytes problem means =
    let known = meant by.totals by.weights bytes problem means in
    record { limits = known.limits; names = known.names; resource_names = known.resource_names }

schedcheck_some : Grounds → (file : Files) (m p s : List ℕ) → (status : ℕ) × SchedcheckCallsFor file m p s status
schedcheck_some by file m p s =
    let (status, calls) = judge_some by (file m) (file p) in
    of status calls (cases_eq status DONE)
  where
    feasible_some : JudgeCallsFor (file m) (file p) DONE → (status : ℕ) × SchedcheckCallsFor file m p s status
    feasible_some calls =
        let (bytes, read, short, problem, means, plans) = model_done (file m) (file p) calls in
        let (text, there, few, amount, f) = plan_done problem (file p) plans in
        let some = slots_some by problem (is_named by bytes problem means) f.plan (file s) in
        (some.0, inl (problem, record { bytes = bytes; read = read; short = short; means = means }, (text, there, few, record { plan = f.plan; is = f.is; feasible = f.feasible; holds = some.1 })))

    of : (status : ℕ) → JudgeCallsFor (file m) (file p) status → (status ≡ DONE) ⊎ (status ≡ DONE → ⊥) → (other : ℕ) × SchedcheckCallsFor file m p s other
    of status calls (inl is) = feasible_some (subst (JudgeCallsFor (file m) (file p)) is calls)
    of status calls (inr not) = (status, inr (calls, not))

-- ---- the command
pub schedcheck_kept : (m p s : List ℕ) → IsCommand (schedcheck_meaning m p s)
schedcheck_kept m p s = record {
  kept = record {
    after = λ old new line status d. read_after (schedcheck_meaning m p s) old new line status refl (λ e. absurd (cc e)) d.why.1
        (subst (λ e. IsAnswerNumber (code_of e)) (sym d.ends) (answer_number d.answer).answers)
        (λ r. stop_at m p s old new line status d.answer d.why.0 d.says d.ends r)
        (λ out_old out_new fine t. called_at m p s (code_of status) old new out_old out_new fine t d.answer d.why.0 (ap code_of d.ends));
    one = λ laws file u v a b. inl (schedcheck_call laws file m p s u v a b);
    some = λ by file. schedcheck_some by file m p s;
  };
  command = λ old new line status d. subst (λ e. code_of e ≢ NO_COMMAND) (sym d.ends) (answer_number d.answer).command;
}
