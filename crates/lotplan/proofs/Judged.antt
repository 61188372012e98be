-- What `judge` leaves, by its answer.
use Rattle.std.proofs.Common.{◌≡◌, ◌≢◌, ⊎_elim, ℕ, List, Option, Some, IsTrue, inl, inr, refl, sym, ap, subst}
use Rattle.std.proofs.Common.{arith}
use Rattle.std.specs.Prelude.{Result, Ok, Err, IfOk}
use Rattle.std.specs.declared.alloc.AllocError.{AllocError}
use Rattle.lot_io.specs.Outside.{Files, OnlyReads, Printed, Shelved}
use Rattle.lot_sizing.specs.Problem.{Problem}
use Rattle.lot_sizing.specs.Plan.{IsFeasible, Plan, cost}
use Rattle.plan_rules.specs.Broken.{IsBroken}
use Rattle.plan_rules.specs.declared.broken.Broken.{Broken}
use Rattle.lotplan.specs.declared.commands.judge.NotFeasible.{NotFeasible}
use Rattle.lotplan.specs.declared.commands.judge.NotFeasible.TheVariants.{Judged, Memory}
use Rattle.lotplan.specs.declared.said.Said.{Said}
use Rattle.lotplan.specs.Meaning.{Meaning, Says}
use Rattle.lotplan.specs.Status.{code_of}
use Rattle.plan_rules.specs.declared.plan.Plan.{Plan as Grids}
use Rattle.plan_rules.specs.Held.{plan_of}
use Rattle.lotplan.specs.Reading.{FilesStop, HoldsPlan, FileExplains, HoldsProblem, ModelExplains, OfFile, ReadAnswer, refused, missing, unread, too_long, read_status}
use Rattle.lotplan.specs.Judging.{JudgeAnswer, feasible, no_plan, broken, no_input, judge_line, judge_status, BytesAre, FindsFault, ExplainsNone, FindsFeasible, OfFeasible, HoldFeasible, HoldsBoth, JudgeCallsFor, JudgeExplains, PlanCallsFor, PlanFileExplains, judge_meaning, judge_meant}
use Rattle.lotplan.specs.Saying.{Gains, IsSaid}
use Rattle.lotplan.specs.Run.{HadNoFault}
use Rattle.lotplan.specs.declared.status.Status.{Status}
use Rattle.lotplan.specs.declared.status.TheConstants.{DONE, FAULTY, NO_COMMAND}
use Rattle.lotplan.proofs.JudgeCalls.{judge_some}
use Rattle.lotplan.proofs.JudgeCalls.{judge_call as judge_call_one}
use Rattle.lotplan.proofs.Kept.{IsCommand, read_after}
use Rattle.lotplan.proofs.Outputs.{IsAnswerNumber, IsCommandNumber, answered, read_number}
use Rattle.lotplan.proofs.Readings.{IsReading, SomeStop, reading, stops_after}

-- ---- from the plan to the plan file
pub broken_in_file : (problem : Problem) (p : List ℕ) (old new : Shelved) (given : Grids) (rule : Broken) → (IsTrue old.told → HoldsPlan old.file p problem given) → (IsFeasible problem (plan_of given) → ⊥) → IsBroken problem (plan_of given) rule → PlanFileExplains problem p old new (broken rule)
broken_in_file problem p old new given rule holds not breaks = λ t. let h = holds t in (h.bytes, h.read, h.short, record { plan = plan_of given; is = h.is; infeasible = not; breaks = breaks })

-- ---- and to both files
pub judge_after : (m p : List ℕ) (problem : Problem) (old mid new : Shelved) (answer : JudgeAnswer) → (IsTrue old.told → HoldsProblem old.file m problem) → OnlyReads old mid → PlanFileExplains problem p mid new answer → JudgeExplains m p old new answer
judge_after m p problem old mid new (feasible amount) holds reads x = λ t. (problem, holds t, subst (λ (f : Files). OfFile f p (BytesAre problem (feasible amount))) reads.files (x (subst IsTrue (sym reads.told) t)))
judge_after m p problem old mid new (no_plan fault) holds reads x = λ t. (problem, holds t, subst (λ (f : Files). OfFile f p (BytesAre problem (no_plan fault))) reads.files (x (subst IsTrue (sym reads.told) t)))
judge_after m p problem old mid new (broken rule) holds reads x = λ t. (problem, holds t, subst (λ (f : Files). OfFile f p (BytesAre problem (broken rule))) reads.files (x (subst IsTrue (sym reads.told) t)))
judge_after m p problem old mid new (no_input why) holds reads x = inr (problem, holds, stops_after p old mid new why reads x)

pub none_after : (m p : List ℕ) (problem : Problem) (old mid new : Shelved) (none : NotFeasible) → (IsTrue old.told → HoldsProblem old.file m problem) → OnlyReads old mid → ExplainsNone (PlanFileExplains problem p mid new) none → ExplainsNone (JudgeExplains m p old new) none
none_after m p problem old mid new (Judged answer) holds reads x = (x.0, judge_after m p problem old mid new (judge_meant answer) holds reads x.1)
none_after m p problem old mid new Memory holds reads x = tt

pub feasible_in_files : (m p : List ℕ) (problem : Problem) (grids : Grids) (amount : ℕ) (old new : Shelved) → (IsTrue old.told → HoldsBoth old.file m p problem grids) → HoldFeasible problem grids amount → JudgeExplains m p old new (feasible amount)
feasible_in_files m p problem grids amount old new holds f = λ t.
    let h = holds t in
    (problem, h.model, (h.plan.bytes, h.plan.read, h.plan.short, record { plan = plan_of grids; is = h.plan.is; feasible = f.feasible; holds = sym f.costs }))

pub of_feasible : (before : Files) (m p : List ℕ) (problem : Problem) (grids : Grids) (amount : ℕ) (P : Problem → Plan → Type 0) → HoldsBoth before m p problem grids → HoldFeasible problem grids amount → P problem (plan_of grids) → OfFeasible before m p P
of_feasible before m p problem grids amount P h f holds = (problem, h.model, (h.plan.bytes, h.plan.read, h.plan.short, record { plan = plan_of grids; is = h.plan.is; feasible = f.feasible; holds = holds }))

pub says_judged : (m p : List ℕ) (old new : Shelved) (answer : JudgeAnswer) (r : Result Said AllocError) → JudgeExplains m p old new answer → OnlyReads old new → IfOk r (IsSaid (judge_line answer) (judge_status answer)) → IfOk r (Says (judge_meaning m p) old new)
says_judged m p old new answer (Ok said) x reads says = answered JudgeAnswer (λ a. JudgeExplains m p old new a × OnlyReads old new) judge_line judge_status answer said (x, reads) says
says_judged m p old new answer (Err e) x reads says = tt

-- ---- what each number says
pub feasible_at : (m p : List ℕ) (code : ℕ) (old new : Shelved) (out_old out_new : Printed) (answer : JudgeAnswer) → JudgeExplains m p old new answer → code ≡ code_of (judge_status answer) → Gains (judge_line answer) out_old out_new → code ≡ DONE → IsTrue old.told → FindsFeasible old.file m p out_old out_new
feasible_at m p code old new out_old out_new (feasible amount) x is line none t = record { what = amount; holds = x t; line = line }
feasible_at m p code old new out_old out_new (no_plan fault) x is line none t = absurd (omega (arith, is, none))
feasible_at m p code old new out_old out_new (broken rule) x is line none t = absurd (omega (arith, is, none))
feasible_at m p code old new out_old out_new (no_input why) x is line none t = absurd (omega (arith, (reading why code is).low, none))

pub fault_at : (m p : List ℕ) (code : ℕ) (old new : Shelved) (out_old out_new : Printed) (answer : JudgeAnswer) → JudgeExplains m p old new answer → code ≡ code_of (judge_status answer) → Gains (judge_line answer) out_old out_new → code ≡ FAULTY → IsTrue old.told → FindsFault old.file m p out_old out_new
fault_at m p code old new out_old out_new (feasible amount) x is line three t = absurd (omega (arith, is, three))
fault_at m p code old new out_old out_new (no_plan fault) x is line three t = record { answer = no_plan fault; ends = refl; holds = x t; line = line }
fault_at m p code old new out_old out_new (broken rule) x is line three t = record { answer = broken rule; ends = refl; holds = x t; line = line }
fault_at m p code old new out_old out_new (no_input why) x is line three t = absurd (omega (arith, (reading why code is).low, three))

-- ---- what the two files call for
judge_call : (found plan : Option (List ℕ)) (bytes : List ℕ) (code : ℕ) → found ≡ Some bytes → JudgeCallsFor (Some bytes) plan code → JudgeCallsFor found plan code
judge_call found plan bytes code same calls = subst (λ f. JudgeCallsFor f plan code) (sym same) calls

pub plan_call : (problem : Problem) (found : Option (List ℕ)) (bytes : List ℕ) (code : ℕ) → found ≡ Some bytes → PlanCallsFor problem (Some bytes) code → PlanCallsFor problem found code
plan_call problem found bytes code same calls = subst (λ f. PlanCallsFor problem f code) (sym same) calls

-- by the plan file, once the model means a problem
pub by_plan : (m p : List ℕ) (code : ℕ) (old : Shelved) (problem : Problem) → HoldsProblem old.file m problem → PlanCallsFor problem (old.file p) code → JudgeCallsFor (old.file m) (old.file p) code
by_plan m p code old problem holds calls = judge_call (old.file m) (old.file p) holds.bytes code holds.read (inr (holds.short, inr (problem, holds.means, calls)))

model_called : (m p : List ℕ) (code : ℕ) (old new : Shelved) (out_old out_new : Printed) → HadNoFault old new out_old out_new → IsTrue old.told → (why : ReadAnswer) → ModelExplains m old new why → code ≡ code_of (read_status why) → JudgeCallsFor (old.file m) (old.file p) code
model_called m p code old new out_old out_new fine t (refused fault) x is = let h = x t in judge_call (old.file m) (old.file p) h.bytes code h.read (inr (h.short, inl (fault, h.means, is)))
model_called m p code old new out_old out_new fine t (missing file) x is = subst (λ f. JudgeCallsFor f (old.file p) code) (sym (x.2 t)) is
model_called m p code old new out_old out_new fine t (unread file) x is = absurd (fine.read x.1)
model_called m p code old new out_old out_new fine t (too_long file) x is = let h = x.2 t in judge_call (old.file m) (old.file p) h.bytes code h.read (inl (h.long, is))

plan_called : (p : List ℕ) (code : ℕ) (problem : Problem) (old new : Shelved) (out_old out_new : Printed) → HadNoFault old new out_old out_new → IsTrue old.told → (why : ReadAnswer) → FileExplains p old new why → code ≡ code_of (read_status why) → PlanCallsFor problem (old.file p) code
plan_called p code problem old new out_old out_new fine t (refused fault) x is = absurd x
plan_called p code problem old new out_old out_new fine t (missing file) x is = subst (λ f. PlanCallsFor problem f code) (sym (x.2 t)) is
plan_called p code problem old new out_old out_new fine t (unread file) x is = absurd (fine.read x.1)
plan_called p code problem old new out_old out_new fine t (too_long file) x is = let h = x.2 t in plan_call problem (old.file p) h.bytes code h.read (inl (h.long, is))

pub called_at : (m p : List ℕ) (code : ℕ) (old new : Shelved) (out_old out_new : Printed) → HadNoFault old new out_old out_new → IsTrue old.told → (answer : JudgeAnswer) → JudgeExplains m p old new answer → code ≡ code_of (judge_status answer) → JudgeCallsFor (old.file m) (old.file p) code
called_at m p code old new out_old out_new fine t (feasible amount) x is = let f = x t in by_plan m p code old f.0 f.1 (plan_call f.0 (old.file p) f.2.0 code f.2.1 (inr (f.2.2, inl (amount, f.2.3, is))))
called_at m p code old new out_old out_new fine t (no_plan fault) x is = let f = x t in by_plan m p code old f.0 f.1 (plan_call f.0 (old.file p) f.2.0 code f.2.1 (inr (f.2.2, inr (inr (fault, f.2.3, is)))))
called_at m p code old new out_old out_new fine t (broken rule) x is = let f = x t in by_plan m p code old f.0 f.1 (plan_call f.0 (old.file p) f.2.0 code f.2.1 (inr (f.2.2, inr (inl (rule, f.2.3, is)))))
called_at m p code old new out_old out_new fine t (no_input why) x is =
    ⊎_elim
    (λ model. model_called m p code old new out_old out_new fine t why model is)
    (λ plan. by_plan m p code old plan.0 (plan.1 t) (plan_called p code plan.0 old new out_old out_new fine t why plan.2 is))
    x

-- a feasible plan calls for `DONE`
pub feasible_calls : (file : Files) (m p : List ℕ) (P : Problem → Plan → Type 0) → OfFeasible file m p P → JudgeCallsFor (file m) (file p) DONE
feasible_calls file m p P (problem, holds, f) =
    let are = f.3 in
    let plan = plan_call problem (file p) f.0 DONE f.1 (inr (f.2, inl (cost problem are.plan, record { plan = are.plan; is = are.is; feasible = are.feasible; holds = refl }, refl))) in
    judge_call (file m) (file p) holds.bytes DONE holds.read (inr (holds.short, inr (problem, holds.means, plan)))

pub feasible_called : (m p : List ℕ) (code : ℕ) (old : Shelved) (P : Problem → Plan → Type 0) → OfFeasible old.file m p P → code ≡ DONE → JudgeCallsFor (old.file m) (old.file p) code
feasible_called m p code old P x is = subst (JudgeCallsFor (old.file m) (old.file p)) (sym is) (feasible_calls old.file m p P x)

-- ---- files that give nothing to go on with, and the number of an answer
pub stop_at : (means : Meaning) (m p : List ℕ) (old new : Shelved) (line : List ℕ) (status : Status) → ((why : ReadAnswer) → FilesStop m p old new why → means.stops old new why) → (answer : JudgeAnswer) → JudgeExplains m p old new answer → line ≡ judge_line answer → status ≡ judge_status answer → IsReading (code_of status) → SomeStop means old new line status
stop_at means m p old new line status stops (feasible amount) x says ends r = absurd (omega (arith, ap code_of ends, r.low))
stop_at means m p old new line status stops (no_plan fault) x says ends r = absurd (omega (arith, ap code_of ends, r.low))
stop_at means m p old new line status stops (broken rule) x says ends r = absurd (omega (arith, ap code_of ends, r.low))
stop_at means m p old new line status stops (no_input why) x says ends r = record { why = why; cause = stops why x; says = says; ends = ends }

pub answer_number : (answer : JudgeAnswer) → IsCommandNumber (code_of (judge_status answer))
answer_number (feasible amount) = record { answers = record { unprinted = λ e. omega (arith, e); no_memory = λ e. omega (arith, e) }; command = λ e. omega (arith, e) }
answer_number (no_plan fault) = record { answers = record { unprinted = λ e. omega (arith, e); no_memory = λ e. omega (arith, e) }; command = λ e. omega (arith, e) }
answer_number (broken rule) = record { answers = record { unprinted = λ e. omega (arith, e); no_memory = λ e. omega (arith, e) }; command = λ e. omega (arith, e) }
answer_number (no_input why) = read_number why

-- ---- the command
pub judge_kept : (m p : List ℕ) → IsCommand (judge_meaning m p)
judge_kept m p = record {
  kept = record {
    after = λ old new line status d. read_after (judge_meaning m p) old new line status refl (λ e. absurd (cc e)) d.why.1
        (subst (λ s. IsAnswerNumber (code_of s)) (sym d.ends) (answer_number d.answer).answers)
        (λ r. stop_at (judge_meaning m p) m p old new line status (λ why x. x) d.answer d.why.0 d.says d.ends r)
        (λ out_old out_new fine t. called_at m p (code_of status) old new out_old out_new fine t d.answer d.why.0 (ap code_of d.ends));
    one = λ laws file s t a b. inl (judge_call_one (file m) (file p) s t a b);
    some = λ by file. judge_some by (file m) (file p);
  };
  command = λ old new line status d. subst (λ s. code_of s ≢ NO_COMMAND) (sym d.ends) (answer_number d.answer).command;
}
