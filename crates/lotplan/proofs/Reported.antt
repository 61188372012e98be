-- What `report` leaves, by its answer.
use Rattle.std.proofs.Common.{◌≡◌, ◌≢◌, ℕ, List, IsTrue, inl, refl, sym, ap, subst, arith}
use Rattle.std.specs.Prelude.{Result, Ok, Err, IfOk}
use Rattle.std.specs.declared.alloc.AllocError.{AllocError}
use Rattle.lot_io.specs.Outside.{OnlyReads, Printed, Shelved}
use Rattle.lot_sizing.specs.Problem.{Problem}
use Rattle.plan_rules.specs.declared.plan.Plan.{Plan as Grids}
use Rattle.plan_rules.specs.Held.{plan_of}
use Rattle.command_line.specs.declared.commands.ReportForm.{ReportForm}
use Rattle.lotplan.specs.Meaning.{Says}
use Rattle.lotplan.specs.declared.said.Said.{Said}
use Rattle.lotplan.specs.Status.{code_of}
use Rattle.lotplan.specs.Judging.{FindsFault, FindsNone, HoldFeasible, HoldsBoth, JudgeAnswer, JudgeCallsFor, JudgeExplains, feasible, no_plan, broken, no_input, judge_line, judge_status}
use Rattle.lotplan.specs.Reporting.{IsReport, ReportAnswer, ReportExplains, SumsUp, judged, summed, report_line, report_meaning, report_status, report_text}
use Rattle.lotplan.specs.Saying.{Gains, IsSaid}
use Rattle.lotplan.specs.Run.{HadNoFault}
use Rattle.lotplan.specs.declared.status.Status.{Status}
use Rattle.lotplan.specs.declared.status.Status.TheVariants.{Done}
use Rattle.lotplan.specs.declared.status.TheConstants.{DONE, FAULTY, NO_COMMAND}
use Rattle.lotplan.proofs.JudgeCalls.{judge_call, judge_some}
use Rattle.lotplan.proofs.Kept.{IsCommand, read_after}
use Rattle.lotplan.proofs.Outputs.{IsAnswerNumber, IsCommandNumber, answered}
use Rattle.lotplan.proofs.Readings.{IsReading, SomeStop, reading}
use Rattle.lotplan.proofs.Judged as judging

-- ---- what is said
pub says_summed : (m p : List ℕ) (form : ReportForm) (problem : Problem) (grids : Grids) (amount : ℕ) (old new : Shelved) (r : Result Said AllocError) → (IsTrue old.told → HoldsBoth old.file m p problem grids) → HoldFeasible problem grids amount → OnlyReads old new → IfOk r (IsSaid (report_text form problem (plan_of grids)) Done) → IfOk r (Says (report_meaning m p form) old new)
says_summed m p form problem grids amount old new (Ok said) holds f reads says =
    answered ReportAnswer (λ a. ReportExplains m p form old new a × OnlyReads old new) report_line report_status (summed (report_text form problem (plan_of grids))) said (
      λ t. judging.of_feasible old.file m p problem grids amount (IsReport form (report_text form problem (plan_of grids))) (holds t) f refl,
      reads,
    )
    says
says_summed m p form problem grids amount old new (Err e) holds f reads says = tt

pub says_none : (m p : List ℕ) (form : ReportForm) (old new : Shelved) (answer : JudgeAnswer) (r : Result Said AllocError) → FindsNone answer × JudgeExplains m p old new answer → OnlyReads old new → IfOk r (IsSaid (judge_line answer) (judge_status answer)) → IfOk r (Says (report_meaning m p form) old new)
says_none m p form old new answer (Ok said) x reads says = answered ReportAnswer (λ a. ReportExplains m p form old new a × OnlyReads old new) report_line report_status (judged answer) said (x, reads) says
says_none m p form old new answer (Err e) x reads says = tt

-- ---- what each number says
module _ (m p : List ℕ) (form : ReportForm) (code : ℕ) (old new : Shelved) (out_old out_new : Printed) where
  pub summed_at : (answer : ReportAnswer) → ReportExplains m p form old new answer → code ≡ code_of (report_status answer) → Gains (report_line answer) out_old out_new → code ≡ DONE → IsTrue old.told → SumsUp old.file m p form out_old out_new
  summed_at (summed text) x is line none t = record { what = text; holds = x t; line = line }
  summed_at (judged (feasible amount)) x is line none t = absurd x.0
  summed_at (judged (no_plan fault)) x is line none t = absurd (omega (arith, is, none))
  summed_at (judged (broken rule)) x is line none t = absurd (omega (arith, is, none))
  summed_at (judged (no_input why)) x is line none t = absurd (omega (arith, (reading why code is).low, none))

  pub fault_at : (answer : ReportAnswer) → ReportExplains m p form old new answer → code ≡ code_of (report_status answer) → Gains (report_line answer) out_old out_new → code ≡ FAULTY → IsTrue old.told → FindsFault old.file m p out_old out_new
  fault_at (summed text) x is line three t = absurd (omega (arith, is, three))
  fault_at (judged answer) x is line three t = judging.fault_at m p code old new out_old out_new answer x.1 is line three t

-- ---- what the two files call for
pub called_at : (m p : List ℕ) (form : ReportForm) (code : ℕ) (old new : Shelved) (out_old out_new : Printed) → HadNoFault old new out_old out_new → IsTrue old.told → (answer : ReportAnswer) → ReportExplains m p form old new answer → code ≡ code_of (report_status answer) → JudgeCallsFor (old.file m) (old.file p) code
called_at m p form code old new out_old out_new fine t (summed text) x is = judging.feasible_called m p code old (IsReport form text) (x t) is
called_at m p form code old new out_old out_new fine t (judged answer) x is = judging.called_at m p code old new out_old out_new fine t answer x.1 is

-- ---- files that give nothing to go on with, and the number of an answer
stop_at : (m p : List ℕ) (form : ReportForm) (old new : Shelved) (line : List ℕ) (status : Status) (answer : ReportAnswer) → ReportExplains m p form old new answer → line ≡ report_line answer → status ≡ report_status answer → IsReading (code_of status) → SomeStop (report_meaning m p form) old new line status
stop_at m p form old new line status (summed text) x says ends r = absurd (omega (arith, ap code_of ends, r.low))
stop_at m p form old new line status (judged answer) x says ends r = judging.stop_at (report_meaning m p form) m p old new line status (λ why y. y) answer x.1 says ends r

answer_number : (answer : ReportAnswer) → IsCommandNumber (code_of (report_status answer))
answer_number (summed text) = record { answers = record { unprinted = λ e. omega (arith, e); no_memory = λ e. omega (arith, e) }; command = λ e. omega (arith, e) }
answer_number (judged answer) = judging.answer_number answer

-- ---- the command
pub report_kept : (m p : List ℕ) (form : ReportForm) → IsCommand (report_meaning m p form)
report_kept m p form = record {
  kept = record {
    after = λ old new line status d. read_after (report_meaning m p form) old new line status refl (λ e. absurd (cc e)) d.why.1
        (subst (λ s. IsAnswerNumber (code_of s)) (sym d.ends) (answer_number d.answer).answers)
        (λ r. stop_at m p form old new line status d.answer d.why.0 d.says d.ends r)
        (λ out_old out_new fine t. called_at m p form (code_of status) old new out_old out_new fine t d.answer d.why.0 (ap code_of d.ends));
    one = λ laws file s t a b. inl (judge_call (file m) (file p) s t a b);
    some = λ by file. judge_some by (file m) (file p);
  };
  command = λ old new line status d. subst (λ s. code_of s ≢ NO_COMMAND) (sym d.ends) (answer_number d.answer).command;
}
