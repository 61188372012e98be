-- What `bound` leaves, by its answer.
use Rattle.std.proofs.Common.{◌≡◌, ◌≢◌, ℕ, List, Some, IsTrue, inl, inr, refl, sym, ap, subst, arith}
use Rattle.std.specs.Prelude.{Result, Ok, Err, IfOk}
use Rattle.std.specs.declared.alloc.AllocError.{AllocError}
use Rattle.lot_io.specs.Outside.{OnlyReads, Printed, Shelved}
use Rattle.lot_sizing.specs.Problem.{Problem}
use Rattle.lotplan.specs.Meaning.{Says}
use Rattle.lotplan.specs.declared.said.Said.{Said}
use Rattle.lotplan.specs.Status.{code_of}
use Rattle.lotplan.specs.Reading.{HoldsProblem, ModelExplains, ReadAnswer, refused, missing, unread, too_long, read_line, read_status}
use Rattle.lotplan.specs.Bounding.{BoundAnswer, bound, empty, skipped, passed, no_input, bound_line, bound_status, BoundCallsFor, BoundExplains, BoundedCallsFor, FindsBound, FindsNoBound, FindsNoPoint, MayBeBoundAnswer, bound_meaning}
use Rattle.lotplan.specs.Saying.{Gains, IsSaid}
use Rattle.lotplan.specs.Run.{HadNoFault}
use Rattle.lotplan.specs.declared.status.Status.{Status}
use Rattle.lotplan.specs.declared.status.TheConstants.{DONE, NO_PLAN, UNDECIDED, NO_COMMAND}
use Rattle.lotplan.proofs.BoundCalls.{bound_call, bound_some}
use Rattle.lotplan.proofs.Kept.{IsCommand, read_after}
use Rattle.lotplan.proofs.Outputs.{IsAnswerNumber, IsCommandNumber, answered, read_number}
use Rattle.lotplan.proofs.Readings.{IsReading, SomeStop, reading}

-- ---- from the problem to the model file
bound_after : (m : List ℕ) (problem : Problem) (old new : Shelved) (answer : BoundAnswer) → (IsTrue old.told → HoldsProblem old.file m problem) → MayBeBoundAnswer problem answer → BoundExplains m old new answer
bound_after m problem old new (bound n) holds x = λ t. (problem, holds t, x)
bound_after m problem old new empty holds x = λ t. (problem, holds t, x)
bound_after m problem old new skipped holds x = λ t. (problem, holds t, x)
bound_after m problem old new passed holds x = λ t. (problem, holds t, x)
bound_after m problem old new (no_input why) holds x = absurd x

pub says_bounded : (m : List ℕ) (problem : Problem) (old new : Shelved) (answer : BoundAnswer) (r : Result Said AllocError) → (IsTrue old.told → HoldsProblem old.file m problem) → MayBeBoundAnswer problem answer → OnlyReads old new → IfOk r (IsSaid (bound_line answer) (bound_status answer)) → IfOk r (Says (bound_meaning m) old new)
says_bounded m problem old new answer (Ok said) holds x reads says = answered BoundAnswer (λ a. BoundExplains m old new a × OnlyReads old new) bound_line bound_status answer said (bound_after m problem old new answer holds x, reads) says
says_bounded m problem old new answer (Err e) holds x reads says = tt

pub says_stop : (m : List ℕ) (old new : Shelved) (why : ReadAnswer) (r : Result Said AllocError) → ModelExplains m old new why → OnlyReads old new → IfOk r (IsSaid (read_line why) (read_status why)) → IfOk r (Says (bound_meaning m) old new)
says_stop m old new why (Ok said) x reads says = answered BoundAnswer (λ a. BoundExplains m old new a × OnlyReads old new) bound_line bound_status (no_input why) said (x, reads) says
says_stop m old new why (Err e) x reads says = tt

-- ---- what each number says
module _ (m : List ℕ) (code : ℕ) (old new : Shelved) (out_old out_new : Printed) where
  pub bounded_at : (answer : BoundAnswer) → BoundExplains m old new answer → code ≡ code_of (bound_status answer) → Gains (bound_line answer) out_old out_new → code ≡ DONE → IsTrue old.told → FindsBound old.file m out_old out_new
  bounded_at (bound n) x is line none t = record { what = n; holds = x t; line = line }
  bounded_at empty x is line none t = absurd (omega (arith, is, none))
  bounded_at skipped x is line none t = absurd (omega (arith, is, none))
  bounded_at passed x is line none t = absurd (omega (arith, is, none))
  bounded_at (no_input why) x is line none t = absurd (omega (arith, (reading why code is).low, none))

  pub empty_at : (answer : BoundAnswer) → BoundExplains m old new answer → code ≡ code_of (bound_status answer) → Gains (bound_line answer) out_old out_new → code ≡ NO_PLAN → IsTrue old.told → FindsNoPoint old.file m out_old out_new
  empty_at (bound n) x is line one t = absurd (omega (arith, is, one))
  empty_at empty x is line one t = record { holds = x t; line = line }
  empty_at skipped x is line one t = absurd (omega (arith, is, one))
  empty_at passed x is line one t = absurd (omega (arith, is, one))
  empty_at (no_input why) x is line one t = absurd (omega (arith, (reading why code is).low, one))

  pub undecided_at : (answer : BoundAnswer) → BoundExplains m old new answer → code ≡ code_of (bound_status answer) → Gains (bound_line answer) out_old out_new → code ≡ UNDECIDED → IsTrue old.told → FindsNoBound old.file m out_old out_new
  undecided_at (bound n) x is line two t = absurd (omega (arith, is, two))
  undecided_at empty x is line two t = absurd (omega (arith, is, two))
  undecided_at skipped x is line two t = record { answer = skipped; ends = refl; holds = x t; line = line }
  undecided_at passed x is line two t = record { answer = passed; ends = refl; holds = x t; line = line }
  undecided_at (no_input why) x is line two t = absurd (omega (arith, (reading why code is).low, two))

-- ---- what the model file calls for
module _ (m : List ℕ) (code : ℕ) (old : Shelved) where
  by_bytes : (bytes : List ℕ) → old.file m ≡ Some bytes → BoundCallsFor (Some bytes) code → BoundCallsFor (old.file m) code
  by_bytes bytes same calls = subst (λ f. BoundCallsFor f code) (sym same) calls

  by_model : (problem : Problem) → HoldsProblem old.file m problem → BoundedCallsFor problem code → BoundCallsFor (old.file m) code
  by_model problem holds calls = by_bytes holds.bytes holds.read (inr (holds.short, inr (problem, holds.means, calls)))

  module _ (new : Shelved) (out_old out_new : Printed) (fine : HadNoFault old new out_old out_new) (t : IsTrue old.told) where
    stop_called : (why : ReadAnswer) → ModelExplains m old new why → code ≡ code_of (read_status why) → BoundCallsFor (old.file m) code
    stop_called (refused fault) x is = let h = x t in by_bytes h.bytes h.read (inr (h.short, inl (fault, h.means, is)))
    stop_called (missing file) x is = subst (λ f. BoundCallsFor f code) (sym (x.2 t)) is
    stop_called (unread file) x is = absurd (fine.read x.1)
    stop_called (too_long file) x is = let h = x.2 t in by_bytes h.bytes h.read (inl (h.long, is))

    pub called_at : (answer : BoundAnswer) → BoundExplains m old new answer → code ≡ code_of (bound_status answer) → BoundCallsFor (old.file m) code
    called_at (bound n) x is = let (problem, holds, y) = x t in by_model problem holds (inl ((n, y), is))
    called_at empty x is = let (problem, holds, y) = x t in by_model problem holds (inr (inl (y, is)))
    called_at skipped x is = let (problem, holds, y) = x t in by_model problem holds (inr (inr (inl (y, is))))
    called_at passed x is = let (problem, holds, y) = x t in by_model problem holds (inr (inr (inr (y, is))))
    called_at (no_input why) x is = stop_called why x is

-- ---- files that give nothing to go on with, and the number of an answer
stop_at : (m : List ℕ) (old new : Shelved) (line : List ℕ) (status : Status) (answer : BoundAnswer) → BoundExplains m old new answer → line ≡ bound_line answer → status ≡ bound_status answer → IsReading (code_of status) → SomeStop (bound_meaning m) old new line status
stop_at m old new line status (bound n) x says ends r = absurd (omega (arith, ap code_of ends, r.low))
stop_at m old new line status empty x says ends r = absurd (omega (arith, ap code_of ends, r.low))
stop_at m old new line status skipped x says ends r = absurd (omega (arith, ap code_of ends, r.low))
stop_at m old new line status passed x says ends r = absurd (omega (arith, ap code_of ends, r.low))
stop_at m old new line status (no_input why) x says ends r = record { why = why; cause = x; says = says; ends = ends }

answer_number : (answer : BoundAnswer) → IsCommandNumber (code_of (bound_status answer))
answer_number (bound n) = record { answers = record { unprinted = λ e. omega (arith, e); no_memory = λ e. omega (arith, e) }; command = λ e. omega (arith, e) }
answer_number empty = record { answers = record { unprinted = λ e. omega (arith, e); no_memory = λ e. omega (arith, e) }; command = λ e. omega (arith, e) }
answer_number skipped = record { answers = record { unprinted = λ e. omega (arith, e); no_memory = λ e. omega (arith, e) }; command = λ e. omega (arith, e) }
answer_number passed = record { answers = record { unprinted = λ e. omega (arith, e); no_memory = λ e. omega (arith, e) }; command = λ e. omega (arith, e) }
answer_number (no_input why) = read_number why

-- ---- the command
pub bound_kept : (m : List ℕ) → IsCommand (bound_meaning m)
bound_kept m = record {
  kept = record {
    after = λ old new line status d. read_after (bound_meaning m) old new line status refl (λ e. absurd (cc e)) d.why.1
        (subst (λ s. IsAnswerNumber (code_of s)) (sym d.ends) (answer_number d.answer).answers)
        (λ r. stop_at m old new line status d.answer d.why.0 d.says d.ends r)
        (λ out_old out_new fine t. called_at m (code_of status) old new out_old out_new fine t d.answer d.why.0 (ap code_of d.ends));
    one = λ laws file s t a b. bound_call laws (file m) s t a b;
    some = λ by file. bound_some by (file m);
  };
  command = λ old new line status d. subst (λ s. code_of s ≢ NO_COMMAND) (sym d.ends) (answer_number d.answer).command;
}
