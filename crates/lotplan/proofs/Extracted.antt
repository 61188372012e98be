-- What a command leaves that writes an extract of a feasible plan, by its answer.
use Rattle.std.proofs.Common.{◌≡◌, ◌≢◌, ⊎_elim, ℕ, List, [], ◌∷◌, Some, IsTrue, inl, refl, sym, ap, subst, arith}
use Rattle.std.specs.Prelude.{Result, Ok, Err, IfOk}
use Rattle.std.specs.declared.alloc.AllocError.{AllocError}
use Rattle.lot_io.specs.Outside.{GrewBy, OnlyReads, Printed, Shelved}
use Rattle.lot_sizing.specs.Problem.{Problem}
use Rattle.lot_sizing.specs.Plan.{Plan}
use Rattle.plan_rules.specs.declared.plan.Plan.{Plan as Grids}
use Rattle.plan_rules.specs.Held.{plan_of}
use Rattle.lotplan.specs.Meaning.{Says}
use Rattle.lotplan.specs.declared.said.Said.{Said}
use Rattle.lotplan.specs.Status.{code_of}
use Rattle.lotplan.specs.Judging.{AnyPlan, FindsFault, FindsNone, HoldFeasible, HoldsBoth, JudgeAnswer, JudgeCallsFor, JudgeExplains, feasible, no_plan, broken, no_input, judge_line, judge_status}
use Rattle.lotplan.specs.Extracting.{Extract, ExtractAnswer, ExtractExplains, FailsToExtract, GivenExplains, GivenSays, WritesAndSays, WritesExtract, judged, unwritten, written, extract_line, extract_meaning, extract_status}
use Rattle.lotplan.specs.Saying.{Gains, IsSaid}
use Rattle.lotplan.specs.Writing.{StartsAtMost, unwritten_line}
use Rattle.lotplan.specs.Run.{HadNoFault}
use Rattle.lotplan.specs.declared.status.Status.{Status}
use Rattle.lotplan.specs.declared.status.TheConstants.{DONE, FAULTY, NO_COMMAND, UNWRITTEN}
use Rattle.lotplan.proofs.JudgeCalls.{judge_call, judge_some}
use Rattle.lotplan.proofs.Kept.{IsCommand}
use Rattle.lotplan.proofs.Outputs.{IsAnswerNumber, IsCommandNumber, answered}
use Rattle.lotplan.proofs.Readings.{IsReading, SomeStop, reading}
use Rattle.lotplan.proofs.Writings.{one_at_most, reads_at_most, starts_after, told_before}
use Rattle.lotplan.proofs.Judged as judging

module _ (Writes : Extract) (word : List ℕ) where
  -- ---- what is said
  pub says_extract : (problem : Problem) (plan : Plan) (s bytes : List ℕ) (count : ℕ) (old new : Shelved) (r : Result Said AllocError) → ((IsTrue old.told → new.file s ≡ Some bytes) → IsTrue old.told → Writes new.file problem plan count) → IfOk r (WritesAndSays word count s bytes old new) → IfOk r (GivenSays Writes word problem plan s old new)
  says_extract problem plan s bytes count old new (Ok said) holds x = ⊎_elim
      (λ done. (written count, (holds done.1.written, done.1.touches), done.0))
      (λ lost. (unwritten s, (refl, lost.1.failed, lost.1.touches), lost.0))
      x
  says_extract problem plan s bytes count old new (Err e) holds x = tt

  module _ (m p s : List ℕ) where
    extract_after : (problem : Problem) (grids : Grids) (amount : ℕ) (old mid new : Shelved) (answer : ExtractAnswer) → (IsTrue old.told → HoldsBoth old.file m p problem grids) → HoldFeasible problem grids amount → OnlyReads old mid → GivenExplains Writes problem (plan_of grids) s mid new answer → ExtractExplains Writes m p s old new answer
    extract_after problem grids amount old mid new (written count) holds f reads x = (
      λ t. judging.of_feasible old.file m p problem grids amount (λ q plan. Writes new.file q plan count) (holds t) f (x.0 (told_before reads t)),
      starts_after (s ∷ []) 1 old mid new reads x.1,
    )
    extract_after problem grids amount old mid new (unwritten file) holds f reads x = (
      x.0,
      λ t. judging.of_feasible old.file m p problem grids amount AnyPlan (holds t) f tt,
      omega (arith, x.1, reads.write_faults),
      starts_after (s ∷ []) 1 old mid new reads x.2,
    )
    extract_after problem grids amount old mid new (judged answer) holds f reads x = absurd x

    pub says_given : (problem : Problem) (grids : Grids) (amount : ℕ) (old mid new : Shelved) (r : Result Said AllocError) → (IsTrue old.told → HoldsBoth old.file m p problem grids) → HoldFeasible problem grids amount → OnlyReads old mid → IfOk r (GivenSays Writes word problem (plan_of grids) s mid new) → IfOk r (Says (extract_meaning Writes word m p s) old new)
    says_given problem grids amount old mid new (Ok said) holds f reads (answer, x, says) = answered ExtractAnswer (ExtractExplains Writes m p s old new) (extract_line word) extract_status answer said (extract_after problem grids amount old mid new answer holds f reads x) says
    says_given problem grids amount old mid new (Err e) holds f reads some = tt

    pub says_none : (old new : Shelved) (answer : JudgeAnswer) (r : Result Said AllocError) → FindsNone answer × JudgeExplains m p old new answer → OnlyReads old new → IfOk r (IsSaid (judge_line answer) (judge_status answer)) → IfOk r (Says (extract_meaning Writes word m p s) old new)
    says_none old new answer (Ok said) x reads says = answered ExtractAnswer (ExtractExplains Writes m p s old new) (extract_line word) extract_status (judged answer) said (x.0, x.1, reads) says
    says_none old new answer (Err e) x reads says = tt

    -- ---- what each number says
    module _ (code : ℕ) (old new : Shelved) (out_old out_new : Printed) where
      pub written_at : (answer : ExtractAnswer) → ExtractExplains Writes m p s old new answer → code ≡ code_of (extract_status answer) → Gains (extract_line word answer) out_old out_new → code ≡ DONE → IsTrue old.told → WritesExtract Writes word old.file new.file m p out_old out_new
      written_at (written count) x is line none t = record { what = count; holds = x.0 t; line = line }
      written_at (unwritten file) x is line none t = absurd (omega (arith, is, none))
      written_at (judged (feasible amount)) x is line none t = absurd x.0
      written_at (judged (no_plan fault)) x is line none t = absurd (omega (arith, is, none))
      written_at (judged (broken rule)) x is line none t = absurd (omega (arith, is, none))
      written_at (judged (no_input why)) x is line none t = absurd (omega (arith, (reading why code is).low, none))

      pub fault_at : (answer : ExtractAnswer) → ExtractExplains Writes m p s old new answer → code ≡ code_of (extract_status answer) → Gains (extract_line word answer) out_old out_new → code ≡ FAULTY → IsTrue old.told → FindsFault old.file m p out_old out_new
      fault_at (written count) x is line three t = absurd (omega (arith, is, three))
      fault_at (unwritten file) x is line three t = absurd (omega (arith, is, three))
      fault_at (judged answer) x is line three t = judging.fault_at m p code old new out_old out_new answer x.1 is line three t

      pub unwritten_at : (answer : ExtractAnswer) → ExtractExplains Writes m p s old new answer → code ≡ code_of (extract_status answer) → Gains (extract_line word answer) out_old out_new → code ≡ UNWRITTEN → FailsToExtract old new m p s out_old out_new
      unwritten_at (written count) x is line eight = absurd (omega (arith, is, eight))
      unwritten_at (unwritten file) x is line eight = record { holds = x.1; failed = x.2; line = subst (λ f. Gains (unwritten_line f) out_old out_new) x.0 line }
      unwritten_at (judged (feasible amount)) x is line eight = absurd x.0
      unwritten_at (judged (no_plan fault)) x is line eight = absurd (omega (arith, is, eight))
      unwritten_at (judged (broken rule)) x is line eight = absurd (omega (arith, is, eight))
      unwritten_at (judged (no_input why)) x is line eight = absurd ((reading why code is).other eight)

    -- ---- what is written
    quiet_at : (code : ℕ) (old new : Shelved) (answer : ExtractAnswer) → ExtractExplains Writes m p s old new answer → code ≡ code_of (extract_status answer) → code ≢ DONE → code ≢ UNWRITTEN → OnlyReads old new
    quiet_at code old new (written count) x is some other = absurd (some is)
    quiet_at code old new (unwritten file) x is some other = absurd (other is)
    quiet_at code old new (judged answer) x is some other = x.2

    wrote_at : (code : ℕ) (old new : Shelved) (answer : ExtractAnswer) → ExtractExplains Writes m p s old new answer → code ≡ code_of (extract_status answer) → code ≡ DONE → GrewBy 1 old.starts new.starts
    wrote_at code old new (written count) x is none = x.1.starts
    wrote_at code old new (unwritten file) x is none = absurd (omega (arith, is, none))
    wrote_at code old new (judged (feasible amount)) x is none = absurd x.0
    wrote_at code old new (judged (no_plan fault)) x is none = absurd (omega (arith, is, none))
    wrote_at code old new (judged (broken rule)) x is none = absurd (omega (arith, is, none))
    wrote_at code old new (judged (no_input why)) x is none = absurd (omega (arith, (reading why code is).low, none))

    others_at : (old new : Shelved) (answer : ExtractAnswer) → ExtractExplains Writes m p s old new answer → StartsAtMost (s ∷ []) old new × (new.told ≡ old.told)
    others_at old new (written count) x = (one_at_most s old new x.1, x.1.told)
    others_at old new (unwritten file) x = (one_at_most s old new x.3, x.3.told)
    others_at old new (judged answer) x = (reads_at_most (s ∷ []) old new x.2, x.2.told)

    -- ---- what the files call for
    called_at : (code : ℕ) (old new : Shelved) (out_old out_new : Printed) → HadNoFault old new out_old out_new → IsTrue old.told → (answer : ExtractAnswer) → ExtractExplains Writes m p s old new answer → code ≡ code_of (extract_status answer) → JudgeCallsFor (old.file m) (old.file p) code
    called_at code old new out_old out_new fine t (written count) x is = judging.feasible_called m p code old (λ q plan. Writes new.file q plan count) (x.0 t) is
    called_at code old new out_old out_new fine t (unwritten file) x is = absurd (fine.written x.2)
    called_at code old new out_old out_new fine t (judged answer) x is = judging.called_at m p code old new out_old out_new fine t answer x.1 is

    -- ---- files that give nothing to go on with, and the number of an answer
    stop_at : (old new : Shelved) (line : List ℕ) (status : Status) (answer : ExtractAnswer) → ExtractExplains Writes m p s old new answer → line ≡ extract_line word answer → status ≡ extract_status answer → IsReading (code_of status) → SomeStop (extract_meaning Writes word m p s) old new line status
    stop_at old new line status (written count) x says ends r = absurd (omega (arith, ap code_of ends, r.low))
    stop_at old new line status (unwritten file) x says ends r = absurd (r.other (ap code_of ends))
    stop_at old new line status (judged answer) x says ends r = judging.stop_at (extract_meaning Writes word m p s) m p old new line status (λ why y. y) answer x.1 says ends r

    answer_number : (answer : ExtractAnswer) → IsCommandNumber (code_of (extract_status answer))
    answer_number (written count) = record { answers = record { unprinted = λ e. omega (arith, e); no_memory = λ e. omega (arith, e) }; command = λ e. omega (arith, e) }
    answer_number (unwritten file) = record { answers = record { unprinted = λ e. omega (arith, e); no_memory = λ e. omega (arith, e) }; command = λ e. omega (arith, e) }
    answer_number (judged answer) = judging.answer_number answer

    -- ---- the command
    pub extract_kept : IsCommand (extract_meaning Writes word m p s)
    extract_kept = record {
      kept = record {
        after = λ old new line status d. record {
          number = subst (λ e. IsAnswerNumber (code_of e)) (sym d.ends) (answer_number d.answer).answers;
          quiet = λ some one two other. quiet_at (code_of status) old new d.answer d.why (ap code_of d.ends) some other;
          writes = (others_at old new d.answer d.why).0;
          tells = (others_at old new d.answer d.why).1;
          wrote = λ none. wrote_at (code_of status) old new d.answer d.why (ap code_of d.ends) none;
          reads = λ e. absurd (cc e);
          idle = λ e. absurd (cc e);
          stops = λ r. inl (stop_at old new line status d.answer d.why d.says d.ends r);
          calls = λ out_old out_new fine t. called_at (code_of status) old new out_old out_new fine t d.answer d.why (ap code_of d.ends);
        };
        one = λ laws file a b c d. inl (judge_call (file m) (file p) a b c d);
        some = λ by file. judge_some by (file m) (file p);
      };
      command = λ old new line status d. subst (λ e. code_of e ≢ NO_COMMAND) (sym d.ends) (answer_number d.answer).command;
    }
