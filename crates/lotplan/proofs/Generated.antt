-- What `gen` leaves, by its answer.
use Rattle.std.proofs.Common.{◌≡◌, ◌≢◌, ◌∙◌, ℕ, List, [], ◌∷◌, IsTrue, inl, refl, sym, ap, subst, arith}
use Rattle.lot_io.specs.Outside.{GrewBy, OnlyReads, OnlyWrites, Printed, Shelved}
use Rattle.lotplan.specs.Status.{code_of}
use Rattle.lotplan.specs.Writing.{StartsAtMost, unwritten_line, written_line}
use Rattle.lotplan.specs.Generating.{FailsToGenerate, GenerateAnswer, GenerateExplains, Generates, written, unwritten, generate_line, generate_meaning, generate_status}
use Rattle.lotplan.specs.Saying.{Gains}
use Rattle.lotplan.specs.Run.{HadNoFault}
use Rattle.lotplan.specs.declared.status.TheConstants.{DONE, NO_COMMAND, UNWRITTEN}
use Rattle.lotplan.proofs.Kept.{IsCommand}
use Rattle.lotplan.proofs.Outputs.{IsAnswerNumber, IsCommandNumber}
use Rattle.lotplan.proofs.Readings.{IsReading}
use Rattle.lotplan.proofs.Writings.{one_at_most}

module _ (seed items periods : ℕ) (m : List ℕ) (code : ℕ) (old new : Shelved) where
  -- ---- what each number says
  module _ (out_old out_new : Printed) where
    pub generated_at : (answer : GenerateAnswer) → GenerateExplains seed items periods m old new answer → code ≡ code_of (generate_status answer) → Gains (generate_line answer) out_old out_new → code ≡ DONE → IsTrue old.told → Generates new.file seed items periods m out_old out_new
    generated_at (written file) x is line none t = record { holds = x.1 t; line = subst (λ f. Gains (written_line f) out_old out_new) x.0 line }
    generated_at (unwritten file) x is line none t = absurd (omega (arith, is, none))

    pub unwritten_at : (answer : GenerateAnswer) → GenerateExplains seed items periods m old new answer → code ≡ code_of (generate_status answer) → Gains (generate_line answer) out_old out_new → code ≡ UNWRITTEN → FailsToGenerate old new m out_old out_new
    unwritten_at (written file) x is line eight = absurd (omega (arith, is, eight))
    unwritten_at (unwritten file) x is line eight = record {
      failed = x.1;
      line = subst (λ f. Gains (unwritten_line f) out_old out_new) x.0 line;
    }

    -- ---- what is called for
    pub called_at : HadNoFault old new out_old out_new → (answer : GenerateAnswer) → GenerateExplains seed items periods m old new answer → code ≡ code_of (generate_status answer) → code ≡ DONE
    called_at fine (written file) x is = is
    called_at fine (unwritten file) x is = absurd (fine.written x.1)

  -- ---- what is written
  pub quiet_at : (answer : GenerateAnswer) → GenerateExplains seed items periods m old new answer → code ≡ code_of (generate_status answer) → code ≢ DONE → code ≢ UNWRITTEN → OnlyReads old new
  quiet_at (written file) x is some other = absurd (some is)
  quiet_at (unwritten file) x is some other = absurd (other is)

  pub wrote_at : (answer : GenerateAnswer) → GenerateExplains seed items periods m old new answer → code ≡ code_of (generate_status answer) → code ≡ DONE → GrewBy 1 old.starts new.starts
  wrote_at (written file) x is none = x.2.starts
  wrote_at (unwritten file) x is none = absurd (omega (arith, is, none))

  pub others_at : (answer : GenerateAnswer) → GenerateExplains seed items periods m old new answer → StartsAtMost (m ∷ []) old new × (new.told ≡ old.told)
  others_at (written file) x = (one_at_most m old new x.2, x.2.told)
  others_at (unwritten file) x = (one_at_most m old new x.2, x.2.told)

  pub only_writes_at : (answer : GenerateAnswer) → GenerateExplains seed items periods m old new answer → OnlyWrites m old new
  only_writes_at (written file) x = x.3
  only_writes_at (unwritten file) x = x.3

-- what shows the same was only written
pub same_writes : (m : List ℕ) (old new : Shelved) → new ≡ old → OnlyWrites m old new
same_writes m old new same = subst (λ s. OnlyWrites m old s) (sym same) (record {
  told = refl;
  others = λ t other apart. refl;
  starts = omega arith;
  appends = omega arith;
  write_faults = omega arith;
  faults = refl;
  misses = refl;
  given = refl;
})

-- ---- files that give nothing to go on with, and the number of an answer
pub stop_at : {A : Type 0} (answer : GenerateAnswer) (code : ℕ) → code ≡ code_of (generate_status answer) → IsReading code → A
stop_at (written file) code is r = absurd (omega (arith, is, r.low))
stop_at (unwritten file) code is r = absurd (r.other is)

answer_number : (answer : GenerateAnswer) → IsCommandNumber (code_of (generate_status answer))
answer_number (written file) = record { answers = record { unprinted = λ e. omega (arith, e); no_memory = λ e. omega (arith, e) }; command = λ e. omega (arith, e) }
answer_number (unwritten file) = record { answers = record { unprinted = λ e. omega (arith, e); no_memory = λ e. omega (arith, e) }; command = λ e. omega (arith, e) }

-- ---- the command
pub generate_kept : (seed items periods : ℕ) (m : List ℕ) → IsCommand (generate_meaning seed items periods m)
generate_kept seed items periods m = record {
  kept = record {
    after = λ old new line status d. record {
      number = subst (λ s. IsAnswerNumber (code_of s)) (sym d.ends) (answer_number d.answer).answers;
      quiet = λ some one two other. quiet_at seed items periods m (code_of status) old new d.answer d.why (ap code_of d.ends) some other;
      writes = (others_at seed items periods m (code_of status) old new d.answer d.why).0;
      tells = (others_at seed items periods m (code_of status) old new d.answer d.why).1;
      wrote = λ none. wrote_at seed items periods m (code_of status) old new d.answer d.why (ap code_of d.ends) none;
      reads = λ e. absurd (cc e);
      idle = λ e f. absurd (cc f);
      stops = λ r. inl (stop_at d.answer (code_of status) (ap code_of d.ends) r);
      calls = λ out_old out_new fine t. called_at seed items periods m (code_of status) old new out_old out_new fine d.answer d.why (ap code_of d.ends);
    };
    one = λ laws file s t a b. inl (a ∙ sym b);
    some = λ by file. (DONE, refl);
  };
  command = λ old new line status d. subst (λ s. code_of s ≢ NO_COMMAND) (sym d.ends) (answer_number d.answer).command;
}
