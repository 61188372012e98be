-- What is known of what each command means.
use Rattle.std.proofs.Common.{◌≡◌, ◌≢◌, ◌⊎◌, inl, ℕ, List, [], length, IsTrue, sym, subst}
use Rattle.lot_io.specs.Outside.{Files, GrewBy, OnlyReads, Printed, Shelved}
use Rattle.lotplan.specs.Meaning.{Meaning}
use Rattle.lotplan.specs.Run.{HadNoFault}
use Rattle.lotplan.specs.Status.{code_of}
use Rattle.lotplan.specs.Writing.{StartsAtMost}
use Rattle.lotplan.specs.declared.status.Status.{Status}
use Rattle.lotplan.specs.declared.status.TheConstants.{DONE, NO_PLAN, UNDECIDED, NO_COMMAND, UNWRITTEN}
use Rattle.lotplan.proofs.Calls.{AreLaws, Grounds, OneIsUndecided}
use Rattle.lotplan.proofs.Outputs.{IsAnswerNumber}
use Rattle.lotplan.proofs.Readings.{IsReading, SomeStop, Stopped, same_reads}
use Rattle.lotplan.proofs.Writings.{reads_at_most, reads_none}

-- after what was done
pub record IsAfter (means : Meaning) (old new : Shelved) (line : List ℕ) (status : Status) : Type 0 where
  -- the number is that of an answer
  pub number : IsAnswerNumber (code_of status)
  -- nothing is written but with these
  pub quiet : code_of status ≢ DONE → code_of status ≢ NO_PLAN → code_of status ≢ UNDECIDED → code_of status ≢ UNWRITTEN → OnlyReads old new
  -- no other file is written, and all are once with `DONE`
  pub writes : StartsAtMost means.writes old new
  pub tells : new.told ≡ old.told
  pub wrote : code_of status ≡ DONE → GrewBy (length means.writes) old.starts new.starts
  -- a command that writes no file only reads, and one that reads none either changes nothing
  pub reads : means.writes ≡ [] → OnlyReads old new
  pub idle : means.reads ≡ [] → means.writes ≡ [] → new ≡ old
  -- files that give nothing to go on with, or a page that would be too long
  pub stops : IsReading (code_of status) → Stopped means old new line status
  -- and the status that is called for
  pub calls : (out_old out_new : Printed) → HadNoFault old new out_old out_new → IsTrue old.told → means.calls_for old.file (code_of status)

pub record IsKept (means : Meaning) : Type 0 where
  pub after : (old new : Shelved) (line : List ℕ) (status : Status) → means.does old new line status → IsAfter means old new line status
  pub one : AreLaws → (file : Files) (s t : ℕ) → means.calls_for file s → means.calls_for file t → (s ≡ t) ⊎ (means.may_be_left file × OneIsUndecided s t)
  pub some : Grounds → (file : Files) → (status : ℕ) × means.calls_for file status

-- a command's number isn't that of words that are none
pub record IsCommand (means : Meaning) : Type 0 where
  pub kept : IsKept means
  pub command : (old new : Shelved) (line : List ℕ) (status : Status) → means.does old new line status → code_of status ≢ NO_COMMAND

-- a command that only reads
pub read_after : (means : Meaning) (old new : Shelved) (line : List ℕ) (status : Status) → means.writes ≡ [] → (means.reads ≡ [] → ⊥) → OnlyReads old new → IsAnswerNumber (code_of status) → (IsReading (code_of status) → SomeStop means old new line status) → ((out_old out_new : Printed) → HadNoFault old new out_old out_new → IsTrue old.told → means.calls_for old.file (code_of status)) → IsAfter means old new line status
read_after means old new line status none some reads number stops calls = record {
  number = number;
  quiet = λ done no_plan undecided unwritten. reads;
  writes = reads_at_most means.writes old new reads;
  tells = reads.told;
  wrote = λ done. subst (λ names. GrewBy (length names) old.starts new.starts) (sym none) (reads_none old new reads);
  reads = λ e. reads;
  idle = λ e. absurd (some e);
  stops = λ r. inl (stops r);
  calls = calls;
}

-- a command that touches no file, which comes to one status
pub still_after : (means : Meaning) (old new : Shelved) (line : List ℕ) (status : Status) → means.writes ≡ [] → new ≡ old → IsAnswerNumber (code_of status) → (IsReading (code_of status) → ⊥) → means.calls_for old.file (code_of status) → IsAfter means old new line status
still_after means old new line status none same number never calls =
    let reads = same_reads old new same in
    record {
      number = number;
      quiet = λ done no_plan undecided unwritten. reads;
      writes = reads_at_most means.writes old new reads;
      tells = reads.told;
      wrote = λ done. subst (λ names. GrewBy (length names) old.starts new.starts) (sym none) (reads_none old new reads);
      reads = λ e. reads;
      idle = λ e f. same;
      stops = λ r. absurd (never r);
      calls = λ out_old out_new fine t. calls;
    }
