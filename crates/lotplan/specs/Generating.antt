-- What `gen` answers, why, and what it leaves.
use Rattle.std.specs.Prelude.{◌≡◌, ℕ, true, List, [], ◌∷◌, IsTrue, Some, Ok}
use Rattle.lot_io.specs.Outside.{Files, OnlyWrites, Printed, Rose, Shelved}
use Rattle.instance_reader.specs.Document.{document_of}
use Rattle.instance_reader.specs.Model.{BytesMean}
use Rattle.own_plan.specs.OwnPeriod.{HasOwnPeriod}
use Rattle.report.specs.Generated.{generated, generated_table}
use Rattle.lotplan.specs.Writing.{StartsAmong, unwritten_line, written_line}
use Rattle.lotplan.specs.Meaning.{Meaning, fixed_meaning}
use Rattle.lotplan.specs.Saying.{Answered, Gains}
use Rattle.lotplan.specs.declared.status.TheConstants.{DONE}
use Rattle.lotplan.specs.declared.commands.generate.GenerateAnswer.{GenerateAnswer as HeldAnswer}
use Rattle.lotplan.specs.declared.commands.generate.GenerateAnswer.TheVariants as held
use Rattle.lotplan.specs.declared.status.Status.{Status}
use Rattle.lotplan.specs.declared.status.Status.TheVariants as status

-- ---- answers
pub data GenerateAnswer : Type 0 where
  -- the model was written to the file of this name
  written : List ℕ → GenerateAnswer
  -- the file of this name could not be written
  unwritten : List ℕ → GenerateAnswer

-- what the program's own answer stands for
abbrev pub generate_meant : HeldAnswer → GenerateAnswer
generate_meant (held.Written file) = written file.now
generate_meant (held.Unwritten file) = unwritten file.now

abbrev pub generate_status : GenerateAnswer → Status
generate_status (written file) = status.Done
generate_status (unwritten file) = status.Unwritten

abbrev pub generate_line : GenerateAnswer → List ℕ
generate_line (written file) = written_line file
generate_line (unwritten file) = unwritten_line file

-- ---- causes
-- the text's table is that of the coupled model of this seed and size; it means this problem, whose own-period plan is feasible
pub record IsGenerated (seed items periods : ℕ) (text : List ℕ) : Type 0 where
  pub table : document_of text ≡ Some (generated_table seed items periods true)
  pub means : BytesMean text (Ok (generated seed items periods true))
  pub feasible : HasOwnPeriod (generated seed items periods true)

-- the file holds such a text
pub record WritesGenerated (after : Files) (seed items periods : ℕ) (model_file : List ℕ) : Type 0 where
  pub bytes : List ℕ
  pub written : after model_file ≡ Some bytes
  pub is : IsGenerated seed items periods bytes

-- why the generating of a model ends in this answer, and what it leaves
abbrev pub GenerateExplains : (seed items periods : ℕ) → List ℕ → Shelved → Shelved → GenerateAnswer → Type 0
GenerateExplains seed items periods m old new (written file) =
    (file ≡ m) × (IsTrue old.told → WritesGenerated new.file seed items periods m) × StartsAmong (m ∷ []) 1 old new × OnlyWrites m old new
GenerateExplains seed items periods m old new (unwritten file) =
    (file ≡ m) × Rose old.write_faults new.write_faults × StartsAmong (m ∷ []) 1 old new × OnlyWrites m old new

-- what the generating of a model does: an answer that has its cause
abbrev pub GenerateDoes : (seed items periods : ℕ) → List ℕ → Shelved → Shelved → List ℕ → Status → Type 0
GenerateDoes seed items periods m old new = Answered GenerateAnswer (GenerateExplains seed items periods m old new) generate_line generate_status

-- ---- what each status says
-- the model file holds the generated model, and the line names it
pub record Generates (after : Files) (seed items periods : ℕ) (model_file : List ℕ) (out_old out_new : Printed) : Type 0 where
  pub holds : WritesGenerated after seed items periods model_file
  pub line : Gains (written_line model_file) out_old out_new

-- the model file could not be written, and the line names it
pub record FailsToGenerate (old new : Shelved) (model_file : List ℕ) (out_old out_new : Printed) : Type 0 where
  pub failed : Rose old.write_faults new.write_faults
  pub line : Gains (unwritten_line model_file) out_old out_new

-- ---- the command, which calls for `DONE` whatever files there are
abbrev pub generate_meaning : (seed items periods : ℕ) → List ℕ → Meaning
generate_meaning seed items periods m = fixed_meaning (GenerateDoes seed items periods m) (m ∷ []) DONE
