-- What `upgrade` answers, why, and what it leaves.
use Rattle.std.specs.Prelude.{◌≡◌, ℕ, List, [], ◌∷◌, IsTrue, Option, Some, Ok}
use Rattle.lot_sizing.specs.Problem.{Problem}
use Rattle.lot_io.specs.Outside.{Files, OnlyReads, Printed, Rose, Shelved}
use Rattle.instance_reader.specs.Model.{BytesMean, FirstVersionMeans}
use Rattle.instance_reader.specs.Written.{IsModelText}
use Rattle.lotplan.specs.Reading.{ByModel, read_meant, FirstExplains, HoldsFirst, HoldsProblem, ReadAnswer, read_line, read_status}
use Rattle.lotplan.specs.Writing.{NamesUnwritten, StartsAmong, unwritten_line, written_line}
use Rattle.lotplan.specs.Meaning.{Meaning, whole_meaning}
use Rattle.lotplan.specs.Saying.{Answered, Gains, IsSaid}
use Rattle.lotplan.specs.declared.commands.upgrade.UpgradeAnswer.{UpgradeAnswer as HeldAnswer}
use Rattle.lotplan.specs.declared.commands.upgrade.UpgradeAnswer.TheVariants as held
use Rattle.lotplan.specs.declared.said.Said.{Said}
use Rattle.lotplan.specs.declared.status.TheConstants.{DONE}
use Rattle.lotplan.specs.declared.status.Status.{Status}
use Rattle.lotplan.specs.declared.status.Status.TheVariants as status

-- ---- answers
pub data UpgradeAnswer : Type 0 where
  -- the model was written to the file of this name
  written : List ℕ → UpgradeAnswer
  -- the file of this name could not be written
  unwritten : List ℕ → UpgradeAnswer
  -- the model file gave no problem
  no_input : ReadAnswer → UpgradeAnswer

-- what the program's own answer stands for
abbrev pub upgrade_meant : HeldAnswer → UpgradeAnswer
upgrade_meant (held.Written file) = written file.now
upgrade_meant (held.Unwritten file) = unwritten file.now
upgrade_meant (held.NoInput why) = no_input (read_meant why)

abbrev pub upgrade_status : UpgradeAnswer → Status
upgrade_status (written file) = status.Done
upgrade_status (unwritten file) = status.Unwritten
upgrade_status (no_input why) = read_status why

abbrev pub upgrade_line : UpgradeAnswer → List ℕ
upgrade_line (written file) = written_line file
upgrade_line (unwritten file) = unwritten_line file
upgrade_line (no_input why) = read_line why

-- ---- causes
-- the new file's bytes are a text of the problem, and mean it
pub record WritesModel (after : Files) (problem : Problem) (new_file : List ℕ) : Type 0 where
  pub bytes : List ℕ
  pub written : after new_file ≡ Some bytes
  pub text : IsModelText problem bytes
  pub means : BytesMean bytes (Ok problem)

-- the model file is one of the first version, and the new file means the same problem
pub record HoldsUpgrade (before after : Files) (model_file new_file : List ℕ) : Type 0 where
  pub problem : Problem
  pub first : HoldsFirst before model_file problem
  pub holds : HoldsProblem before model_file problem
  pub writes : WritesModel after problem new_file

-- the model file is one of the first version, and means some problem
abbrev pub HoldsSomeFirst : Files → List ℕ → Type 0
HoldsSomeFirst before model_file = (problem : Problem) × HoldsFirst before model_file problem

-- why the writing of a problem ends in this answer, and what it leaves
abbrev pub RewriteExplains : Problem → List ℕ → Shelved → Shelved → UpgradeAnswer → Type 0
RewriteExplains problem n old new (written file) = (file ≡ n) × (IsTrue old.told → WritesModel new.file problem n) × StartsAmong (n ∷ []) 1 old new
RewriteExplains problem n old new (unwritten file) = (file ≡ n) × Rose old.write_faults new.write_faults × StartsAmong (n ∷ []) 1 old new
RewriteExplains problem n old new (no_input why) = ⊥

-- why the upgrade of these files ends in this answer, and what it leaves
abbrev pub UpgradeExplains : List ℕ → List ℕ → Shelved → Shelved → UpgradeAnswer → Type 0
UpgradeExplains m n old new (written file) = (file ≡ n) × (IsTrue old.told → HoldsUpgrade old.file new.file m n) × StartsAmong (n ∷ []) 1 old new
UpgradeExplains m n old new (unwritten file) = (file ≡ n) × (IsTrue old.told → HoldsSomeFirst old.file m) × Rose old.write_faults new.write_faults × StartsAmong (n ∷ []) 1 old new
UpgradeExplains m n old new (no_input why) = FirstExplains m old new why × OnlyReads old new

-- what is said is an answer that has its cause
abbrev pub RewriteSays : Problem → List ℕ → Shelved → Shelved → Said → Type 0
RewriteSays problem n old new said = (answer : UpgradeAnswer) × RewriteExplains problem n old new answer × IsSaid (upgrade_line answer) (upgrade_status answer) said

-- what the upgrade of these files does: an answer that has its cause
abbrev pub UpgradeDoes : List ℕ → List ℕ → Shelved → Shelved → List ℕ → Status → Type 0
UpgradeDoes m n old new = Answered UpgradeAnswer (UpgradeExplains m n old new) upgrade_line upgrade_status

-- ---- the status that the model file calls for, faults and out of memory aside
-- `DONE` for a model of the first version
abbrev pub UpgradeCallsFor : Option (List ℕ) → ℕ → Type 0
UpgradeCallsFor = ByModel FirstVersionMeans (λ problem status. status ≡ DONE)

-- ---- what each status says
-- the new file means the problem of the model file, which is one of the first version, and the line names it
pub record Upgrades (before after : Files) (model_file new_file : List ℕ) (out_old out_new : Printed) : Type 0 where
  pub holds : HoldsUpgrade before after model_file new_file
  pub line : Gains (written_line new_file) out_old out_new

-- the model file is one of the first version, the new file could not be written, and the line names it
abbrev pub FailsToUpgrade : Shelved → Shelved → (model_file new_file : List ℕ) → Printed → Printed → Type 0
FailsToUpgrade old new m n = NamesUnwritten (HoldsSomeFirst old.file m) n old new

-- ---- the command
abbrev pub upgrade_meaning : List ℕ → List ℕ → Meaning
upgrade_meaning m n = whole_meaning (UpgradeDoes m n) (m ∷ []) (n ∷ []) (FirstExplains m) (λ file. UpgradeCallsFor (file m))
