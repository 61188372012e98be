-- What the files that a command reads hold, and why they may give nothing to go on with.
use Rattle.std.specs.Prelude.{◌≡◌, ◌≢◌, ◌⊎◌, ◌<◌, ◌≤◌, ◌+◌, ℕ, List, ◌++◌, length, codes, IsTrue, Option, Some, None, Result, Ok, Err, ⊤}
use Rattle.lot_sizing.specs.Problem.{Problem}
use Rattle.lot_io.specs.Outside.{Files, Rose, RoseBy, Shelved}
use Rattle.lot_draft.specs.declared.fault.ModelFault.{ModelFault}
use Rattle.lot_draft.specs.Faults.{fault_text}
use Rattle.instance_reader.specs.Model.{BytesMean, FirstVersionMeans}
use Rattle.plan_rules.specs.declared.plan.Plan.{Plan}
use Rattle.plan_rules.specs.Held.{AllFit, plan_of}
use Rattle.plan_file.specs.declared.fault.PlanFault.{PlanFault}
use Rattle.plan_file.specs.declared.fault.PlanFault.TheVariants as plan_fault
use Rattle.plan_file.specs.declared.limits.TheConstants.{MAX_FILE}
use Rattle.plan_file.specs.Faults.{IsPlanFault}
use Rattle.plan_file.specs.Records.{IsPlanOf, records_of}
use Rattle.plan_file.specs.Texts.{plan_fault_text}
use Rattle.lotplan.specs.declared.model_file.PlanStop.{PlanStop}
use Rattle.lotplan.specs.declared.model_file.PlanStop.TheVariants as plan_stop
use Rattle.lotplan.specs.declared.model_file.ReadAnswer.{ReadAnswer as HeldAnswer}
use Rattle.lotplan.specs.declared.model_file.ReadAnswer.TheVariants as held
use Rattle.lotplan.specs.declared.model_file.Stop.{Stop}
use Rattle.lotplan.specs.declared.model_file.Stop.TheVariants as stop
use Rattle.lotplan.specs.declared.status.TheConstants.{REFUSED, MISSING, TOO_LONG}
use Rattle.lotplan.specs.declared.status.Status.{Status}
use Rattle.lotplan.specs.declared.status.Status.TheVariants as status

-- the longest file that is read, in bytes
abbrev pub file_limit : ℕ
file_limit = MAX_FILE

-- the file holds bytes of which this holds, and no more than the limit
abbrev pub OfFile : Files → List ℕ → (List ℕ → Type 0) → Type 0
OfFile before file P = (bytes : List ℕ) × (before file ≡ Some bytes) × (length bytes ≤ file_limit) × P bytes

-- and so as a record
pub record Holds (before : Files) (file : List ℕ) (P : List ℕ → Type 0) : Type 0 where
  pub bytes : List ℕ
  pub read : before file ≡ Some bytes
  pub short : length bytes ≤ file_limit
  pub means : P bytes

-- the model file means the problem
abbrev pub HoldsProblem : Files → (model_file : List ℕ) → Problem → Type 0
HoldsProblem before m problem = Holds before m (λ bytes. BytesMean bytes (Ok problem))

-- it means a problem of which this holds
abbrev pub OfModel : Files → List ℕ → (Problem → Type 0) → Type 0
OfModel before model_file P = (problem : Problem) × HoldsProblem before model_file problem × P problem

-- it means no problem, for this fault
abbrev pub HoldsNone : Files → (model_file : List ℕ) → ModelFault → Type 0
HoldsNone before m fault = Holds before m (λ bytes. BytesMean bytes (Err fault))

-- the model file is one of the first version, and means the problem
abbrev pub HoldsFirst : Files → (model_file : List ℕ) → Problem → Type 0
HoldsFirst before m problem = Holds before m (λ bytes. FirstVersionMeans bytes (Ok problem))

-- as one of the first version it means no problem, for this fault
abbrev pub HoldsNoFirst : Files → (model_file : List ℕ) → ModelFault → Type 0
HoldsNoFirst before m fault = Holds before m (λ bytes. FirstVersionMeans bytes (Err fault))

-- the plan file holds a plan, which these grids hold
pub record HoldsPlan (before : Files) (plan_file : List ℕ) (problem : Problem) (plan : Plan) : Type 0 where
  pub bytes : List ℕ
  pub read : before plan_file ≡ Some bytes
  pub short : length bytes ≤ file_limit
  pub fits : AllFit problem plan
  pub is : IsPlanOf problem (records_of bytes) (plan_of plan)

-- bytes hold no plan, for this fault
pub record AreNoPlan (problem : Problem) (bytes : List ℕ) (fault : PlanFault) : Type 0 where
  pub cause : fault ≢ plan_fault.Memory
  pub is : IsPlanFault problem (records_of bytes) fault

-- the file is longer than the limit
pub record IsTooLong (before : Files) (file : List ℕ) : Type 0 where
  pub bytes : List ℕ
  pub read : before file ≡ Some bytes
  pub long : file_limit < length bytes

-- why the files of a command gave nothing to go on with
pub data ReadAnswer : Type 0 where
  -- the model is refused
  refused : ModelFault → ReadAnswer
  -- the file of this name is absent
  missing : List ℕ → ReadAnswer
  -- it could not be read
  unread : List ℕ → ReadAnswer
  -- it is too long
  too_long : List ℕ → ReadAnswer

-- what the program's own answer stands for
abbrev pub read_meant : HeldAnswer → ReadAnswer
read_meant (held.Refused fault) = refused fault
read_meant (held.Missing file) = missing file.now
read_meant (held.Unread file) = unread file.now
read_meant (held.TooLong file) = too_long file.now

-- the answer has its cause; out of memory needs none
abbrev pub ExplainsStop : (ReadAnswer → Type 0) → Stop → Type 0
ExplainsStop P (stop.Answered why) = P (read_meant why)
ExplainsStop P stop.Memory = ⊤

abbrev pub read_status : ReadAnswer → Status
read_status (refused fault) = status.Refused
read_status (missing file) = status.Missing
read_status (unread file) = status.Unread
read_status (too_long file) = status.TooLong

-- a line ends with a line feed
abbrev pub read_line : ReadAnswer → List ℕ
read_line (refused fault) = codes "refused model " ++ (fault_text fault ++ codes "\n")
read_line (missing file) = codes "refused missing " ++ (file ++ codes "\n")
read_line (unread file) = codes "refused read " ++ (file ++ codes "\n")
read_line (too_long file) = codes "refused long " ++ (file ++ codes "\n")

-- the line of a plan file that holds no plan
abbrev pub no_plan_line : PlanFault → List ℕ
no_plan_line fault = plan_fault_text fault ++ codes "\n"

-- why the reading of a file ends in this answer; that it is refused is this, of the fault
abbrev pub StopExplains : (ModelFault → Type 0) → List ℕ → Shelved → Shelved → ReadAnswer → Type 0
StopExplains Refused name old new (refused fault) = Refused fault
StopExplains Refused name old new (missing file) = (file ≡ name) × Rose old.misses new.misses × (IsTrue old.told → old.file name ≡ None)
StopExplains Refused name old new (unread file) = (file ≡ name) × Rose old.faults new.faults
StopExplains Refused name old new (too_long file) = (file ≡ name) × RoseBy (file_limit + 1) old.given new.given × (IsTrue old.told → IsTooLong old.file name)

-- a file that is no model
abbrev pub FileExplains : List ℕ → Shelved → Shelved → ReadAnswer → Type 0
FileExplains = StopExplains (λ fault. ⊥)

-- a model, and one of the first version
abbrev pub ModelExplains : List ℕ → Shelved → Shelved → ReadAnswer → Type 0
ModelExplains m old new = StopExplains (λ fault. IsTrue old.told → HoldsNone old.file m fault) m old new

abbrev pub FirstExplains : List ℕ → Shelved → Shelved → ReadAnswer → Type 0
FirstExplains m old new = StopExplains (λ fault. IsTrue old.told → HoldsNoFirst old.file m fault) m old new

-- why the reading of a plan file of a problem gives no plan; out of memory needs no cause
abbrev pub ExplainsPlanStop : Problem → List ℕ → Shelved → Shelved → PlanStop → Type 0
ExplainsPlanStop problem p old new (plan_stop.NoPlan fault) = IsTrue old.told → OfFile old.file p (λ bytes. AreNoPlan problem bytes fault)
ExplainsPlanStop problem p old new (plan_stop.Answered why) = FileExplains p old new (read_meant why)
ExplainsPlanStop problem p old new plan_stop.Memory = ⊤

-- why the reading of a model file and a plan file ends in this answer: by the model file, or by the plan file of the problem that it means
abbrev pub FilesStop : List ℕ → List ℕ → Shelved → Shelved → ReadAnswer → Type 0
FilesStop m p old new why = ModelExplains m old new why ⊎ ((problem : Problem) × (IsTrue old.told → HoldsProblem old.file m problem) × FileExplains p old new why)

-- ---- the status that a file calls for
-- `MISSING` where it is absent, `TOO_LONG` where it is too long, and else what its bytes call for
abbrev pub ByFile : (List ℕ → ℕ → Type 0) → Option (List ℕ) → ℕ → Type 0
ByFile Calls None status = status ≡ MISSING
ByFile Calls (Some bytes) status = ((file_limit < length bytes) × (status ≡ TOO_LONG)) ⊎ ((length bytes ≤ file_limit) × Calls bytes status)

-- a model file, by what its bytes mean: `REFUSED` where that is no problem, and else what the problem calls for
abbrev pub ByModel : (List ℕ → Result Problem ModelFault → Type 0) → (Problem → ℕ → Type 0) → Option (List ℕ) → ℕ → Type 0
ByModel Mean Calls = ByFile (λ bytes status. ((fault : ModelFault) × Mean bytes (Err fault) × (status ≡ REFUSED)) ⊎ ((problem : Problem) × Mean bytes (Ok problem) × Calls problem status))
