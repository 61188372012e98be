-- What `report` answers, and why.
use Rattle.std.specs.Prelude.{◌≡◌, ℕ, List, [], ◌∷◌, IsTrue}
use Rattle.lot_sizing.specs.Problem.{Problem}
use Rattle.lot_sizing.specs.Plan.{Plan}
use Rattle.lot_io.specs.Outside.{Files, OnlyReads, Printed, Shelved}
use Rattle.command_line.specs.declared.commands.ReportForm.{ReportForm}
use Rattle.command_line.specs.declared.commands.ReportForm.TheVariants.{Summary, Full, Tables}
use Rattle.report.specs.Summary.{summary_text}
use Rattle.plan_report.specs.Full.{full_text}
use Rattle.plan_report.specs.Tables.{table_text}
use Rattle.lotplan.specs.Judging.{FindsNone, JudgeAnswer, JudgeCallsFor, JudgeExplains, OfFeasible, judge_line, judge_status}
use Rattle.lotplan.specs.Meaning.{Meaning, whole_meaning}
use Rattle.lotplan.specs.Reading.{FilesStop}
use Rattle.lotplan.specs.Saying.{Answered, Tells}
use Rattle.lotplan.specs.declared.status.Status.{Status}
use Rattle.lotplan.specs.declared.status.Status.TheVariants as status

-- ---- answers
pub data ReportAnswer : Type 0 where
  -- the plan is feasible, and this is what is told of it
  summed : List ℕ → ReportAnswer
  -- nothing is told of a plan: what `judge` answers
  judged : JudgeAnswer → ReportAnswer

abbrev pub report_status : ReportAnswer → Status
report_status (summed text) = status.Done
report_status (judged answer) = judge_status answer

abbrev pub report_line : ReportAnswer → List ℕ
report_line (summed text) = text
report_line (judged answer) = judge_line answer

-- ---- causes
-- what is told of a plan: its summary as a line of JSON, all of it by periods as a line of JSON, or its tables
abbrev pub report_text : ReportForm → Problem → Plan → List ℕ
report_text Summary problem plan = summary_text problem plan
report_text Full problem plan = full_text problem plan
report_text Tables problem plan = table_text problem plan

-- the text is what is told of a plan in this form
abbrev pub IsReport : ReportForm → List ℕ → Problem → Plan → Type 0
IsReport form text problem plan = text ≡ report_text form problem plan

-- why reporting on these files ends in this answer
abbrev pub ReportExplains : List ℕ → List ℕ → ReportForm → Shelved → Shelved → ReportAnswer → Type 0
ReportExplains m p form old new (summed text) = IsTrue old.told → OfFeasible old.file m p (IsReport form text)
ReportExplains m p form old new (judged answer) = FindsNone answer × JudgeExplains m p old new answer

-- what reporting on these files does: an answer that has its cause, and nothing is written
abbrev pub ReportDoes : List ℕ → List ℕ → ReportForm → Shelved → Shelved → List ℕ → Status → Type 0
ReportDoes m p form old new = Answered ReportAnswer (λ answer. ReportExplains m p form old new answer × OnlyReads old new) report_line report_status

-- ---- what `DONE` says
-- the plan in the plan file is feasible, and what is printed is what is told of it in this form
abbrev pub SumsUp : Files → (model_file plan_file : List ℕ) → ReportForm → Printed → Printed → Type 0
SumsUp before m p form = Tells (List ℕ) (λ text. OfFeasible before m p (IsReport form text)) (λ text. text)

-- ---- the command
abbrev pub report_meaning : List ℕ → List ℕ → ReportForm → Meaning
report_meaning m p form = whole_meaning (ReportDoes m p form) (m ∷ p ∷ []) [] (FilesStop m p) (λ file. JudgeCallsFor (file m) (file p))
