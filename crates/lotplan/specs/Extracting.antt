-- What a command does that writes an extract: a file that is made of a feasible plan.
use Rattle.std.specs.Prelude.{◌≡◌, ◌⊎◌, ℕ, List, [], ◌∷◌, ◌++◌, codes, decimal, IsTrue}
use Rattle.lot_sizing.specs.Problem.{Problem}
use Rattle.lot_sizing.specs.Plan.{Plan}
use Rattle.lot_io.specs.Outside.{Files, OnlyReads, Printed, Rose, Shelved}
use Rattle.lotplan.specs.Judging.{AnyPlan, FindsNone, JudgeAnswer, JudgeCallsFor, JudgeExplains, OfFeasible, judge_line, judge_status}
use Rattle.lotplan.specs.Meaning.{Meaning, whole_meaning}
use Rattle.lotplan.specs.Reading.{FilesStop}
use Rattle.lotplan.specs.Writing.{NamesUnwritten, IsUnwritten, IsWritten, StartsAmong, unwritten_line}
use Rattle.lotplan.specs.Saying.{Answered, IsSaid, Tells}
use Rattle.lotplan.specs.declared.said.Said.{Said}
use Rattle.lotplan.specs.declared.status.Status.{Status}
use Rattle.lotplan.specs.declared.status.Status.TheVariants as status

-- ---- answers
pub data ExtractAnswer : Type 0 where
  -- the extract was written, and has so many entries
  written : ℕ → ExtractAnswer
  -- the file of this name could not be written
  unwritten : List ℕ → ExtractAnswer
  -- there is no feasible plan: what `judge` answers
  judged : JudgeAnswer → ExtractAnswer

abbrev pub extract_status : ExtractAnswer → Status
extract_status (written count) = status.Done
extract_status (unwritten file) = status.Unwritten
extract_status (judged answer) = judge_status answer

-- a word and the number of entries
abbrev pub counted_line : List ℕ → ℕ → List ℕ
counted_line word count = word ++ (codes " " ++ (decimal count ++ codes "\n"))

abbrev pub extract_line : List ℕ → ExtractAnswer → List ℕ
extract_line word (written count) = counted_line word count
extract_line word (unwritten file) = unwritten_line file
extract_line word (judged answer) = judge_line answer

-- ---- causes
-- what holds of the files afterwards, of a problem, of a plan and of the number of entries
abbrev pub Extract : Type 1
Extract = Files → Problem → Plan → ℕ → Type 0

-- bytes were written to the file and counted, or could not be, and that is said
abbrev pub WritesAndSays : (word : List ℕ) (count : ℕ) (file bytes : List ℕ) → Shelved → Shelved → Said → Type 0
WritesAndSays word count file bytes old new said =
    (IsSaid (counted_line word count) status.Done said × IsWritten file bytes old new)
    ⊎ (IsSaid (unwritten_line file) status.Unwritten said × IsUnwritten file old new)

-- why writing the extract of a feasible plan ends in this answer, and what it leaves
abbrev pub GivenExplains : Extract → Problem → Plan → (file : List ℕ) → Shelved → Shelved → ExtractAnswer → Type 0
GivenExplains Writes problem plan s old new (written count) = (IsTrue old.told → Writes new.file problem plan count) × StartsAmong (s ∷ []) 1 old new
GivenExplains Writes problem plan s old new (unwritten file) = (file ≡ s) × Rose old.write_faults new.write_faults × StartsAmong (s ∷ []) 1 old new
GivenExplains Writes problem plan s old new (judged answer) = ⊥

abbrev pub GivenSays : Extract → List ℕ → Problem → Plan → (file : List ℕ) → Shelved → Shelved → Said → Type 0
GivenSays Writes word problem plan s old new said =
    (answer : ExtractAnswer) × GivenExplains Writes problem plan s old new answer × IsSaid (extract_line word answer) (extract_status answer) said

-- why writing that of the plan in a file does
abbrev pub ExtractExplains : Extract → (model_file plan_file file : List ℕ) → Shelved → Shelved → ExtractAnswer → Type 0
ExtractExplains Writes m p s old new (written count) =
    (IsTrue old.told → OfFeasible old.file m p (λ problem plan. Writes new.file problem plan count)) × StartsAmong (s ∷ []) 1 old new
ExtractExplains Writes m p s old new (unwritten file) =
    (file ≡ s) × (IsTrue old.told → OfFeasible old.file m p AnyPlan) × Rose old.write_faults new.write_faults × StartsAmong (s ∷ []) 1 old new
ExtractExplains Writes m p s old new (judged answer) = FindsNone answer × JudgeExplains m p old new answer × OnlyReads old new

-- what is done: an answer that has its cause
abbrev pub ExtractDoes : Extract → List ℕ → (model_file plan_file file : List ℕ) → Shelved → Shelved → List ℕ → Status → Type 0
ExtractDoes Writes word m p s old new = Answered ExtractAnswer (ExtractExplains Writes m p s old new) (extract_line word) extract_status

-- ---- what each status says
-- the plan file holds a feasible plan, the extract of it was written, and the line has the number of its entries
abbrev pub WritesExtract : Extract → (word : List ℕ) → (before after : Files) (model_file plan_file : List ℕ) → Printed → Printed → Type 0
WritesExtract Writes word before after m p = Tells ℕ (λ count. OfFeasible before m p (λ problem plan. Writes after problem plan count)) (counted_line word)

-- it holds one, the extract could not be written, and the line names its file
abbrev pub FailsToExtract : Shelved → Shelved → (model_file plan_file file : List ℕ) → Printed → Printed → Type 0
FailsToExtract old new m p s = NamesUnwritten (OfFeasible old.file m p AnyPlan) s old new

-- ---- the command
abbrev pub extract_meaning : Extract → List ℕ → (model_file plan_file file : List ℕ) → Meaning
extract_meaning Writes word m p s = whole_meaning (ExtractDoes Writes word m p s) (m ∷ p ∷ []) (s ∷ []) (FilesStop m p) (λ file. JudgeCallsFor (file m) (file p))
