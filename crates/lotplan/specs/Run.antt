-- What a run does to files and to the output, and why it answers what it does.
use Rattle.std.specs.Prelude.{◌≡◌, ◌+◌, ◌*◌, ℕ, List, [], ◌∷◌, length, codes, Option, Some, None}
use Rattle.lot_io.specs.Outside.{Files, OnlyReads, Printed, Rose, Shelved, piece_size}
use Rattle.stream_check.specs.Streams.{pass_size}
use Rattle.command_line.specs.Words.{Request, version, planning, judging, checking, reporting, generating, demonstrating, upgrading, bounding, scheduling, schedule_checking, pegging, completing, drawing, replanning}
use Rattle.lotplan.specs.Status.{code_of}
use Rattle.lotplan.specs.Saying.{Gains, Prints}
use Rattle.lotplan.specs.Reading.{ReadAnswer, file_limit, read_line}
use Rattle.lotplan.specs.Meaning.{Meaning, fixed_meaning, long_page_line}
use Rattle.lotplan.specs.Planning.{plan_meaning}
use Rattle.lotplan.specs.Judging.{judge_meaning}
use Rattle.lotplan.specs.Checking.{check_meaning}
use Rattle.lotplan.specs.Upgrading.{upgrade_meaning}
use Rattle.lotplan.specs.Bounding.{bound_meaning}
use Rattle.lotplan.specs.Reporting.{report_meaning}
use Rattle.lotplan.specs.Generating.{generate_meaning}
use Rattle.lotplan.specs.Showing.{demo_meaning}
use Rattle.lotplan.specs.Scheduling.{schedule_meaning, schedcheck_meaning}
use Rattle.lotplan.specs.Pegging.{peg_meaning}
use Rattle.lotplan.specs.Completing.{complete_meaning}
use Rattle.lotplan.specs.Drawing.{draw_meaning}
use Rattle.lotplan.specs.Replanning.{replan_meaning}
use Rattle.lotplan.specs.declared.said.Said.{Said}
use Rattle.lotplan.specs.declared.status.Status.{Status}
use Rattle.lotplan.specs.declared.status.TheConstants.{DONE, NO_COMMAND}
use Rattle.lotplan.specs.declared.status.Status.TheVariants.{Done, NoCommand, NoMemory}

-- ---- the words, each command an arm
abbrev pub version_line : List ℕ
version_line = codes "lotplan 1\n"

abbrev pub refused_line : List ℕ
refused_line = codes "refused words\n"

-- no words: the program's name and version
pub record VersionDoes (old new : Shelved) (line : List ℕ) (status : Status) : Type 0 where
  pub same : new ≡ old
  pub says : line ≡ version_line
  pub ends : status ≡ Done

abbrev pub version_meaning : Meaning
version_meaning = fixed_meaning VersionDoes [] DONE

-- words that are no command, a call for help among them; the text is left open
pub record NothingDone (old new : Shelved) (line : List ℕ) (status : Status) : Type 0 where
  pub same : new ≡ old
  pub ends : status ≡ NoCommand

abbrev pub no_meaning : Meaning
no_meaning = fixed_meaning NothingDone [] NO_COMMAND

abbrev pub meaning_of : Option Request → Meaning
meaning_of None = no_meaning
meaning_of (Some version) = version_meaning
meaning_of (Some (planning m p c search)) = plan_meaning m p c search
meaning_of (Some (judging m p)) = judge_meaning m p
meaning_of (Some (checking m p c)) = check_meaning m p c
meaning_of (Some (reporting m p form)) = report_meaning m p form
meaning_of (Some (generating seed items periods m)) = generate_meaning seed items periods m
meaning_of (Some (demonstrating seed)) = demo_meaning seed
meaning_of (Some (upgrading m n)) = upgrade_meaning m n
meaning_of (Some (bounding m)) = bound_meaning m
meaning_of (Some (scheduling m p s)) = schedule_meaning m p s
meaning_of (Some (schedule_checking m p s)) = schedcheck_meaning m p s
meaning_of (Some (pegging m p q)) = peg_meaning m p q
meaning_of (Some (completing m p q)) = complete_meaning m p q
meaning_of (Some (drawing m p h c)) = draw_meaning m p h c
meaning_of (Some (replanning m p first n q c budget)) = replan_meaning m p first n q c budget

-- ---- what follows of what the words ask for, with no arms
-- what a run does to the files, and the line and the status that it comes to
abbrev pub Does : Option Request → Shelved → Shelved → List ℕ → Status → Type 0
Does request = (meaning_of request).does

-- the files that are read whole, those that are read in passes, and those that may be written
abbrev pub reads_of : Option Request → List (List ℕ)
reads_of request = (meaning_of request).reads

abbrev pub passes_of : Option Request → List (List ℕ)
passes_of request = (meaning_of request).passes

abbrev pub writes_of : Option Request → List (List ℕ)
writes_of request = (meaning_of request).writes

-- the status that words and files call for, faults and out of memory aside
abbrev pub CallFor : Option Request → Files → ℕ → Type 0
CallFor request = (meaning_of request).calls_for

abbrev pub SaysFor : Option Request → Shelved → Shelved → Said → Type 0
SaysFor request old new said = Does request old new said.line.items said.status

-- the most bytes that are read: of each file as much as one within the limit has, or three passes over it
abbrev pub most_given : Option Request → ℕ
most_given request = length (reads_of request) * (file_limit + piece_size) + length (passes_of request) * (3 * pass_size)

-- what is left where memory ran out: nothing was written, and where no file is read nothing changed
abbrev pub Leaves : List (List ℕ) → Shelved → Shelved → Type 0
Leaves [] old new = new ≡ old
Leaves (file ∷ files) old new = OnlyReads old new

-- no file is read or written
pub record IsIdle (request : Option Request) : Type 0 where
  pub reads : reads_of request ≡ []
  pub writes : writes_of request ≡ []

-- ---- the run
-- what a run did, printed and gave, where memory didn't run out
pub record AnswersAs (request : Option Request) (code : ℕ) (old new : Shelved) (out_old out_new : Printed) : Type 0 where
  pub line : List ℕ
  pub status : Status
  pub does : Does request old new line status
  pub prints : Prints line status code out_old out_new

-- and where printing didn't fail either: the number is that of the status, and the output gained the line
pub record EndsAs (request : Option Request) (code : ℕ) (old new : Shelved) (out_old out_new : Printed) : Type 0 where
  pub line : List ℕ
  pub status : Status
  pub does : Does request old new line status
  pub number : code ≡ code_of status
  pub gains : Gains line out_old out_new

-- memory ran out before anything was written or printed
pub record RanOut (request : Option Request) (code : ℕ) (old new : Shelved) (out_old out_new : Printed) : Type 0 where
  pub is : code ≡ code_of NoMemory
  pub left : Leaves (reads_of request) old new
  pub silent : out_new ≡ out_old

-- memory ran out, or the run did what the words ask for
pub data IsProgramRun (request : Option Request) (code : ℕ) (old new : Shelved) (out_old out_new : Printed) : Type 0 where
  ran_out : RanOut request code old new out_old out_new → IsProgramRun request code old new out_old out_new
  runs : AnswersAs request code old new out_old out_new → IsProgramRun request code old new out_old out_new

-- no call on files or output failed
pub record HadNoFault (old new : Shelved) (out_old out_new : Printed) : Type 0 where
  pub read : Rose old.faults new.faults → ⊥
  pub written : Rose old.write_faults new.write_faults → ⊥
  pub put : Rose out_old.faults out_new.faults → ⊥

-- ---- what a status of no one command says
-- the words are no command, and some text says so
pub record IsNoCommand (request : Option Request) (out_old out_new : Printed) : Type 0 where
  pub is : request ≡ None
  pub text : List ℕ
  pub line : Gains text out_old out_new

-- the files that the words name gave nothing to go on with, for this cause, and the line names it
pub record Stops (request : Option Request) (old new : Shelved) (out_old out_new : Printed) (why : ReadAnswer) : Type 0 where
  pub cause : (meaning_of request).stops old new why
  pub line : Gains (read_line why) out_old out_new

-- the page that the words ask for would be too long, and the line names the limit
pub record IsOverlong (request : Option Request) (old : Shelved) (out_old out_new : Printed) : Type 0 where
  pub cause : (meaning_of request).overlong old
  pub line : Gains long_page_line out_old out_new
