-- What `complete` answers, why, and what it leaves.
use Rattle.std.specs.Prelude.{◌≡◌, ◌≢◌, ◌⊎◌, ◌≤◌, ℕ, List, [], ◌∷◌, ◌++◌, length, codes, decimal, IsTrue, Option, Some, ⊤}
use Rattle.lot_sizing.specs.Problem.{Problem}
use Rattle.lot_sizing.specs.Plan.{IsFeasible, Plan, Table, cost}
use Rattle.lot_sizing.specs.Least.{HasChoice}
use Rattle.lot_io.specs.Outside.{Files, OnlyReads, Printed, Rose, Shelved}
use Rattle.instance_reader.specs.Model.{BytesMean}
use Rattle.plan_rules.specs.Cells.{table_of}
use Rattle.plan_rules.specs.Held.{plan_of}
use Rattle.plan_rules.specs.Rows.{HasNoPlan, IsLeastWith}
use Rattle.plan_rules.specs.Texts.{broken_text}
use Rattle.plan_rules.specs.declared.broken.Broken.{Broken}
use Rattle.plan_rules.specs.declared.plan.Plan.{Plan as Grids}
use Rattle.plan_file.specs.Records.{IsPlanOf, records_of}
use Rattle.lot_quantities.specs.Completed.{IsRefused}
use Rattle.lot_quantities.specs.Faults.{IsQuantityFault}
use Rattle.lot_quantities.specs.Tables.{IsTableOf}
use Rattle.lot_quantities.specs.Texts.{quantity_fault_text}
use Rattle.lot_quantities.specs.declared.fault.QuantityFault.{QuantityFault}
use Rattle.lot_quantities.specs.declared.fault.QuantityFault.TheVariants as table_fault
use Rattle.lot_quantities.specs.declared.quantities.Quantities.{Quantities}
use Rattle.lotplan.specs.Reading.{ByFile, ByModel, FileExplains, FilesStop, HoldsProblem, OfFile, OfModel, ReadAnswer, file_limit, read_line, read_meant, read_status}
use Rattle.lotplan.specs.Meaning.{Meaning, whole_meaning}
use Rattle.lotplan.specs.Writing.{NamesUnwritten, IsUnwritten, IsWritten, StartsAmong, unwritten_line}
use Rattle.lotplan.specs.Saying.{Answered, IsSaid, Tells}
use Rattle.lotplan.specs.declared.commands.complete.CompleteAnswer.{CompleteAnswer as HeldAnswer}
use Rattle.lotplan.specs.declared.commands.complete.CompleteAnswer.TheVariants as held
use Rattle.lotplan.specs.declared.commands.complete.TableAnswer.{TableAnswer as HeldTable}
use Rattle.lotplan.specs.declared.commands.complete.TableAnswer.TheVariants as held_table
use Rattle.lotplan.specs.declared.commands.complete.NoTable.{NoTable}
use Rattle.lotplan.specs.declared.commands.complete.NoTable.TheVariants as stop
use Rattle.lotplan.specs.declared.said.Said.{Said}
use Rattle.lotplan.specs.declared.status.TheConstants.{DONE, FAULTY}
use Rattle.lotplan.specs.declared.status.Status.{Status}
use Rattle.lotplan.specs.declared.status.Status.TheVariants as status

-- ---- answers
-- why files gave no quantities
pub data TableAnswer : Type 0 where
  -- the table holds none
  no_table : QuantityFault → TableAnswer
  -- the model file gave no problem, or the table's file no bytes
  no_input : ReadAnswer → TableAnswer

pub data CompleteAnswer : Type 0 where
  -- the plan was written, and costs this
  completed : ℕ → CompleteAnswer
  -- the file of this name could not be written
  unwritten : List ℕ → CompleteAnswer
  -- no feasible plan has the quantities and setups, and this rule is the first that is broken
  broken : Broken → CompleteAnswer
  -- there are none
  none : TableAnswer → CompleteAnswer

-- what the program's own answers stand for
abbrev pub table_meant : HeldTable → TableAnswer
table_meant (held_table.Faulty fault) = no_table fault
table_meant (held_table.NoInput why) = no_input (read_meant why)

abbrev pub complete_meant : HeldAnswer → CompleteAnswer
complete_meant (held.Completed amount) = completed amount
complete_meant (held.Unwritten file) = unwritten file.now
complete_meant (held.Broken rule) = broken rule

abbrev pub table_status : TableAnswer → Status
table_status (no_table fault) = status.Faulty
table_status (no_input why) = read_status why

abbrev pub complete_status : CompleteAnswer → Status
complete_status (completed amount) = status.Done
complete_status (unwritten file) = status.Unwritten
complete_status (broken rule) = status.Faulty
complete_status (none answer) = table_status answer

abbrev pub table_line : TableAnswer → List ℕ
table_line (no_table fault) = quantity_fault_text fault ++ codes "\n"
table_line (no_input why) = read_line why

abbrev pub complete_line : CompleteAnswer → List ℕ
complete_line (completed amount) = codes "completed " ++ (decimal amount ++ codes "\n")
complete_line (unwritten file) = unwritten_line file
complete_line (broken rule) = broken_text rule ++ codes "\n"
complete_line (none answer) = table_line answer

-- ---- what files hold
-- the table's file holds quantities and setups, which these grids hold
pub record HoldsTable (before : Files) (table_file : List ℕ) (problem : Problem) (grids : Quantities) : Type 0 where
  pub bytes : List ℕ
  pub read : before table_file ≡ Some bytes
  pub short : length bytes ≤ file_limit
  pub is : IsTableOf problem (records_of bytes) (table_of grids.make) (table_of grids.setup)

-- the model file means the problem, and the table's file holds these of it
pub record HoldsTables (before : Files) (model_file table_file : List ℕ) (problem : Problem) (grids : Quantities) : Type 0 where
  pub model : HoldsProblem before model_file problem
  pub table : HoldsTable before table_file problem grids

-- bytes are a table of quantities and setups, of which this holds
pub record AreQuantities (problem : Problem) (bytes : List ℕ) (P : Table → Table → Type 0) : Type 0 where
  pub make : Table
  pub setup : Table
  pub is : IsTableOf problem (records_of bytes) make setup
  pub holds : P make setup

-- bytes are none, for this fault
pub record AreNoTable (problem : Problem) (bytes : List ℕ) (fault : QuantityFault) : Type 0 where
  pub cause : fault ≢ table_fault.Memory
  pub is : IsQuantityFault problem (records_of bytes) fault

-- the model file means a problem, the table's file holds quantities and setups of it, and this holds of them
abbrev pub OfTable : Files → (model_file table_file : List ℕ) → (Problem → Table → Table → Type 0) → Type 0
OfTable before m p P = OfModel before m (λ problem. OfFile before p (λ bytes. AreQuantities problem bytes (P problem)))

-- it means a problem, and the table's file holds none of it, for this fault
abbrev pub OfNoTable : Files → (model_file table_file : List ℕ) → QuantityFault → Type 0
OfNoTable before m p fault = OfModel before m (λ problem. OfFile before p (λ bytes. AreNoTable problem bytes fault))

-- ---- causes
-- some feasible plan has these quantities and setups
abbrev pub HasPlan : Problem → Table → Table → Type 0
HasPlan problem make setup = (plan : Plan) × IsFeasible problem plan × HasChoice problem make setup plan

-- the file holds a feasible plan with these quantities and setups, which costs this; no feasible plan with them has less stock or backlog, or costs less
pub record WritesCompleted (after : Files) (plan_file : List ℕ) (amount : ℕ) (problem : Problem) (quantities setups : Table) : Type 0 where
  pub plan : Plan
  pub bytes : List ℕ
  pub written : after plan_file ≡ Some bytes
  pub short : length bytes ≤ file_limit
  pub is : IsPlanOf problem (records_of bytes) plan
  pub feasible : IsFeasible problem plan
  pub choice : HasChoice problem quantities setups plan
  pub least : IsLeastWith problem quantities setups plan
  pub costs : cost problem plan ≡ amount

-- no feasible plan has these quantities and setups, and with the least stocks and backlogs this rule is the first that is broken
pub record AreIncomplete (rule : Broken) (problem : Problem) (quantities setups : Table) : Type 0 where
  pub none : HasNoPlan problem quantities setups
  pub breaks : IsRefused problem quantities setups rule

-- why the reading of a table of a problem gives none
abbrev pub TableExplains : Problem → List ℕ → Shelved → Shelved → TableAnswer → Type 0
TableExplains problem p old new (no_table fault) = IsTrue old.told → OfFile old.file p (λ bytes. AreNoTable problem bytes fault)
TableExplains problem p old new (no_input why) = FileExplains p old new why

-- why the reading of a model and a table gives none
abbrev pub TablesExplain : List ℕ → List ℕ → Shelved → Shelved → TableAnswer → Type 0
TablesExplain m p old new (no_table fault) = IsTrue old.told → OfNoTable old.file m p fault
TablesExplain m p old new (no_input why) = FilesStop m p old new why

-- the answer has its cause; out of memory needs none
abbrev pub ExplainsNoTable : (TableAnswer → Type 0) → NoTable → Type 0
ExplainsNoTable P (stop.Answered answer) = P (table_meant answer)
ExplainsNoTable P stop.Memory = ⊤

-- a plan was written and its cost is said, or it could not be, and that is said
abbrev pub PutsAndSays : Problem → Grids → (amount : ℕ) → (file : List ℕ) → Shelved → Shelved → Said → Type 0
PutsAndSays problem plan amount q old new said =
    (IsSaid (complete_line (completed amount)) status.Done said × (bytes : List ℕ) × (length bytes ≤ file_limit) × IsPlanOf problem (records_of bytes) (plan_of plan) × IsWritten q bytes old new)
    ⊎ (IsSaid (unwritten_line q) status.Unwritten said × IsUnwritten q old new)

-- why completing quantities and setups ends in this answer, and what it leaves
abbrev pub GridsExplain : Problem → Table → Table → (file : List ℕ) → Shelved → Shelved → CompleteAnswer → Type 0
GridsExplain problem make setup q old new (completed amount) = (IsTrue old.told → WritesCompleted new.file q amount problem make setup) × StartsAmong (q ∷ []) 1 old new
GridsExplain problem make setup q old new (unwritten file) = (file ≡ q) × HasPlan problem make setup × Rose old.write_faults new.write_faults × StartsAmong (q ∷ []) 1 old new
GridsExplain problem make setup q old new (broken rule) = AreIncomplete rule problem make setup × OnlyReads old new
GridsExplain problem make setup q old new (none answer) = ⊥

abbrev pub GridsSay : Problem → Table → Table → (file : List ℕ) → Shelved → Shelved → Said → Type 0
GridsSay problem make setup q old new said = (answer : CompleteAnswer) × GridsExplain problem make setup q old new answer × IsSaid (complete_line answer) (complete_status answer) said

-- why completing the table in a file does
abbrev pub CompleteExplains : (model_file table_file plan_file : List ℕ) → Shelved → Shelved → CompleteAnswer → Type 0
CompleteExplains m p q old new (completed amount) = (IsTrue old.told → OfTable old.file m p (WritesCompleted new.file q amount)) × StartsAmong (q ∷ []) 1 old new
CompleteExplains m p q old new (unwritten file) = (file ≡ q) × (IsTrue old.told → OfTable old.file m p HasPlan) × Rose old.write_faults new.write_faults × StartsAmong (q ∷ []) 1 old new
CompleteExplains m p q old new (broken rule) = (IsTrue old.told → OfTable old.file m p (AreIncomplete rule)) × OnlyReads old new
CompleteExplains m p q old new (none answer) = TablesExplain m p old new answer × OnlyReads old new

-- what is done: an answer that has its cause
abbrev pub CompleteDoes : (model_file table_file plan_file : List ℕ) → Shelved → Shelved → List ℕ → Status → Type 0
CompleteDoes m p q old new = Answered CompleteAnswer (CompleteExplains m p q old new) complete_line complete_status

-- ---- the status that the two files call for, faults and out of memory aside
-- for a table of a problem `DONE` where a feasible plan has its quantities and setups, and else `FAULTY`
abbrev pub TableCallsFor : Problem → Option (List ℕ) → ℕ → Type 0
TableCallsFor problem = ByFile (λ bytes status.
    (AreQuantities problem bytes (HasPlan problem) × (status ≡ DONE))
    ⊎ ((AreQuantities problem bytes (HasNoPlan problem) × (status ≡ FAULTY))
    ⊎ ((fault : QuantityFault) × AreNoTable problem bytes fault × (status ≡ FAULTY))))

abbrev pub CompleteCallsFor : Option (List ℕ) → Option (List ℕ) → ℕ → Type 0
CompleteCallsFor model table = ByModel BytesMean (λ problem. TableCallsFor problem table) model

-- ---- what each status says
-- the new file holds a feasible plan with the quantities and setups of the table, none with them costs less, and the line has its cost
abbrev pub Completes : (before after : Files) (model_file table_file plan_file : List ℕ) → Printed → Printed → Type 0
Completes before after m p q = Tells ℕ (λ amount. OfTable before m p (WritesCompleted after q amount)) (λ amount. complete_line (completed amount))

-- no feasible plan has the quantities and setups of the table, and the line has the first rule that is broken
abbrev pub FindsIncomplete : Files → (model_file table_file : List ℕ) → Printed → Printed → Type 0
FindsIncomplete before m p = Tells Broken (λ rule. OfTable before m p (AreIncomplete rule)) (λ rule. complete_line (broken rule))

-- the table's file holds no table, and the line names the first fault
abbrev pub FindsNoTable : Files → (model_file table_file : List ℕ) → Printed → Printed → Type 0
FindsNoTable before m p = Tells QuantityFault (OfNoTable before m p) (λ fault. table_line (no_table fault))

-- some feasible plan has them, the new file could not be written, and the line names it
abbrev pub FailsToComplete : Shelved → Shelved → (model_file table_file plan_file : List ℕ) → Printed → Printed → Type 0
FailsToComplete old new m p q = NamesUnwritten (OfTable old.file m p HasPlan) q old new

-- ---- the command
abbrev pub complete_meaning : (model_file table_file plan_file : List ℕ) → Meaning
complete_meaning m p q = whole_meaning (CompleteDoes m p q) (m ∷ p ∷ []) (q ∷ []) (FilesStop m p) (λ file. CompleteCallsFor (file m) (file p))
