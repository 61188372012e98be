-- What `bound` answers, and why.
use Rattle.std.specs.Prelude.{◌≡◌, ◌⊎◌, ℕ, List, [], ◌∷◌, ◌++◌, codes, decimal, IsTrue, Option, Some, None, Ok, ⊤}
use Rattle.lot_sizing.specs.Problem.{Problem}
use Rattle.lot_sizing.specs.Best.{IsFloor, IsImpossible}
use Rattle.lot_io.specs.Outside.{Files, OnlyReads, Printed, Shelved}
use Rattle.instance_reader.specs.Model.{BytesMean}
use Rattle.tableau.specs.declared.outcome.Outcome.TheVariants as outcome
use Rattle.tableau.specs.Program.{Program}
use Rattle.tableau.specs.Stepwise.{IsEndOf}
use Rattle.lp_bounds.specs.Bounds.{HasFewCells, HasManyCells, HasNoBasePoint, IsBaseBound, IsBaseProgram}
use Rattle.lotplan.specs.Reading.{ByModel, read_meant, ModelExplains, OfModel, ReadAnswer, read_line, read_status}
use Rattle.lotplan.specs.Meaning.{Meaning}
use Rattle.lotplan.specs.Saying.{Answered, Gains, Tells, TellsAs}
use Rattle.lotplan.specs.declared.commands.bound.BoundAnswer.{BoundAnswer as HeldAnswer}
use Rattle.lotplan.specs.declared.commands.bound.BoundAnswer.TheVariants as held
use Rattle.lotplan.specs.declared.status.TheConstants.{DONE, NO_PLAN, UNDECIDED}
use Rattle.lotplan.specs.declared.status.Status.{Status}
use Rattle.lotplan.specs.declared.status.Status.TheVariants as status

-- ---- answers
pub data BoundAnswer : Type 0 where
  -- this is the base bound
  bound : ℕ → BoundAnswer
  -- no point meets all base rows
  empty : BoundAnswer
  -- the tableau is too large
  skipped : BoundAnswer
  -- a number of the run doesn't fit 128 bits
  passed : BoundAnswer
  -- the model file gave no problem
  no_input : ReadAnswer → BoundAnswer

-- what the program's own answer stands for
abbrev pub bound_meant : HeldAnswer → BoundAnswer
bound_meant (held.Bound n) = bound n
bound_meant held.Empty = empty
bound_meant held.Skipped = skipped
bound_meant held.Passed = passed
bound_meant (held.NoInput why) = no_input (read_meant why)

abbrev pub bound_status : BoundAnswer → Status
bound_status (bound n) = status.Done
bound_status empty = status.NoPlan
bound_status skipped = status.Undecided
bound_status passed = status.Undecided
bound_status (no_input why) = read_status why

abbrev pub bound_line : BoundAnswer → List ℕ
bound_line (bound n) = codes "bound " ++ (decimal n ++ codes "\n")
bound_line empty = codes "empty\n"
bound_line skipped = codes "skipped\n"
bound_line passed = codes "passed\n"
bound_line (no_input why) = read_line why

-- ---- causes
-- of the points that meet all base rows the least cost, rounded up, is n, and no plan costs less
pub record HasBaseBound (problem : Problem) (n : ℕ) : Type 0 where
  pub bound : IsBaseBound problem n
  pub floor : IsFloor problem n
  pub few : HasFewCells problem

-- there is no such point, and no plan
pub record HasNoBaseCost (problem : Problem) : Type 0 where
  pub none : HasNoBasePoint problem
  pub impossible : IsImpossible problem
  pub few : HasFewCells problem

-- the tableau of the base rows has few cells, and the exact run by the least-index rule comes to a number that doesn't fit 128 bits
pub record SimplexPasses (problem : Problem) : Type 0 where
  pub program : Program
  pub base : IsBaseProgram problem program
  pub pivot : ℕ
  pub row : ℕ
  pub column : ℕ
  pub passes : IsEndOf program (outcome.Passed pivot row column)
  pub few : HasFewCells problem

-- what is known of the base bound of a problem
abbrev pub MayBeBoundAnswer : Problem → BoundAnswer → Type 0
MayBeBoundAnswer problem (bound n) = HasBaseBound problem n
MayBeBoundAnswer problem empty = HasNoBaseCost problem
MayBeBoundAnswer problem skipped = HasManyCells problem
MayBeBoundAnswer problem passed = SimplexPasses problem
MayBeBoundAnswer problem (no_input why) = ⊥

-- the model file means a problem of which this is known
abbrev pub ModelIsBounded : Files → List ℕ → BoundAnswer → Type 0
ModelIsBounded before m answer = OfModel before m (λ problem. MayBeBoundAnswer problem answer)

-- why bounding the model in this file ends in this answer
abbrev pub BoundExplains : List ℕ → Shelved → Shelved → BoundAnswer → Type 0
BoundExplains m old new (bound n) = IsTrue old.told → ModelIsBounded old.file m (bound n)
BoundExplains m old new empty = IsTrue old.told → ModelIsBounded old.file m empty
BoundExplains m old new skipped = IsTrue old.told → ModelIsBounded old.file m skipped
BoundExplains m old new passed = IsTrue old.told → ModelIsBounded old.file m passed
BoundExplains m old new (no_input why) = ModelExplains m old new why

-- what bounding the model in this file does: an answer that has its cause, and nothing is written
abbrev pub BoundDoes : List ℕ → Shelved → Shelved → List ℕ → Status → Type 0
BoundDoes m old new = Answered BoundAnswer (λ answer. BoundExplains m old new answer × OnlyReads old new) bound_line bound_status

-- ---- the status that the model file calls for, faults and out of memory aside
-- for a problem `DONE` where it has a base bound, `NO_PLAN` where no point meets the base rows, `UNDECIDED` where the tableau is too large, or a number of the run doesn't fit
abbrev pub BoundedCallsFor : Problem → ℕ → Type 0
BoundedCallsFor problem status =
    (((n : ℕ) × HasBaseBound problem n) × (status ≡ DONE))
    ⊎ ((HasNoBaseCost problem × (status ≡ NO_PLAN)) ⊎ ((HasManyCells problem × (status ≡ UNDECIDED)) ⊎ (SimplexPasses problem × (status ≡ UNDECIDED))))

abbrev pub BoundCallsFor : Option (List ℕ) → ℕ → Type 0
BoundCallsFor = ByModel BytesMean BoundedCallsFor

-- the file means a problem whose run comes to a number that doesn't fit, so that `UNDECIDED` is called for, beside what is known of the base bound
abbrev pub MayPass : Option (List ℕ) → Type 0
MayPass None = ⊥
MayPass (Some bytes) = (problem : Problem) × BytesMean bytes (Ok problem) × SimplexPasses problem

-- ---- what each status says
-- the model file means a problem with this base bound, and the line has it
abbrev pub FindsBound : Files → (model_file : List ℕ) → Printed → Printed → Type 0
FindsBound before m = Tells ℕ (λ least. ModelIsBounded before m (bound least)) (λ least. bound_line (bound least))

-- it means one without a point, and the line says so
pub record FindsNoPoint (before : Files) (model_file : List ℕ) (out_old out_new : Printed) : Type 0 where
  pub holds : ModelIsBounded before model_file empty
  pub line : Gains (bound_line empty) out_old out_new

-- it means one whose tableau is too large, or whose run comes to a number that doesn't fit, and the line says which
abbrev pub FindsNoBound : Files → (model_file : List ℕ) → Printed → Printed → Type 0
FindsNoBound before m = TellsAs status.Undecided BoundAnswer bound_status (ModelIsBounded before m) bound_line

-- ---- the command
abbrev pub bound_meaning : List ℕ → Meaning
bound_meaning m = record {
  does = BoundDoes m;
  reads = m ∷ [];
  passes = [];
  writes = [];
  stops = ModelExplains m;
  overlong = λ old. ⊥;
  calls_for = λ file. BoundCallsFor (file m);
  may_be_left = λ file. MayPass (file m);
}
