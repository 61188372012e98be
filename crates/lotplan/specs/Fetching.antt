-- How the failures of fetches go with what is said.
use Rattle.std.specs.Prelude.{◌⊎◌, ⊤}
use Rattle.lot_io.specs.Outside.{Fails, Finds, Misses, Shelved}
use Rattle.lotplan.specs.Reading.{read_meant, read_status}
use Rattle.lotplan.specs.Judging.{judge_meant, judge_status}
use Rattle.lotplan.specs.Checking.{check_meant, check_status}
use Rattle.lotplan.specs.Completing.{table_meant, table_status}
use Rattle.lotplan.specs.declared.model_file.Stop.{Stop}
use Rattle.lotplan.specs.declared.model_file.Stop.TheVariants as stop
use Rattle.lotplan.specs.declared.model_file.PlanStop.{PlanStop}
use Rattle.lotplan.specs.declared.model_file.PlanStop.TheVariants as plan_stop
use Rattle.lotplan.specs.declared.commands.judge.NotFeasible.{NotFeasible}
use Rattle.lotplan.specs.declared.commands.judge.NotFeasible.TheVariants as not_feasible
use Rattle.lotplan.specs.declared.commands.complete.NoTable.{NoTable}
use Rattle.lotplan.specs.declared.commands.complete.NoTable.TheVariants as no_table
use Rattle.lotplan.specs.declared.commands.draw.NotDrawn.{NotDrawn}
use Rattle.lotplan.specs.declared.commands.draw.NotDrawn.TheVariants as not_drawn
use Rattle.lotplan.specs.declared.status.Status.{Status}
use Rattle.lotplan.specs.declared.status.Status.TheVariants as status

-- with `Missing` one name was not found, with `Unread` one fetch failed, and with each other status every name was found and no fetch failed
abbrev pub FetchesAs : Status → Shelved → Shelved → Type 0
FetchesAs status.Missing old new = Misses old new
FetchesAs status.Unread old new = Fails old new
FetchesAs _ old new = Finds old new

-- at most one name was not found or one fetch failed
abbrev pub FailsAtMostOnce : Shelved → Shelved → Type 0
FailsAtMostOnce old new = Finds old new ⊎ (Misses old new ⊎ Fails old new)

-- ---- why a command doesn't go on: by the status that is answered; of memory nothing is owed
abbrev pub StopFetches : Shelved → Shelved → Stop → Type 0
StopFetches old new (stop.Answered why) = FetchesAs (read_status (read_meant why)) old new
StopFetches old new stop.Memory = ⊤

-- of a plan file
abbrev pub PlanStopFetches : Shelved → Shelved → PlanStop → Type 0
PlanStopFetches old new (plan_stop.NoPlan fault) = Finds old new
PlanStopFetches old new (plan_stop.Answered why) = FetchesAs (read_status (read_meant why)) old new
PlanStopFetches old new plan_stop.Memory = ⊤

-- of a model and a plan that isn't feasible
abbrev pub NotFeasibleFetches : Shelved → Shelved → NotFeasible → Type 0
NotFeasibleFetches old new (not_feasible.Judged answer) = FetchesAs (judge_status (judge_meant answer)) old new
NotFeasibleFetches old new not_feasible.Memory = ⊤

-- of a model and a file that holds no table
abbrev pub NoTableFetches : Shelved → Shelved → NoTable → Type 0
NoTableFetches old new (no_table.Answered answer) = FetchesAs (table_status (table_meant answer)) old new
NoTableFetches old new no_table.Memory = ⊤

-- of files whose plan isn't drawn
abbrev pub NotDrawnFetches : Shelved → Shelved → NotDrawn → Type 0
NotDrawnFetches old new (not_drawn.Judged answer) = FetchesAs (judge_status (judge_meant answer)) old new
NotDrawnFetches old new (not_drawn.Unproved answer) = FetchesAs (check_status (check_meant answer)) old new
NotDrawnFetches old new not_drawn.Memory = ⊤
