use Rattle.std.proofs.Common.{◌≤◌, ◌<◌, ◌-◌, ℕ}
use Rattle.plan_rules.specs.Held.{plan_of}
use Rattle.csv_records.specs.Written.{HasAdded}
use Rattle.plan_file.specs.Written.{FitIn64, list_to, record_of}
use Rattle.plan_file.proofs.writing.add_item.Given as goal

-- the records of the periods so far are written
abbrev pub invariant-loop-period : goal.invariant-loop-period
invariant-loop-period l = record {
  rows : HasAdded l.fn.writer l.writer (list_to (l.period - 1) (record_of l.instance (plan_of l.plan) l.item));
  fit : (t : ℕ) → 1 ≤ t → t < l.period → FitIn64 (plan_of l.plan) l.item t;
}
