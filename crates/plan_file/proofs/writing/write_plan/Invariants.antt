use Rattle.std.proofs.Common.{◌≤◌, ◌<◌, ◌-◌, ◌∷◌, ℕ}
use Rattle.plan_rules.specs.Held.{plan_of}
use Rattle.csv_records.specs.Written.{HasWritten}
use Rattle.plan_file.specs.Records.{header}
use Rattle.plan_file.specs.Written.{FitIn64, lists_to, records_of_item}
use Rattle.plan_file.proofs.writing.write_plan.Given as goal

-- the header, and the records of the items so far
abbrev pub invariant-loop-item : goal.invariant-loop-item
invariant-loop-item l = record {
  rows : HasWritten l.writer (header ∷ lists_to (l.item - 1) (records_of_item l.instance (plan_of l.plan)));
  fit : (i t : ℕ) → 1 ≤ i → i < l.item → 1 ≤ t → t ≤ l.instance.periods → FitIn64 (plan_of l.plan) i t;
}
