use Rattle.std.proofs.Common.{map}
use Rattle.csv.specs.Records.{fields_of}
use Rattle.plan_rules.specs.Held.{AllFit, plan_of}
use Rattle.plan_file.specs.Numbers.{AreReadBefore}
use Rattle.plan_file.proofs.reading.read_records.Given as goal

abbrev pub invariant-loop-item : goal.invariant-loop-item
invariant-loop-item l = AllFit l.instance l.plan × AreReadBefore l.instance (map fields_of l.rows) (plan_of l.plan) l.item
