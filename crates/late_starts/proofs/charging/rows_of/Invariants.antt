use Rattle.std.proofs.Common.{◌-◌, map}
use Rattle.late_starts.specs.Steps.{HasEach, charge_by}
use Rattle.late_starts.proofs.Loading.{AreRowsTo}
use Rattle.late_starts.proofs.charging.rows_of.Given as goal

abbrev pub invariant-loop-item : goal.invariant-loop-item
invariant-loop-item l = AreRowsTo (l.item - 1) (λ i xs. HasEach l.instance.periods (charge_by l.instance l.arriving i) xs) (map (λ v. v.items) l.rows.items)
