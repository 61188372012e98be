use Rattle.std.proofs.Common.{◌≡◌, ◌-◌}
use Rattle.lin_rows.specs.Points.{read_at}
use Rattle.echelon_rows.specs.Rows.{echelon_in}
use Rattle.ls_cuts.specs.Steps.{OwedFitsTo, owed_to}
use Rattle.ls_cuts.proofs.backlogs.owed.Given as goal

abbrev pub invariant-loop-item : goal.invariant-loop-item
invariant-loop-item l = record {
  value : l.sum ≡ owed_to (echelon_in l.echelon) (read_at l.point) l.period (l.item - 1);
  fits : OwedFitsTo (echelon_in l.echelon) (read_at l.point) l.period (l.item - 1);
}
