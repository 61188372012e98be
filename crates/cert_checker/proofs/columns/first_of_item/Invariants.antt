use Rattle.std.proofs.Common.{◌<◌}
use Rattle.lin_rows.specs.declared.column.Column.{Column}
use Rattle.lin_rows.specs.Sums.{period_of}
use Rattle.cert_checker.specs.Named.{IsOfItem, IsWithinCost}
use Rattle.cert_checker.proofs.columns.first_of_item.Given as goal

abbrev pub invariant-loop-period : goal.invariant-loop-period
invariant-loop-period l = (d : Column) → IsOfItem l.kind l.item d → period_of d < l.period → IsWithinCost l.instance l.den l.sums d
