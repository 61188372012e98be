use Rattle.std.proofs.Common.{◌<◌}
use Rattle.lin_rows.specs.declared.column.Column.{Column}
use Rattle.lin_rows.specs.Sums.{item_of}
use Rattle.cert_checker.specs.Named.{IsOfKind, IsWithinCost}
use Rattle.cert_checker.proofs.columns.first_of_kind.Given as goal

abbrev pub invariant-loop-item : goal.invariant-loop-item
invariant-loop-item l = (d : Column) → IsOfKind l.kind d → item_of d < l.item → IsWithinCost l.instance l.den l.sums d
