use Rattle.std.proofs.Common.{◌-◌}
use Rattle.reduced_groups.specs.Levels.{HasSeries}
use Rattle.reduced_leaf.specs.Found.{column_of, left_price}
use Rattle.reduced_leaf.proofs.prices.row_of.Given as goal

abbrev pub invariant-loop-period : goal.invariant-loop-period
invariant-loop-period l = HasSeries (l.period - 1) (λ t. left_price l.instance l.sums l.den (column_of l.kind l.item t)) l.row.items
