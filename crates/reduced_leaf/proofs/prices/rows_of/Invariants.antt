use Rattle.std.proofs.Common.{◌-◌}
use Rattle.std.specs.Prelude.{map}
use Rattle.reduced_leaf.specs.Found.{HaveSeries, column_of, left_price}
use Rattle.reduced_leaf.proofs.prices.rows_of.Given as goal

abbrev pub invariant-loop-item : goal.invariant-loop-item
invariant-loop-item l = HaveSeries (l.item - 1) l.instance.periods (λ i t. left_price l.instance l.sums l.den (column_of l.kind i t)) (map (λ v. v.items) l.rows.items)
