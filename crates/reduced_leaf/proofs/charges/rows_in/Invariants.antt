use Rattle.std.proofs.Common.{◌-◌}
use Rattle.std.specs.Prelude.{map}
use Rattle.reduced_groups.specs.Apart.{share_in}
use Rattle.reduced_groups.specs.Floors.{shape_of}
use Rattle.reduced_leaf.specs.Found.{HaveSeries}
use Rattle.reduced_leaf.proofs.charges.rows_in.Given as goal

abbrev pub invariant-loop-item : goal.invariant-loop-item
invariant-loop-item l = HaveSeries (l.item - 1) l.instance.periods (share_in (map shape_of l.groups)) (map (λ v. v.items) l.rows.items)
