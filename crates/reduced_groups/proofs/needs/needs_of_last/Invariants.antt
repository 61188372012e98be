use Rattle.std.proofs.Common.{◌-◌}
use Rattle.must_start.specs.Rows.{start_in}
use Rattle.reduced_groups.specs.Levels.{HasSeries}
use Rattle.reduced_groups.proofs.needs.needs_of_last.Given as goal

abbrev pub invariant-loop-period : goal.invariant-loop-period
invariant-loop-period l = HasSeries (l.period - 1) (λ t. start_in l.started l.item t - start_in l.started l.item (t - 1)) l.list.items
