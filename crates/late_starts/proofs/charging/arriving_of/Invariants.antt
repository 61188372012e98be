use Rattle.std.proofs.Common.{◌-◌}
use Rattle.lot_sizing.specs.Problem.{entry}
use Rattle.must_start.specs.Rows.{start_in}
use Rattle.late_starts.proofs.Loading.{HasArriving}
use Rattle.late_starts.proofs.charging.arriving_of.Given as goal

abbrev pub invariant-loop-period : goal.invariant-loop-period
invariant-loop-period l = HasArriving l.instance (start_in l.on_time) (λ _. entry l.loads) l.item (l.period - 1) l.list.items
