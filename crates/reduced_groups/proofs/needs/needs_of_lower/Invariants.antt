use Rattle.std.proofs.Common.{◌≡◌, ◌-◌}
use Rattle.lot_sizing.specs.Sums.{sum_to}
use Rattle.lot_sizing.specs.Problem.{demand}
use Rattle.must_start.specs.Rows.{start_in}
use Rattle.reduced_groups.specs.Groups.{asked_besides}
use Rattle.reduced_groups.specs.Levels.{HasSeries}
use Rattle.reduced_groups.proofs.needs.needs_of_lower.Given as goal

abbrev pub invariant-loop-period : goal.invariant-loop-period
invariant-loop-period l = record {
  demanded : l.demanded ≡ sum_to (l.period - 1) (demand l.instance l.item);
  before : l.before ≡ asked_besides l.instance (start_in l.started) l.item l.next (l.period - 1);
  list : HasSeries (l.period - 1) (λ t. asked_besides l.instance (start_in l.started) l.item l.next t - asked_besides l.instance (start_in l.started) l.item l.next (t - 1)) l.list.items;
}
