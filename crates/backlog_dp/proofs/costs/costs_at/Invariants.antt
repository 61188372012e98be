use Rattle.std.proofs.Common.{◌-◌, ◌*◌}
use Rattle.lot_sizing.specs.Problem.{entry}
use Rattle.echelon.specs.Views.{HasEach}
use Rattle.backlog_dp.proofs.costs.costs_at.Given as goal

abbrev pub invariant-loop-position : goal.invariant-loop-position
invariant-loop-position l = HasEach (l.position - 1) (λ p. entry l.net (entry l.periods p) * entry l.prices (entry l.periods p)) l.costs.items
