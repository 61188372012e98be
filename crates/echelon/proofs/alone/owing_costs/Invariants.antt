use Rattle.std.proofs.Common.{◌≡◌, ◌-◌, IfSome, take}
use Rattle.lot_sizing.specs.Problem.{item_at}
use Rattle.echelon.proofs.alone.owing_costs.Given as goal

abbrev pub invariant-loop-period : goal.invariant-loop-period
invariant-loop-period l = IfSome (item_at l.instance l.item).backlog_cost (λ costs. l.list.items ≡ take (l.period - 1) costs)
