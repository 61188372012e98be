use Rattle.std.proofs.Common.{length}
use Rattle.lot_sizing.specs.Problem.{entry}
use Rattle.echelon.specs.Order.{IsOrderedTo}
use Rattle.echelon.proofs.explosion.order_rank.Given as goal

abbrev pub invariant-loop-item : goal.invariant-loop-item
invariant-loop-item l = IsOrderedTo (entry l.ranks) (length l.ranks) l.rank l.item l.order.items
