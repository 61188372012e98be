use Rattle.std.proofs.Common.{length}
use Rattle.lot_sizing.specs.Problem.{entry}
use Rattle.echelon.specs.Order.{IsOrderedTo}
use Rattle.echelon.proofs.explosion.order_of.Given as goal

abbrev pub invariant-loop-rank : goal.invariant-loop-rank
invariant-loop-rank l = IsOrderedTo (entry l.ranks) (length l.ranks) l.rank 1 l.order.items
