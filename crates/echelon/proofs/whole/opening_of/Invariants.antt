use Rattle.std.proofs.Common.{◌-◌, ◌*◌}
use Rattle.lot_sizing.specs.Problem.{item_at}
use Rattle.echelon.specs.Weights.{weight_in}
use Rattle.echelon.proofs.Wholes.{IsSumTo}
use Rattle.echelon.proofs.whole.opening_of.Given as goal

abbrev pub invariant-loop-other : goal.invariant-loop-other
invariant-loop-other l = IsSumTo (λ k. weight_in l.explosion l.item k * (item_at l.instance k).opening) (l.other - 1) l.sum
