use Rattle.std.proofs.Common.{◌-◌, ◌*◌}
use Rattle.lot_sizing.specs.Problem.{demand}
use Rattle.echelon.specs.Weights.{weight_in}
use Rattle.echelon.proofs.Wholes.{IsSumTo}
use Rattle.echelon.proofs.whole.demand_of.Given as goal

abbrev pub invariant-loop-other : goal.invariant-loop-other
invariant-loop-other l = IsSumTo (λ k. weight_in l.explosion l.item k * demand l.instance k l.period) (l.other - 1) l.sum
