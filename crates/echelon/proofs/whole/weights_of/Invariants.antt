use Rattle.std.proofs.Common.{◌-◌}
use Rattle.echelon.specs.Views.{HasEach}
use Rattle.echelon.specs.Weights.{weight_in}
use Rattle.echelon.proofs.whole.weights_of.Given as goal

abbrev pub invariant-loop-other : goal.invariant-loop-other
invariant-loop-other l = HasEach (l.other - 1) (weight_in l.explosion l.item) l.list.items
