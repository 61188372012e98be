use Rattle.std.proofs.Common.{◌-◌}
use Rattle.lot_sizing.specs.Echelon.{echelon_demand}
use Rattle.echelon.specs.Views.{HasEach}
use Rattle.echelon.specs.Weights.{weight_in}
use Rattle.echelon.proofs.whole.demands_of.Given as goal

abbrev pub invariant-loop-period : goal.invariant-loop-period
invariant-loop-period l = HasEach (l.period - 1) (echelon_demand l.instance (weight_in l.explosion) l.item) l.list.items
