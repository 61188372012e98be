use Rattle.std.proofs.Common.{◌-◌}
use Rattle.lin_rows.specs.Points.{read_at}
use Rattle.lp_root.specs.Rounds.{AreCutsOf, AreJoined}
use Rattle.lp_root.specs.RootSteps.{Puts, WithWeights}
use Rattle.lp_root.proofs.separation.separate_all.Given as goal

abbrev pub invariant-loop-item : goal.invariant-loop-item
invariant-loop-item l = Puts l.instance (λ cuts. WithWeights l.instance (λ weight. AreJoined (l.item - 1) (AreCutsOf l.instance weight (read_at l.point)) cuts)) l.fn.list l.list
