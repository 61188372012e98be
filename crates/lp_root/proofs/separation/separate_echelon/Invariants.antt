use Rattle.std.proofs.Common.{◌-◌}
use Rattle.lin_rows.specs.Points.{read_at}
use Rattle.lp_root.specs.Rounds.{AreCutsAt, AreJoined}
use Rattle.lp_root.specs.RootSteps.{Puts}
use Rattle.lp_root.proofs.separation.separate_echelon.Given as goal

abbrev pub invariant-loop-l : goal.invariant-loop-l
invariant-loop-l l = Puts l.instance (AreJoined (l.l - 1) (AreCutsAt l.echelon (read_at l.point))) l.fn.list l.list
