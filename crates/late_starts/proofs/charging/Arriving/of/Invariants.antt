use Rattle.std.proofs.Common.{map}
use Rattle.lot_sizing.specs.Problem.{entry}
use Rattle.must_start.specs.Rows.{start_in}
use Rattle.late_starts.specs.Rows.{cell_in}
use Rattle.late_starts.specs.Steps.{IsLoadedTo, depth_by}
use Rattle.late_starts.proofs.charging.Arriving.of.Given as goal

abbrev pub invariant-loop-depth : goal.invariant-loop-depth
invariant-loop-depth l = IsLoadedTo l.instance (start_in l.on_time) (cell_in (map (λ v. v.items) l.shares)) (depth_by l.instance (entry l.ranks)) l.depth 1 l.arriving
