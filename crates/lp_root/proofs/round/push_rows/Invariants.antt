use Rattle.std.proofs.Common.{take}
use Rattle.lp_root.specs.RootSteps.{IsReady}
use Rattle.lp_root.proofs.round.push_rows.Given as goal

abbrev pub invariant-loop-index : goal.invariant-loop-index
invariant-loop-index l = IsReady l.instance (take l.index l.rows) l.program
