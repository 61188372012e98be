use Rattle.std.proofs.Common.{◌≡◌, ◌+◌, ◌-◌, ◌++◌}
use Rattle.uncoupled.specs.Blocks.{each_once}
use Rattle.uncoupled.proofs.blocks.cuts_once.Given as goal

abbrev pub invariant-loop-cut : goal.invariant-loop-cut
invariant-loop-cut l = l.parts.items ++ each_once l.cut (l.count + 1 - l.cut) ≡ each_once 1 l.count
