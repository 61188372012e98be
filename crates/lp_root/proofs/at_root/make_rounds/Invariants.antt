use Rattle.std.proofs.Common.{◌-◌}
use Rattle.lp_root.specs.RootSteps.{AreRounds}
use Rattle.lp_root.proofs.at_root.make_rounds.Given as goal

abbrev pub invariant-loop-round : goal.invariant-loop-round
invariant-loop-round l = AreRounds l.instance (l.round - 1) l.state
