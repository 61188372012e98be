use Rattle.incumbent.specs.Kept.{IsNoWorseBest}
use Rattle.heur_plugin.proofs.setup_walking.walk_over_setups.Given as goal

abbrev pub invariant-loop-seed : goal.invariant-loop-seed
invariant-loop-seed l = IsNoWorseBest l.scope.instance.now l.scope.ranges.now l.best l.initial.best
