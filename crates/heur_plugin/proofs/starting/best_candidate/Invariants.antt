use Rattle.std.proofs.Common.{vec_len}
use Rattle.std.specs.Prelude.{IfSome}
use Rattle.std.specs.List.{All}
use Rattle.own_plan.specs.Made.{IsMade}
use Rattle.incumbent.specs.Kept.{IsMadeWithin}
use Rattle.node_domains.specs.Within.{given_ranges}
use Rattle.heur_plugin.proofs.starting.best_candidate.Given as goal

abbrev pub invariant-loop-made : goal.invariant-loop-made
invariant-loop-made l = record {
  made : IfSome l.best (IsMadeWithin l.scope.instance.now (given_ranges l.scope.ranges.now));
  each : All (IsMade l.scope.instance.now) l.list.items;
}

abbrev pub decreases-loop-made : goal.decreases-loop-made
decreases-loop-made l = vec_len l.list
