use Rattle.std.proofs.Common.{◌-◌}
use Rattle.backlog_dp.specs.Search.{HoldsTo, IsAfter, IsKept, serves_at}
use Rattle.backlog_dp.proofs.rising.holds_for.Given as goal

abbrev pub invariant-loop-last : goal.invariant-loop-last
invariant-loop-last l = record {
  here : IsAfter l.steps l.costs (l.last - 1) l.here;
  kept : IsKept l.steps l.costs (serves_at l.backlogged l.server l.periods) (l.last - 1) l.kept;
  holds : HoldsTo l.steps l.costs l.periods l.setup l.backlogged l.server (l.last - 1);
}
