use Rattle.std.proofs.Common.{◌≡◌}
use Rattle.branching.specs.Knowing.{IsAfter, IsKnown}
use Rattle.branching.proofs.adding.add_cuts.Given as goal

abbrev pub invariant-loop-cut : goal.invariant-loop-cut
invariant-loop-cut l = record {
  known : IsKnown l.model l.known;
  after : IsAfter l.initial.known l.known;
  best : l.known.best ≡ l.initial.known.best;
}
