use Rattle.std.proofs.Common.{◌≡◌}
use Rattle.heur_build.proofs.patterns.want_servers.Given as goal

abbrev pub invariant-loop-block : goal.invariant-loop-block
invariant-loop-block l = record {
  items : l.wanted.items ≡ l.fn.wanted.items;
  periods : l.wanted.periods ≡ l.fn.wanted.periods;
}
