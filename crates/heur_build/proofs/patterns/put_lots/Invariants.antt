use Rattle.std.proofs.Common.{◌≡◌}
use Rattle.heur_build.proofs.patterns.put_lots.Given as goal

abbrev pub invariant-loop-back : goal.invariant-loop-back
invariant-loop-back l = record {
  items : l.make.items ≡ l.fn.make.items;
  periods : l.make.periods ≡ l.fn.make.periods;
}
