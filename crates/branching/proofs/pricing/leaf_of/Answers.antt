use Rattle.std.proofs.Common.{refl}
use Rattle.branching.proofs.Points.{after_kept}
use Rattle.branching.proofs.pricing.leaf_of.Goals as goal

pub returns-in-None-clause-more : goal.returns-in-None-clause-more
returns-in-None-clause-more ghosts c = record {
  known = c.requires.reached.known;
  after = after_kept c.args.state.now.known _ refl;
  best = refl;
}
