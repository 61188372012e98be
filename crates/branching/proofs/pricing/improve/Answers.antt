use Rattle.tree_search.proofs.Endless.{at_most-refl}
use Rattle.incumbent.specs.Kept.{cost_kept}
use Rattle.branching.specs.Branching.{after_same}
use Rattle.branching.proofs.pricing.improve.Goals as goal

pub loop-time-init : goal.loop-time-init
loop-time-init g c = record {
  known = c.requires;
  after = after_same c.args.state.now.known;
  kept = at_most-refl (cost_kept c.args.state.now.known.best);
}
