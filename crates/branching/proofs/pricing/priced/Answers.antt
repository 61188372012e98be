use Rattle.std.proofs.Common.{refl}
use Rattle.tree_search.proofs.Endless.{at_most-refl}
use Rattle.incumbent.specs.Kept.{cost_kept}
use Rattle.branching.proofs.Points.{after_kept, known_kept}
use Rattle.branching.specs.Branching.{after_on, lasting_stays}
use Rattle.branching.proofs.pricing.priced.Goals as goal

pub stronger-stronger-requires-clause-lasting : goal.stronger-stronger-requires-clause-lasting
stronger-stronger-requires-clause-lasting ghosts c =
    let g = c.args.guided.now.model in
    lasting_stays g.instance.now g.version g.least _ c.leaf_of.new.state.known c.args.node.now.path.items c.args.proposal
    (after_on _ _ _ c.in_ok-improve.ensures.after c.in_ok-found.ensures.more.after) c.requires.lasting

pub returns-then-not-is_open-clause-more : goal.returns-then-not-is_open-clause-more
returns-then-not-is_open-clause-more ghosts c = record {
  known = known_kept c.args.guided.now.model c.args.state.now.known _ refl refl refl c.requires.reached.known.best c.requires.reached.known;
  after = after_kept c.args.state.now.known _ refl;
  kept = at_most-refl (cost_kept c.args.state.now.known.best);
}
