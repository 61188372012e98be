use Rattle.std.proofs.Common.{◌∙◌, sym, []}
use Rattle.branching.specs.Branching.{lasting_on}
use Rattle.branching.proofs.Evidence.{then_on}
use Rattle.branching.proofs.guiding.GuidedGuideWatchedStateState.start.Goals as goal

pub watched_leaf-requires-clause-above : goal.watched_leaf-requires-clause-above
watched_leaf-requires-clause-above ghosts c =
    let g = c.args.self.now.model in
    lasting_on g.instance.now g.version g.least c.args.state.now.work.known.rows.items [] c.args.node.now.path.items g.first c.requires.state.known.begun.lasting

pub returns-clause-state : goal.returns-clause-state
returns-clause-state ghosts c = then_on c.watched_leaf.result _ _ (λ more. record { known = more.known; ended = λ still. c.watched_leaf.ensures.ended ∙ c.requires.state.ended (sym c.watched_leaf.ensures.may ∙ still) }) c.watched_leaf.ensures.more

pub returns-clause-grows : goal.returns-clause-grows
returns-clause-grows ghosts c = then_on c.watched_leaf.result _ _ (λ more. record { after = more.after; may = sym c.watched_leaf.ensures.may }) c.watched_leaf.ensures.more

pub returns-clause-kept : goal.returns-clause-kept
returns-clause-kept ghosts c = then_on c.watched_leaf.result _ _ (λ more. more.kept) c.watched_leaf.ensures.more
