use Rattle.tree_search.proofs.Guided.{ended_later}
use Rattle.tree_search.proofs.settling.ask_least.Goals as goal

pub returns-in_ok-asked-in-Some-clause-ended : goal.returns-in_ok-asked-in-Some-clause-ended
returns-in_ok-asked-in-Some-clause-ended g c =
    let after = c.in_ok-asked-in-Some.ensures in
    ended_later g.G.Guide c.args.state.now _ c.args.node.now c.args.tree c.in_ok-asked-in-Some.asked after.later.kept after.deep after.risen
