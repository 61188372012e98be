use Rattle.tree_search.proofs.Guided.{back_node}
use Rattle.tree_search.proofs.splitting.propose_side.Goals as goal

pub returns-clause-same_node : goal.returns-clause-same_node
returns-clause-same_node g c =
    back_node c.args.side.most c.args.node.now c.enter.new.node c.leave.new.node c.args.side.split c.in_ok-range.range c.in_ok-range.ensures.range c.in_ok-range.ensures.side.ranges c.in_ok-range.ensures.side.path c.leave.ensures.ranges c.leave.ensures.path
