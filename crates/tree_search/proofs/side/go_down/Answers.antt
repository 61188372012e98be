use Rattle.tree_search.proofs.Sides.{entered_ordered}
use Rattle.tree_search.proofs.side.go_down.Goals as goal

pub returns-clause-ordered : goal.returns-clause-ordered
returns-clause-ordered c = entered_ordered c.args.most c.args.node.now.ranges.items c.args.split.place c.args.split.at c.index-range.result.now c.part.result c.requires c.index-range.ensures c.part.ensures
