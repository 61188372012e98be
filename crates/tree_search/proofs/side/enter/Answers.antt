use Rattle.tree_search.proofs.Sides.{side_holds}
use Rattle.tree_search.proofs.side.enter.Goals as goal

pub returns-clause-node : goal.returns-clause-node
returns-clause-node g c = record {
  ordered = c.in_ok-go_down.ensures.ordered c.requires.node.ordered;
  node = side_holds (g.G.Guide.IsNode c.args.guide.now) (g.G.Guide.rules c.args.guide.now).place (g.met.G.Guide.sides c.args.guide.now) c.args.most c.args.node.now.ranges.items c.go_down.new.node.ranges.items c.args.node.now.path.items c.go_down.new.node.path.items c.args.split.column c.args.split.place c.args.split.at c.requires.branch.place c.requires.node.node c.requires.branch.split c.in_ok-go_down.ensures.side.ranges c.in_ok-go_down.ensures.side.path;
}
