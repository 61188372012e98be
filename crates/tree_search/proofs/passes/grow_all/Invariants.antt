use Rattle.std.proofs.Common.{◌≡◌, ◌+◌}
use Rattle.tree_search.specs.Counts.{branches}
use Rattle.tree_search.specs.Guided.{AtNode, IsGuided, IsLater, IsSameNode, IsSoundTree}
use Rattle.tree_search.proofs.passes.grow_all.Given as goal

abbrev pub invariant-loop : goal.invariant-loop
invariant-loop g l = record {
  node : AtNode l.node (IsGuided g.G.Guide l.passes.guide.now);
  state : g.G.Guide.IsState l.passes.guide.now l.state;
  same_node : IsSameNode l.fn.node l.node;
  later : IsLater g.G.Guide l.passes.guide.now l.fn.state l.state;
  rest : branches l.tree + l.room ≡ branches l.fn.first + l.fn.room;
  tree : AtNode l.fn.node (IsSoundTree g.G.Guide l.passes.guide.now l.state l.tree);
}
