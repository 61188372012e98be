use Rattle.std.proofs.Common.{◌≡◌}
use Rattle.tree_search.specs.Counts.{branches}
use Rattle.tree_search.specs.Growing.{unexamined}
use Rattle.tree_search.specs.Guided.{AtNode, IsGuided, IsLater, IsSameNode, IsSoundTree, StaysEnded}
use Rattle.tree_search.proofs.settling.settle.Given as goal

abbrev pub invariant-loop-alloc : goal.invariant-loop-alloc
invariant-loop-alloc g l = record {
  node : AtNode l.node (IsGuided g.G.Guide l.guide);
  state : g.G.Guide.IsState l.guide l.state;
  same_node : IsSameNode l.fn.node l.node;
  later : IsLater g.G.Guide l.guide l.fn.state l.state;
  count : branches l.tree ≡ branches l.fn.first;
  tree : AtNode l.fn.node (IsSoundTree g.G.Guide l.guide l.state l.tree);
  ended : AtNode l.fn.node (StaysEnded g.G.Guide l.fn.state l.state l.fn.first l.tree);
}

abbrev pub decreases-loop-alloc : goal.decreases-loop-alloc
decreases-loop-alloc g l = unexamined l.tree
