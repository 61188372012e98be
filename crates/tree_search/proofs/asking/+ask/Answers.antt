use Rattle.std.proofs.Common.{◌∙◌, rules, true, false, None}
use Rattle.tree_search.specs.Trees.{least_said}
use Rattle.tree_search.specs.Guided.{AreDeep, AtNode, AtSide, IsBranchOf, IsGuided, IsSameNode, IsSoundTree}
use Rattle.tree_search.proofs.Ends.{least_joined}
use Rattle.tree_search.proofs.Guided.{back_node, deep_joined, node_moved, same_back, side_deep, side_later, side_moved, tree_joined}
use Rattle.tree_search.proofs.asking.+ask.Goals as goal

pub ask_branch-ask_side-requires-2 : goal.ask_branch-ask_side-requires-2
ask_branch-ask_side-requires-2 g t c =
    let guide = c.args.asking.now.guide.now in
    let split = c.args.split in
    let old = c.args.node.now in
    let mid = c.ask_side.new.node in
    let s0 = c.args.state.now in
    let s1 = c.ask_side.new.state in
    let same : IsSameNode old mid = c.in_ok-left.ensures.same_node in
    let node : AtNode mid (IsGuided g.G.Guide guide) = node_moved (IsGuided g.G.Guide guide) old mid same c.requires.node in
    let branch : AtNode mid (IsBranchOf (g.G.Guide.rules guide) split) = node_moved (IsBranchOf (g.G.Guide.rules guide) split) old mid same c.requires.branch in
    let high : AtSide false mid split (IsSoundTree g.G.Guide guide s1 c.args.high) =
    side_moved (IsSoundTree g.G.Guide guide s1 c.args.high) false split old mid same
    (side_later g.G.Guide guide s0 s1 c.in_ok-left.ensures.later
    (λ x y leaf h. g.met.G.Guide.stays guide s0 s1 x y leaf c.in_ok-left.ensures.later.grows h)
    false old split c.args.high c.requires.high) in
    search rules

pub ask_branch-returns-clause-tree : goal.ask_branch-returns-clause-tree
ask_branch-returns-clause-tree g t c =
    let guide = c.args.asking.now.guide.now in
    let split = c.args.split in
    let old = c.args.node.now in
    let mid = c.ask_side.new.node in
    let s1 = c.ask_side.new.state in
    let s2 = c.ask_side-2.new.state in
    let left = c.in_ok-left.left in
    let right = c.in_ok-right.right in
    tree_joined g.G.Guide guide s2 old split left right c.in_ok-join.field-0 c.in_ok-join.ensures c.requires.branch
    (side_later g.G.Guide guide s1 s2 c.in_ok-right.ensures.later
    (λ x y leaf h. g.met.G.Guide.stays guide s1 s2 x y leaf c.in_ok-right.ensures.later.grows h)
    true old split left c.in_ok-left.ensures.tree)
    (side_moved (IsSoundTree g.G.Guide guide s2 right) false split mid old (same_back old mid c.in_ok-left.ensures.same_node) c.in_ok-right.ensures.tree)

pub ask_branch-returns-clause-deep : goal.ask_branch-returns-clause-deep
ask_branch-returns-clause-deep g t c =
    λ deep_low deep_high.
    let split = c.args.split in
    let old = c.args.node.now in
    let mid = c.ask_side.new.node in
    let best0 = g.G.Guide.cost c.args.state.now in
    let best1 = g.G.Guide.cost c.ask_side.new.state in
    let best2 = g.G.Guide.cost c.ask_side-2.new.state in
    let left = c.in_ok-left.left in
    let right = c.in_ok-right.right in
    let same : IsSameNode old mid = c.in_ok-left.ensures.same_node in
    let before : AtSide false mid split (AreDeep None best1 c.args.high) =
    side_moved (AreDeep None best1 c.args.high) false split old mid same
    (side_deep None best0 best1 false old split c.args.high c.in_ok-left.ensures.later.kept deep_high) in
    deep_joined None best2 old split left right c.in_ok-join.field-0 c.in_ok-join.ensures
    (side_deep None best1 best2 true old split left c.in_ok-right.ensures.later.kept (c.in_ok-left.ensures.deep deep_low))
    (side_moved (AreDeep None best2 right) false split mid old (same_back old mid same) (c.in_ok-right.ensures.deep before))

pub ask_side-returns-clause-same_node : goal.ask_side-returns-clause-same_node
ask_side-returns-clause-same_node g t c =
    back_node c.args.most c.args.node.now c.ask_tree.new.node c.leave.new.node c.args.split c.in_ok-range.range c.in_ok-range.ensures.range
    (c.in_ok-examined.ensures.same_node.ranges ∙ c.in_ok-range.ensures.side.ranges)
    (c.in_ok-examined.ensures.same_node.path ∙ c.in_ok-range.ensures.side.path)
    c.leave.ensures.ranges c.leave.ensures.path

pub ask_branch-returns-clause-risen : goal.ask_branch-returns-clause-risen
ask_branch-returns-clause-risen g t c =
    let split = c.args.split in
    least_joined split.column split.place split.at c.in_ok-left.left c.in_ok-right.right c.in_ok-join.field-0 (least_said c.args.low) (least_said c.args.high) c.in_ok-join.ensures c.in_ok-left.ensures.risen c.in_ok-right.ensures.risen
