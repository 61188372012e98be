use Rattle.std.proofs.Common.{◌≡◌, ◌≤◌, ◌∙◌, sym, arith, rules, true, false}
use Rattle.tree_search.specs.Guided.{AreDeep, AtNode, AtSide, IsBranchOf, IsGuided, IsSameNode, IsSoundTree}
use Rattle.tree_search.proofs.Guided.{back_node, deep_joined, later_if, later_on, node_moved, same_back, side_deep, side_later, side_moved, tree_joined}
use Rattle.tree_search.proofs.growing.+grow.Goals as goal

pub grow_leaf-returns-clause-later : goal.grow_leaf-returns-clause-later
grow_leaf-returns-clause-later g t c =
    let guide = c.args.pass.now.guide.now in
    let s0 = c.args.state.now in
    let s1 = c.goes_on.new.state in
    let s2 = c.propose_sides.new.state in
    let s3 = c.grow_branch.new.state in
    later_if c.grow_branch.result g.G.Guide guide s0 s2 s3 (g.met.G.Guide.grows_on s0 s2 s3) (later_on g.G.Guide guide s0 s1 s2 (g.met.G.Guide.grows_on s0 s1 s2) c.goes_on.ensures.later c.in_ok-sides.ensures.later) c.grow_branch.ensures.later

pub grow_branch-grow_side-requires-2 : goal.grow_branch-grow_side-requires-2
grow_branch-grow_side-requires-2 g t c =
    let guide = c.args.pass.now.guide.now in
    let split = c.args.split in
    let old = c.args.node.now in
    let mid = c.grow_side.new.node in
    let s0 = c.args.state.now in
    let s1 = c.grow_side.new.state in
    let same : IsSameNode old mid = c.in_ok-left.ensures.same_node in
    let less : c.grow_side.new.room ≤ c.args.room.now = c.in_ok-left.ensures.less in
    let node : AtNode mid (IsGuided g.G.Guide guide) = node_moved (IsGuided g.G.Guide guide) old mid same c.requires.node in
    let branch : AtNode mid (IsBranchOf (g.G.Guide.rules guide) split) = node_moved (IsBranchOf (g.G.Guide.rules guide) split) old mid same c.requires.branch in
    let high : AtSide false mid split (IsSoundTree g.G.Guide guide s1 c.args.halves.high) =
    side_moved (IsSoundTree g.G.Guide guide s1 c.args.halves.high) false split old mid same
    (side_later g.G.Guide guide s0 s1 c.in_ok-left.ensures.later
    (λ x y leaf h. g.met.G.Guide.stays guide s0 s1 x y leaf c.in_ok-left.ensures.later.grows h)
    false old split c.args.halves.high c.requires.high) in
    search rules

pub grow_branch-returns-clause-tree : goal.grow_branch-returns-clause-tree
grow_branch-returns-clause-tree g t c =
    let guide = c.args.pass.now.guide.now in
    let split = c.args.split in
    let old = c.args.node.now in
    let mid = c.grow_side.new.node in
    let s1 = c.grow_side.new.state in
    let s2 = c.grow_side-2.new.state in
    let left = c.in_ok-left.left in
    let right = c.in_ok-right.right in
    tree_joined g.G.Guide guide s2 old split left right c.in_ok-join.field-0 c.in_ok-join.ensures c.requires.branch
    (side_later g.G.Guide guide s1 s2 c.in_ok-right.ensures.later
    (λ x y leaf h. g.met.G.Guide.stays guide s1 s2 x y leaf c.in_ok-right.ensures.later.grows h)
    true old split left c.in_ok-left.ensures.tree)
    (side_moved (IsSoundTree g.G.Guide guide s2 right) false split mid old (same_back old mid c.in_ok-left.ensures.same_node) c.in_ok-right.ensures.tree)

pub grow_branch-returns-clause-deep : goal.grow_branch-returns-clause-deep
grow_branch-returns-clause-deep g t c =
    λ still more.
    let guide = c.args.pass.now.guide.now in
    let s0 = c.args.state.now in
    let s1 = c.grow_side.new.state in
    let on : g.G.Guide.may_stop guide s1 ≡ false = sym (g.met.G.Guide.may_on guide s0 s1 c.in_ok-left.ensures.later.grows) ∙ still in
    let split = c.args.split in
    let old = c.args.node.now in
    let mid = c.grow_side.new.node in
    let best1 = g.G.Guide.cost c.grow_side.new.state in
    let best2 = g.G.Guide.cost c.grow_side-2.new.state in
    let left = c.in_ok-left.left in
    let right = c.in_ok-right.right in
    let before : 1 ≤ c.grow_side.new.room = let l = c.in_ok-right.ensures.less in omega (arith, more, l) in
    deep_joined c.args.pass.now.mark best2 old split left right c.in_ok-join.field-0 c.in_ok-join.ensures
    (side_deep c.args.pass.now.mark best1 best2 true old split left c.in_ok-right.ensures.later.kept (c.in_ok-left.ensures.deep still before))
    (side_moved (AreDeep c.args.pass.now.mark best2 right) false split mid old (same_back old mid c.in_ok-left.ensures.same_node) (c.in_ok-right.ensures.deep on more))

pub grow_side-returns-clause-same_node : goal.grow_side-returns-clause-same_node
grow_side-returns-clause-same_node g t c =
    back_node c.args.side.most c.args.node.now c.grow.new.node c.leave.new.node c.args.side.split c.in_ok-range.range c.in_ok-range.ensures.range
    (c.in_ok-grown.ensures.same_node.ranges ∙ c.in_ok-range.ensures.side.ranges)
    (c.in_ok-grown.ensures.same_node.path ∙ c.in_ok-range.ensures.side.path)
    c.leave.ensures.ranges c.leave.ensures.path
