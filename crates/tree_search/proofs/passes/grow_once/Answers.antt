use Rattle.std.proofs.Common.{inl, inr, sym, subst}
use Rattle.tree_search.specs.Costs.{IsAtMost, IsBelow}
use Rattle.tree_search.specs.Trees.{least_said}
use Rattle.tree_search.proofs.Endless.{at_most-refl}
use Rattle.tree_search.proofs.Ends.{closed_deep}
use Rattle.tree_search.proofs.Gaps.{near_later}
use Rattle.tree_search.proofs.Guided.{tree_later}
use Rattle.tree_search.proofs.passes.grow_once.Goals as goal

pub returns-then-not-is_below-clause-ended : goal.returns-then-not-is_below-clause-ended
returns-then-not-is_below-clause-ended g c = λ over still more.
    let node = c.args.node.now in
    inl (closed_deep (g.G.Guide.cost c.args.state.now) node.ranges.items node.path.items c.args.first (λ below.
    let under = subst (λ x. IsBelow x c.best-best.result) (sym c.least_number-least.ensures) (subst (IsBelow (least_said c.args.first)) (sym c.best-best.ensures) below) in
    let yes = c.is_below.ensures.1 under in
    let no = c.if-not-is_below.true in
    cc (yes, no)))

pub returns-then-is_over-clause-tree : goal.returns-then-is_over-clause-tree
returns-then-is_over-clause-tree g c =
    let guide = c.args.passes.now.guide.now in
    let node = c.args.node.now in
    let s0 = c.args.state.now in
    let s1 = c.is_over.new.state in
    tree_later g.G.Guide guide s0 s1 c.is_over.ensures.later (λ x y leaf h. g.met.G.Guide.stays guide s0 s1 x y leaf c.is_over.ensures.later.grows h) c.args.first node.ranges.items node.path.items c.requires.tree

pub returns-then-is_over-clause-ended : goal.returns-then-is_over-clause-ended
returns-then-is_over-clause-ended g c = λ over still more.
    let least = c.least_number-least.result in
    let best = c.best-best.result in
    let less = g.G.Guide.cost c.is_over.new.state in
    inr (near_later c.args.passes.now.limits.gap least (least_said c.args.first) best less
    (subst (IsAtMost least) c.least_number-least.ensures (at_most-refl least))
    (subst (IsAtMost less) (sym c.best-best.ensures) c.is_over.ensures.later.kept)
    (c.is_over.ensures.over c.if-is_over.true still))

pub grow-requires-clause-tree : goal.grow-requires-clause-tree
grow-requires-clause-tree g c =
    let guide = c.args.passes.now.guide.now in
    let node = c.args.node.now in
    let s0 = c.args.state.now in
    let s1 = c.is_over.new.state in
    tree_later g.G.Guide guide s0 s1 c.is_over.ensures.later (λ x y leaf h. g.met.G.Guide.stays guide s0 s1 x y leaf c.is_over.ensures.later.grows h) c.args.first node.ranges.items node.path.items c.requires.tree
