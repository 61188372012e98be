use Rattle.std.proofs.Common.{◌≡◌, ◌+◌, ◌-◌, ◌/◌, refl, arith, []}
use Rattle.tree_search.specs.Counts.{branches}
use Rattle.tree_search.specs.Trees.{least_said}
use Rattle.tree_search.specs.Claims.{IsLeastClaim}
use Rattle.tree_search.proofs.Causes.{caused, none_left}
use Rattle.tree_search.proofs.Claims.{shown}
use Rattle.tree_search.proofs.Shown.{claimed, held, nodes_of_branches, short_of_branches, split_of_branches, evident}
use Rattle.tree_search.proofs.searching.search.Goals as goal

pub returns-clause-nodes : goal.returns-clause-nodes
returns-clause-nodes g c =
    let tree = c.in_ok-tree.tree in
    let rest : branches tree + c.search_tree.new.room ≡ (c.args.budget - 1) / 2 = c.in_ok-tree.ensures.rest in
    omega (arith, rest, nodes_of_branches tree)

pub returns-clause-short : goal.returns-clause-short
returns-clause-short g c =
    let short = short_of_branches (g.G.Guide.rules c.args.guide.now) c.args.ranges.items [] c.in_ok-tree.tree (omega arith) c.in_ok-tree.ensures.tree.branches in
    omega (arith, short)

pub returns-clause-split : goal.returns-clause-split
returns-clause-split g c = split_of_branches (g.G.Guide.rules c.args.guide.now) c.args.ranges.items [] c.in_ok-tree.tree c.in_ok-tree.ensures.tree.branches

pub returns-clause-holds : goal.returns-clause-holds
returns-clause-holds g c =
    let best = g.G.Guide.cost c.search_tree.new.state in
    held (g.G.Guide.rules c.args.guide.now) (g.G.Guide.Holds c.args.guide.now c.search_tree.new.state) (g.G.Guide.IsEvident c.args.guide.now) best c.args.ranges.items c.in_ok-tree.tree c.in_ok-tree.ensures.tree.branches c.in_ok-tree.ensures.tree.sound

pub returns-clause-shown : goal.returns-clause-shown
returns-clause-shown g c =
    let best = g.G.Guide.cost c.search_tree.new.state in
    let tree = c.in_ok-tree.tree in
    let said : IsLeastClaim best (least_said tree) c.claim_of.result = claimed best c.best.result c.least_number.result tree c.claim_of.result c.best.ensures c.least_number.ensures c.claim_of.ensures in
    shown (g.G.Guide.rules c.args.guide.now) best (least_said tree) c.args.ranges.items tree c.claim_of.result refl said

pub returns-clause-evidence : goal.returns-clause-evidence
returns-clause-evidence g c =
    let best = g.G.Guide.cost c.search_tree.new.state in
    let tree = c.in_ok-tree.tree in
    let said : IsLeastClaim best (least_said tree) c.claim_of.result = claimed best c.best.result c.least_number.result tree c.claim_of.result c.best.ensures c.least_number.ensures c.claim_of.ensures in
    evident (g.G.Guide.rules c.args.guide.now) (g.G.Guide.Holds c.args.guide.now c.search_tree.new.state) (g.G.Guide.IsEvident c.args.guide.now) best (least_said tree) c.args.ranges.items tree c.claim_of.result c.in_ok-tree.ensures.tree.branches c.in_ok-tree.ensures.tree.sound c.in_ok-tree.ensures.settled refl said

pub returns-clause-cause : goal.returns-clause-cause
returns-clause-cause g c =
    let guide = c.args.guide.now in
    let after = c.search_tree.new.state in
    let best = g.G.Guide.cost after in
    let tree = c.in_ok-tree.tree in
    let said : IsLeastClaim best (least_said tree) c.claim_of.result = claimed best c.best.result c.least_number.result tree c.claim_of.result c.best.ensures c.least_number.ensures c.claim_of.ensures in
    caused (g.G.Guide.rules guide) (g.G.Guide.Holds guide after) (g.G.Guide.IsEvident guide) best (least_said tree) c.args.budget c.search_tree.new.room c.args.limits.gap (g.G.Guide.may_stop guide c.args.state.now) c.args.ranges.items tree c.claim_of.result c.requires.ordered c.requires.budget c.in_ok-tree.ensures.rest c.in_ok-tree.ensures.tree.branches c.in_ok-tree.ensures.tree.sound c.in_ok-tree.ensures.ended refl said

pub returns-clause-decided : goal.returns-clause-decided
returns-clause-decided g c =
    let guide = c.args.guide.now in
    let after = c.search_tree.new.state in
    let best = g.G.Guide.cost after in
    let tree = c.in_ok-tree.tree in
    let said : IsLeastClaim best (least_said tree) c.claim_of.result = claimed best c.best.result c.least_number.result tree c.claim_of.result c.best.ensures c.least_number.ensures c.claim_of.ensures in
    none_left (g.G.Guide.rules guide) (g.G.Guide.Holds guide after) (g.G.Guide.IsEvident guide) best (least_said tree) c.args.budget c.search_tree.new.room c.args.limits.gap (g.G.Guide.may_stop guide c.args.state.now) c.args.ranges.items tree c.claim_of.result c.requires.ordered c.requires.budget c.in_ok-tree.ensures.rest c.in_ok-tree.ensures.tree.branches c.in_ok-tree.ensures.tree.sound c.in_ok-tree.ensures.ended refl said
