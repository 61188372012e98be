use Rattle.std.proofs.Common.{refl, subst}
use Rattle.std.specs.Prelude.{IfNone, IfSome}
use Rattle.lot_sizing.specs.Least.{HasChoice}
use Rattle.plan_rules.specs.Held.{plan_of}
use Rattle.cert_meaning.specs.Says.{HasNone, IsLeastCost}
use Rattle.tree_search.specs.Costs.{IsBelow}
use Rattle.node_domains.specs.Nodes.{least_make, least_setup}
use Rattle.branching.proofs.Points.{after_kept, known_kept, not_below, point_better, point_kept}
use Rattle.incumbent.specs.Kept.{cost_kept}
use Rattle.branching.specs.Knowing.{ranges_in}
use Rattle.branching.proofs.pointing.at_point.Goals as goal

pub returns-clause-more : goal.returns-clause-more
returns-clause-more c =
    let best = c.keep_within.ensures.best in
    record {
      known = known_kept c.args.model.now c.args.known.now _ refl refl refl best.made c.requires.reached.known;
      after = after_kept c.args.known.now _ refl;
      kept = best.kept;
    }

pub returns-clause-leaf : goal.returns-clause-leaf
returns-clause-leaf c =
    let g = c.args.model.now in
    let m = g.instance.now in
    let node = c.args.node.now in
    let found = c.in_ok-found.found in
    let least = subst (λ rs. IfSome found (λ made. IsLeastCost m (least_make m rs) (least_setup m rs) made.cost)) c.deref.ensures.value c.in_ok-found.ensures.least in
    let none = subst (λ rs. IfNone found (HasNone m (least_make m rs) (least_setup m rs))) c.deref.ensures.value c.in_ok-found.ensures.none in
    point_kept g.instance.now (ranges_in g) g.version g.least c.args.known.now.rows.items node.ranges.items node.path.items c.in_ok-found.found _ c.requires.reached.is_node c.requires.point c.requires.reached.known.begun.floor c.in_ok-found.ensures.made least none refl c.best_cost-says.ensures

pub returns-clause-closed : goal.returns-clause-closed
returns-clause-closed c = λ below.
    let g = c.args.model.now in
    let m = g.instance.now in
    let node = c.args.node.now in
    let found = c.in_ok-found.found in
    let best = c.keep_within.new.best in
    let choice = subst (λ rs. IfSome found (λ made. HasChoice m (least_make m rs) (least_setup m rs) (plan_of made.plan))) c.deref.ensures.value c.in_ok-found.ensures.choice in
    let better = point_better m (ranges_in g) node.ranges.items node.path.items c.requires.reached.is_node c.ranges_are_left.ensures.plans c.requires.point best found choice c.keep_within.ensures.found in
    not_below (cost_kept best) (cost_kept found) better (subst (λ s. IsBelow s (cost_kept best)) c.best_cost-says.ensures below)
