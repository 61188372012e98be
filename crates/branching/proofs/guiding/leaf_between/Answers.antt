use Rattle.std.proofs.Common.{◌∙◌, ap, refl}
use Rattle.tree_search.proofs.Endless.{at_most-trans as at_most_on}
use Rattle.branching.proofs.Evidence.{anyway, ok_on}
use Rattle.branching.proofs.Points.{kept_from}
use Rattle.incumbent.specs.Kept.{cost_kept}
use Rattle.branching.specs.Knowing.{KnowsMore}
use Rattle.branching.proofs.guiding.leaf_between.Goals as goal

pub returns-clause-leaf : goal.returns-clause-leaf
returns-clause-leaf ghosts c =
    let g = c.args.guided.now.model in
    let node = c.args.node.now in
    ok_on c.with_evidence.result _ _ (λ p kept. kept g.least c.keep_built.new.known.rows.items (kept_from g c.priced.new.state.known c.keep_built.new.known node.ranges.items node.path.items c.in_ok-proposal.proposal c.in_ok-keep_built.ensures.rows c.in_ok-proposal.ensures.lasting)) c.with_evidence.ensures.kept

pub returns-clause-more : goal.returns-clause-more
returns-clause-more ghosts c =
    let old = c.args.state.now.known.best in
    let new = c.keep_built.new.known.best in
    let first = c.in_ok-proposal.ensures.more in
    let next = c.in_ok-keep_built.ensures in
    let more : KnowsMore c.args.guided.now.model c.args.state.now.known c.keep_built.new.known = record {
      known = next.known;
      after = record { more = first.after.more; rows = ap (λ v. v.items) next.rows ∙ first.after.rows };
      kept = at_most_on (cost_kept new) (cost_kept c.priced.new.state.known.best) (cost_kept old) next.kept first.kept;
    } in
    anyway c.with_evidence.result _ more

pub returns-then-not-is_relaxed-clause-leaf : goal.returns-then-not-is_relaxed-clause-leaf
returns-then-not-is_relaxed-clause-leaf ghosts c =
    let node = c.args.node.now in
    kept_from c.args.guided.now.model c.priced.new.state.known c.priced.new.state.known node.ranges.items node.path.items c.in_ok-proposal.proposal refl c.in_ok-proposal.ensures.lasting
