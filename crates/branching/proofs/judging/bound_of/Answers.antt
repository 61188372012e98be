use Rattle.std.proofs.Common.{ap, subst}
use Rattle.cert_lines.specs.Shapes.{leaf_shape}
use Rattle.cert_checker.specs.Leaves.{LeafIsSmall, LeafSaysThis}
use Rattle.branching.proofs.Judged.{judged_of}
use Rattle.branching.proofs.judging.bound_of.Goals as goal

pub returns-in-Ok-clause-judged : goal.returns-in-Ok-clause-judged
returns-in-Ok-clause-judged c =
    let g = c.args.model.now in
    let m = g.instance.now in
    let rows = c.args.known.now.rows.items in
    let path = c.args.node.now.path.items in
    let shape = leaf_shape c.args.leaf in
    let says = c.in-Ok.says in
    let totals = c.an_instance_breaks_no_rule.ensures.totals in
    let is = subst (λ r. LeafSaysThis m r path shape says) c.deref.ensures.value (subst (λ p. LeafSaysThis m c.deref.result.now p shape says) c.deref-2.ensures.value c.in-Ok.ensures.says) in
    let small = subst (λ r. LeafIsSmall m r path shape) c.deref.ensures.value (subst (λ p. LeafIsSmall m c.deref.result.now p shape) c.deref-2.ensures.value c.in-Ok.ensures.small) in
    judged_of m g.version totals.0 rows path shape says c.proposal_of.result totals.1 c.requires.tested is small (ap leaf_shape c.proposal_of.ensures.leaf) c.proposal_of.ensures.says c.proposal_of.ensures.examined
