use Rattle.std.proofs.Common.{ap}
use Rattle.std.proofs.lemmas.Result.{IfErr-weaker}
use Rattle.cert_lines.specs.Shapes.{leaf_shape}
use Rattle.certificate.specs.Shapes.{tree_shape}
use Rattle.cert_checker.specs.Checks.{LeafHasFault, TreeHasFault}
use Rattle.cert_checker.proofs.CheckRefusals.{leaf_fault}
use Rattle.cert_checker.proofs.walk.+walk.Goals as goal

pub returns-in-Leaf-clause-fault : goal.returns-in-Leaf-clause-fault
returns-in-Leaf-clause-fault t c =
    let m = c.args.instance.now in
    let rows = c.args.cuts.now in
    let path = c.args.path.now.items in
    IfErr-weaker c.check_leaf.result (LeafHasFault m rows c.args.claim path (leaf_shape c.in-Leaf.leaf) c.args.line) (TreeHasFault m rows c.args.claim path (tree_shape c.args.tree.now) c.args.line)
    (λ f faulty. leaf_fault m rows c.args.claim path (tree_shape c.args.tree.now) (leaf_shape c.in-Leaf.leaf) c.args.line f (ap tree_shape c.in-Leaf.is) faulty)
    (rw c.deref-in-Leaf.ensures.value at c.check_leaf.ensures.fault)
