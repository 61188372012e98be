use Rattle.std.proofs.Common.{string_bytes}
use Rattle.cert_lines.specs.Shapes.{BranchLine}
use Rattle.certificate.specs.Shapes.{tree_shape}
use Rattle.certificate.specs.Values.{tree_values}
use Rattle.certificate.proofs.Joins.{tree_joined}
use Rattle.certificate.proofs.writing.+add_tree.Goals as goal

pub returns-in_ok-add_tree-in-Branch-2 : goal.returns-in_ok-add_tree-in-Branch-2
returns-in_ok-add_tree-in-Branch-2 t c =
    rw (c.in_ok-add_tree-in-Branch-2.ensures, c.in_ok-add_tree-in-Branch.ensures, c.in_ok-add_branch-in-Branch.ensures, c.deref.ensures, c.deref-in-Branch.ensures, c.in-Branch.is)
    (tree_joined (string_bytes c.args.text.now) (BranchLine c.in-Branch.column c.in-Branch.at) (tree_values (tree_shape c.in-Branch.low.value)) (tree_values (tree_shape c.in-Branch.high.value)))
