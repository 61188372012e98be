use Rattle.std.proofs.Common.{List, ◌∷◌, ◌<◌, [], rules}
use Rattle.cert_lines.specs.declared.limits.TheConstants.{MAX_BRANCHES}
use Rattle.cert_lines.specs.Shapes.{BranchLine}
use Rattle.certificate.specs.Shapes.{tree_shape}
use Rattle.certificate.specs.Dues.{IsFaultFrom, Due, a_tree}
use Rattle.certificate.specs.Rest.{AreRead}
use Rattle.certificate.proofs.Needed.{high_fault, low_fault, node_high, node_read, tree_read}
use Rattle.certificate.proofs.reading.+read_tree.Goals as goal

pub returns-in_err-low-in-Branch-clause-refused : goal.returns-in_err-low-in-Branch-clause-refused
returns-in_err-low-in-Branch-clause-refused t c =
    let a = c.args.rest.now in
    let b = c.read_node.new.rest in
    let read : AreRead c.args.version a b (BranchLine c.in-Branch.column c.in-Branch.at ∷ []) = node_read a b c.in_ok-column.field-0 c.in-Branch.column c.in-Branch.at c.in-Branch.is c.in_ok-column.ensures.node in
    let less : c.args.above < MAX_BRANCHES = node_high c.args.above c.in_ok-column.field-0 c.in-Branch.column c.in-Branch.at c.in-Branch.is c.in_ok-column.ensures.high in
    let why : (later : List Due) → IsFaultFrom c.args.version (a_tree c.args.above ∷ later) a.text.now a.line c.in_err-low-in-Branch.field-0.0 = low_fault a b c.args.above c.in-Branch.column c.in-Branch.at c.in_err-low-in-Branch.field-0.0 read less c.in_err-low-in-Branch.ensures.refused in
    search (rules, why)

pub returns-in_err-high-in-Branch-clause-refused : goal.returns-in_err-high-in-Branch-clause-refused
returns-in_err-high-in-Branch-clause-refused t c =
    let a = c.args.rest.now in
    let b = c.read_node.new.rest in
    let d = c.read_tree.new.rest in
    let read : AreRead c.args.version a b (BranchLine c.in-Branch.column c.in-Branch.at ∷ []) = node_read a b c.in_ok-column.field-0 c.in-Branch.column c.in-Branch.at c.in-Branch.is c.in_ok-column.ensures.node in
    let less : c.args.above < MAX_BRANCHES = node_high c.args.above c.in_ok-column.field-0 c.in-Branch.column c.in-Branch.at c.in-Branch.is c.in_ok-column.ensures.high in
    let why : (later : List Due) → IsFaultFrom c.args.version (a_tree c.args.above ∷ later) a.text.now a.line c.in_err-high-in-Branch.field-0.0 = high_fault a b d c.args.above c.in-Branch.column c.in-Branch.at (tree_shape c.in_ok-low-in-Branch.low) c.in_err-high-in-Branch.field-0.0 read less c.in_ok-low-in-Branch.ensures.tree c.in_ok-low-in-Branch.ensures.paths c.in_err-high-in-Branch.ensures.refused in
    search (rules, why)

pub returns-in_ok-new-in-Branch-2-clause-tree : goal.returns-in_ok-new-in-Branch-2-clause-tree
returns-in_ok-new-in-Branch-2-clause-tree t c =
    let a = c.args.rest.now in
    let b = c.read_node.new.rest in
    let d = c.read_tree.new.rest in
    let e = c.read_tree-in-Branch.new.rest in
    let read : AreRead c.args.version a b (BranchLine c.in-Branch.column c.in-Branch.at ∷ []) = node_read a b c.in_ok-column.field-0 c.in-Branch.column c.in-Branch.at c.in-Branch.is c.in_ok-column.ensures.node in
    rw (c.in_ok-new-in-Branch.ensures.ok, c.in_ok-new-in-Branch-2.ensures.ok) (tree_read a b d e c.in-Branch.column c.in-Branch.at (tree_shape c.in_ok-low-in-Branch.low) (tree_shape c.in_ok-high-in-Branch.high) read c.in_ok-low-in-Branch.ensures.tree c.in_ok-high-in-Branch.ensures.tree)
