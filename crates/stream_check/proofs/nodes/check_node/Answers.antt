use Rattle.std.proofs.Common.{◌≡◌, Err, subst, sym, true}
use Rattle.lot_io.specs.Outside.{Shelved}
use Rattle.cert_lines.specs.Shapes.{leaf_shape}
use Rattle.cert_trees.specs.Ranges.{WithTotals}
use Rattle.cert_checker.specs.Checks.{IsGoodLeaf, ground}
use Rattle.stream_check.specs.Nodes.{AreCovered, IsLeafStop, trees_due}
use Rattle.stream_check.proofs.Stack.{covered_sides}
use Rattle.stream_check.proofs.Walk.{branch_off, branch_on, leaf_off, leaf_on, node_left}
use Rattle.stream_check.proofs.Ways.{err_is}
use Rattle.stream_check.proofs.nodes.check_node.Goals as goal

pub returns-in_err-go_down-in-Branch-clause-awaited : goal.returns-in_err-go_down-in-Branch-clause-awaited
returns-in_err-go_down-in-Branch-clause-awaited g c =
    let m = c.args.given.instance.now in
    let rows = c.args.given.rows.now in
    let path = c.args.path.now.items in
    let old : Shelved = g.S.Shelf.shown c.args.shelf.now in
    let new : Shelved = g.S.Shelf.shown c.read_node.new.shelf in
    let node = c.in_ok-column.field-0 in
    let f = c.in_err-go_down-in-Branch.field-0.0 in
    let is : c.from_residual-in_err-go_down-in-Branch.result ≡ Err f = err_is c.from_residual-in_err-go_down-in-Branch.result f c.from_residual-in_err-go_down-in-Branch.ensures.1 in
    rw is (λ whole first left.
    let next = node_left m rows c.args.given.claim whole first path c.args.text.version c.args.text.name.now old new c.args.reader.now c.read_node.new.reader node left c.in_ok-column.ensures.awaited in
    branch_off m rows c.args.given.claim whole first path c.args.text.version c.args.text.name.now old new c.args.reader.now c.read_node.new.reader node c.in-Branch.column c.in-Branch.at f c.in-Branch.is c.in_err-go_down-in-Branch.ensures.stop next)

pub returns-in_err-check_leaf-in-Leaf-clause-awaited : goal.returns-in_err-check_leaf-in-Leaf-clause-awaited
returns-in_err-check_leaf-in-Leaf-clause-awaited g c =
    let m = c.args.given.instance.now in
    let rows = c.args.given.rows.now in
    let path = c.args.path.now.items in
    let old : Shelved = g.S.Shelf.shown c.args.shelf.now in
    let new : Shelved = g.S.Shelf.shown c.read_node.new.shelf in
    let node = c.in_ok-column.field-0 in
    let f = c.in_err-check_leaf-in-Leaf.field-0.0 in
    let is : c.from_residual-in_err-check_leaf-in-Leaf.result ≡ Err f = err_is c.from_residual-in_err-check_leaf-in-Leaf.result f c.from_residual-in_err-check_leaf-in-Leaf.ensures.1 in
    rw is (λ whole first left.
    let next = node_left m rows c.args.given.claim whole first path c.args.text.version c.args.text.name.now old new c.args.reader.now c.read_node.new.reader node left c.in_ok-column.ensures.awaited in
    leaf_off m rows c.args.given.claim whole first path c.args.text.version c.args.text.name.now old new c.args.reader.now c.read_node.new.reader node c.in-Leaf.leaf f c.in-Leaf.is (subst (λ p. IsLeafStop m rows c.args.given.claim p (leaf_shape c.in-Leaf.leaf) c.args.reader.now.number f) c.deref.ensures.value c.in_err-check_leaf-in-Leaf.ensures.stop) next)

pub returns-in_ok-go_down-in-Branch-clause-covered : goal.returns-in_ok-go_down-in-Branch-clause-covered
returns-in_ok-go_down-in-Branch-clause-covered g c = λ covered.
    subst (λ path. AreCovered c.args.given.instance.now c.args.given.claim (trees_due true path)) (sym c.in_ok-go_down-in-Branch.ensures.down) (covered_sides c.args.given.instance.now c.args.given.claim c.args.path.now.items c.in-Branch.column c.in-Branch.at covered)

pub returns-in_ok-go_down-in-Branch-clause-awaited : goal.returns-in_ok-go_down-in-Branch-clause-awaited
returns-in_ok-go_down-in-Branch-clause-awaited g c = λ whole first left.
    let m = c.args.given.instance.now in
    let rows = c.args.given.rows.now in
    let path = c.args.path.now.items in
    let old : Shelved = g.S.Shelf.shown c.args.shelf.now in
    let new : Shelved = g.S.Shelf.shown c.read_node.new.shelf in
    let node = c.in_ok-column.field-0 in
    let next = node_left m rows c.args.given.claim whole first path c.args.text.version c.args.text.name.now old new c.args.reader.now c.read_node.new.reader node left c.in_ok-column.ensures.awaited in
    branch_on m rows c.args.given.claim whole first path c.args.text.version c.args.text.name.now old new c.args.reader.now c.read_node.new.reader node c.in-Branch.column c.in-Branch.at c.go_down.new.path.items c.in-Branch.is c.in_ok-go_down-in-Branch.ensures.down c.in_ok-go_down-in-Branch.ensures.split c.in_ok-column.ensures.number next

pub returns-in_ok-go_over-in-Leaf-clause-choices : goal.returns-in_ok-go_over-in-Leaf-clause-choices
returns-in_ok-go_over-in-Leaf-clause-choices g c = c.in_ok-go_over-in-Leaf.ensures.choices c.args.given.instance.now c.requires.choices

pub returns-in_ok-go_over-in-Leaf-clause-awaited : goal.returns-in_ok-go_over-in-Leaf-clause-awaited
returns-in_ok-go_over-in-Leaf-clause-awaited g c = λ whole first left.
    let m = c.args.given.instance.now in
    let rows = c.args.given.rows.now in
    let path = c.args.path.now.items in
    let old : Shelved = g.S.Shelf.shown c.args.shelf.now in
    let new : Shelved = g.S.Shelf.shown c.read_node.new.shelf in
    let node = c.in_ok-column.field-0 in
    let next = node_left m rows c.args.given.claim whole first path c.args.text.version c.args.text.name.now old new c.args.reader.now c.read_node.new.reader node left c.in_ok-column.ensures.awaited in
    leaf_on m rows c.args.given.claim whole first path c.args.text.version c.args.text.name.now old new c.args.reader.now c.read_node.new.reader node c.in-Leaf.leaf (trees_due c.in_ok-go_over-in-Leaf.field-0 c.go_over.new.path.items) c.in-Leaf.is c.in_ok-go_over-in-Leaf.ensures.trees_due (subst (λ p. WithTotals m (λ total. IsGoodLeaf (ground m total rows c.args.given.claim) p (leaf_shape c.in-Leaf.leaf))) c.deref.ensures.value c.in_ok-check_leaf-in-Leaf.ensures.good) c.in_ok-column.ensures.number next
