use Rattle.std.proofs.Common.{refl, sym, subst, ap}
use Rattle.cert_lines.specs.Shapes.{BranchLine}
use Rattle.cert_lines.specs.Line.{HasLine}
use Rattle.certificate.specs.Shapes.{tree_shape}
use Rattle.certificate.specs.Values.{AreLines, tree_values}
use Rattle.certificate.proofs.Shorts.{branch_join, branch_split}
use Rattle.certificate.proofs.limits.+has_tree_lines.Goals.{then-not-is_branch_line-via-then-not-is_branch_line, then-not-is_branch_line-via-else-not-is_branch_line+then-not-has_tree_lines}
use Rattle.certificate.proofs.limits.+has_tree_lines.Goals as goal

pub returns-then-not-is_branch_line : goal.returns-then-not-is_branch_line
returns-then-not-is_branch_line t c =
    let line = BranchLine c.in-Branch.column c.in-Branch.at in
    let parts = branch_split {version = c.args.version} (tree_values (tree_shape c.args.tree.now)) line (tree_values (tree_shape c.in-Branch.low.value)) (tree_values (tree_shape c.in-Branch.high.value)) (ap (λ x. tree_values (tree_shape x)) c.in-Branch.is) in
    elim c.then-not-is_branch_line.branch [
      | then-not-is_branch_line-via-then-not-is_branch_line w ↦ (λ no. cc no, λ are. w.if-not-is_branch_line.ensures.1 (parts are).0.form)
      | then-not-is_branch_line-via-else-not-is_branch_line+then-not-has_tree_lines w ↦ (λ no. cc no, λ are. w.if-not-has_tree_lines.ensures.1 (subst (λ x. AreLines c.args.version (tree_values (tree_shape x))) (sym w.deref.ensures) (parts are).1))
    ]

pub returns-else-not-has_tree_lines : goal.returns-else-not-has_tree_lines
returns-else-not-has_tree_lines t c =
    let line = BranchLine c.in-Branch.column c.in-Branch.at in
    let all = tree_values (tree_shape c.args.tree.now) in
    let low_side = tree_values (tree_shape c.in-Branch.low.value) in
    let high_side = tree_values (tree_shape c.in-Branch.high.value) in
    let is = ap (λ x. tree_values (tree_shape x)) c.in-Branch.is in
    let first : HasLine c.args.version line = record { text = refl; form = c.if-not-is_branch_line.ensures.0 refl; known = tt } in
    let low : AreLines c.args.version low_side = subst (λ x. AreLines c.args.version (tree_values (tree_shape x))) c.deref.ensures (c.if-not-has_tree_lines.ensures.0 refl) in
    let high = c.has_tree_lines-in-Branch.ensures in (
      λ rest. branch_join {version = c.args.version} all line low_side high_side is first low (subst (λ x. AreLines c.args.version (tree_values (tree_shape x))) c.deref-in-Branch.ensures (high.0 rest)),
      λ are. high.1 (subst (λ x. AreLines c.args.version (tree_values (tree_shape x))) (sym c.deref-in-Branch.ensures) (branch_split {version = c.args.version} all line low_side high_side is are).2),
    )
