use Rattle.std.proofs.Common.{rules, ◌≡◌, ◌∙◌, ℕ, sym, ap, subst, List, map}
use Rattle.std.specs.Prelude.{IfOk}
use mir.Facts.{to_z-of_z}
use mir.Val.{SFits, of_z, to_z}
use mir.Syntax.{w128}
use Rattle.lin_rows.specs.Rows.{LinRow}
use Rattle.cert_lines.specs.Shapes.{LinearLeaf, PointLeaf, ReducedLeaf, leaf_shape, list_shape}
use Rattle.cert_trees.specs.Ranges.{WithTotals, whole_ranges}
use Rattle.cert_meaning.specs.Named.{names}
use Rattle.cert_meaning.specs.Says.{Says}
use Rattle.cert_checker.specs.declared.fault.Why.{Why}
use Rattle.cert_checker.specs.Leaves.{IfRejected, IsLeafFault, IsPointFault, IsSumFault, LeafIsSmall, linear_most}
use Rattle.cert_checker.proofs.Leaves.{if_err_with, if_ok_with, rejected_as}
use Rattle.cert_checker.proofs.leaf.leaf_says.Goals as goal

pub returns-in-Linear-clause-fault : goal.returns-in-Linear-clause-fault
returns-in-Linear-clause-fault c =
    let m = c.args.instance.now in
    let cuts = c.args.cuts.now in
    let path = c.args.path.now in
    let line = c.args.line in
    let den = c.in-Linear.den in
    let parts = c.deref.result.now in
    let fits : SFits w128 den = search rules in
    let same : to_z w128 (of_z w128 den) ≡ den = to_z-of_z fits in
    let shape : LinearLeaf den parts ≡ leaf_shape c.args.leaf.now = ap (LinearLeaf den) c.deref.ensures.value ∙ sym (ap leaf_shape c.in-Linear.is) in
    let P = λ (at : ℕ) (w : Why). WithTotals m (λ total. IsSumFault (names m total cuts path) (linear_most (names m total cuts path) (to_z w128 (of_z w128 den))) parts line at w) in
    let Q = λ (at : ℕ) (w : Why). WithTotals m (λ total. IsLeafFault (names m total cuts path) (whole_ranges total) (leaf_shape c.args.leaf.now) line at w) in
    if_err_with c.linear_leaf.result (λ fault. IfRejected fault P) (λ fault. IfRejected fault Q)
    (λ fault is. rejected_as fault P Q
    (λ at w sum total totals.
    subst (λ s. IsLeafFault (names m total cuts path) (whole_ranges total) s line at w) shape
    (subst (λ z. IsSumFault (names m total cuts path) (linear_most (names m total cuts path) z) parts line at w) same (sum total totals)))
    is)
    c.linear_leaf.ensures.fault

pub returns-in-Point-clause-says : goal.returns-in-Point-clause-says
returns-in-Point-clause-says c =
    let m = c.args.instance.now in
    let cuts = c.args.cuts.now in
    let path = c.args.path.now in
    let leaf = leaf_shape c.args.leaf.now in
    let shape : leaf ≡ PointLeaf = ap leaf_shape c.in-Point.is in
    if_ok_with c.point_leaf.result
    (λ says. WithTotals m (λ total. (others : List LinRow) → Says (names m total others path) (whole_ranges total) PointLeaf says))
    (λ says. WithTotals m (λ total. Says (names m total cuts path) (whole_ranges total) leaf says))
    (λ says are total totals. subst (λ s. Says (names m total cuts path) (whole_ranges total) s says) (sym shape) (are total totals cuts))
    c.point_leaf.ensures.says

pub returns-in-Point-clause-fault : goal.returns-in-Point-clause-fault
returns-in-Point-clause-fault c =
    let m = c.args.instance.now in
    let cuts = c.args.cuts.now in
    let path = c.args.path.now in
    let line = c.args.line in
    let shape : leaf_shape c.args.leaf.now ≡ PointLeaf = ap leaf_shape c.in-Point.is in
    let P = λ (at : ℕ) (w : Why). WithTotals m (λ total. (others : List LinRow) → IsPointFault (names m total others path) (whole_ranges total) line at w) in
    let Q = λ (at : ℕ) (w : Why). WithTotals m (λ total. IsLeafFault (names m total cuts path) (whole_ranges total) (leaf_shape c.args.leaf.now) line at w) in
    if_err_with c.point_leaf.result (λ fault. IfRejected fault P) (λ fault. IfRejected fault Q)
    (λ fault is. rejected_as fault P Q
    (λ at w apart total totals. subst (λ s. IsLeafFault (names m total cuts path) (whole_ranges total) s line at w) (sym shape) (apart total totals cuts))
    is)
    c.point_leaf.ensures.fault

pub returns-in-Reduced-clause-small : goal.returns-in-Reduced-clause-small
returns-in-Reduced-clause-small c =
    let den = c.in-Reduced.den in
    let parts = c.deref-in-Reduced in
    let lists = c.deref-in-Reduced-2 in
    let groups = c.deref-in-Reduced-3 in
    let own = c.in-Reduced.parts.items in
    let further = map list_shape c.in-Reduced.lists.items in
    let shape : ReducedLeaf den parts.result.now (map list_shape lists.result.now) groups.result.now ≡ leaf_shape c.args.leaf.now =
    ap (λ x. ReducedLeaf den x (map list_shape lists.result.now) groups.result.now) parts.ensures.value
    ∙ ap (λ x. ReducedLeaf den own (map list_shape x) groups.result.now) lists.ensures.value
    ∙ ap (λ x. ReducedLeaf den own further x) groups.ensures.value
    ∙ sym (ap leaf_shape c.in-Reduced.is) in
    subst (λ l. IfOk c.reduced_leaf.result (λ _. LeafIsSmall c.args.instance.now c.args.cuts.now c.args.path.now l)) shape c.reduced_leaf.ensures.small
