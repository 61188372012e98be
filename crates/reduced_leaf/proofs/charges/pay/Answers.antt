use Rattle.std.proofs.Common.{◌≡◌, ◌<◌, ◌+◌, ◌-◌, ◌∙◌, [], ap, sym, subst, arith, length}
use Rattle.std.proofs.lemmas.List.{get_or-map, length-map}
use Rattle.must_start.specs.Rows.{row_in}
use Rattle.late_starts.specs.Rows.{rows_of}
use Rattle.reduced_leaf.specs.Found.{ArePaidOf}
use Rattle.reduced_leaf.proofs.Charging.{paid_to}
use Rattle.reduced_leaf.proofs.charges.pay.Goals as goal

pub loop-item-preserved : goal.loop-item-preserved
loop-item-preserved c =
    let m = c.args.instance.now in
    let summed = c.args.sums.now in
    let den = c.args.den in
    let i = c.loop-item.item in
    let rows = rows_of c.args.rows.now in
    let vec = c.index-rows-item.result in
    let e : i ≡ i + 1 - 1 = omega arith in
    let inside : i - 1 < length c.args.rows.now = omega (arith, c.requires.rows.size, length-map c.args.rows.now (λ v. v.items), c.loop-item-test.true, c.loop-item.auto.item, c.items-item-end.ensures.value) in
    let row : c.deref-row.result.now ≡ row_in rows i = c.deref-row.ensures.value ∙ (ap (λ v. v.items) c.index-rows-item.is ∙ sym (get_or-map (λ v. v.items) c.args.rows.now (i - 1) vec [] inside)) in
    paid_to m summed den (i - 1) (i + 1 - 1) rows (omega (arith, c.loop-item.auto.item)) c.loop-item.invariant
    (subst (λ j. ArePaidOf m summed den j (row_in rows j)) e (subst (ArePaidOf m summed den i) row c.in_default.ensures))
