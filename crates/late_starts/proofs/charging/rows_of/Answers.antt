use Rattle.std.proofs.Common.{◌≡◌, ◌+◌, ◌-◌, ◌∙◌, ◌∷◌, [], ℕ, List, ap, sym, subst, map, arith}
use Rattle.std.proofs.lemmas.List.{map-append}
use Rattle.lot_sizing.specs.Problem.{item_count}
use Rattle.late_starts.specs.Steps.{HasEach, charge_by}
use Rattle.late_starts.proofs.Loading.{AreRowsTo, charges_all, rows_more}
use Rattle.late_starts.proofs.charging.rows_of.Goals as goal

pub loop-item-preserved : goal.loop-item-preserved
loop-item-preserved c =
    let m = c.args.instance.now in
    let i = c.loop-item.item in
    let R = λ (j : ℕ) (xs : List ℕ). HasEach m.periods (charge_by m c.args.arriving.now j) xs in
    let e : i ≡ i + 1 - 1 = omega arith in
    let row = c.in_ok-charges_of.field-0 in
    subst (AreRowsTo (i + 1 - 1) R) (sym (ap (map (λ v. v.items)) c.in_ok-push.ensures.items ∙ map-append (λ v. v.items) c.loop-item.rows.items (row ∷ [])))
    (rows_more (i - 1) (i + 1 - 1) R (map (λ v. v.items) c.loop-item.rows.items) row.items (omega (arith, c.loop-item.auto.item)) c.loop-item.invariant (subst (λ j. R j row.items) e c.in_ok-charges_of.ensures))

pub returns : goal.returns
returns c =
    let all : c.loop-item.item - 1 ≡ item_count c.args.instance.now = omega (arith, c.loop-item-test.false, c.loop-item.auto.item-end, c.items-item-end.ensures.value) in
    charges_all c.args.instance.now (c.loop-item.item - 1) c.args.arriving.now (map (λ v. v.items) c.loop-item.rows.items) all c.loop-item.invariant
