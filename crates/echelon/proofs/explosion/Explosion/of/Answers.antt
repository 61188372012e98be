use Rattle.std.proofs.Common.{◌≡◌, ◌+◌, ◌-◌, ◌∙◌, ◌∷◌, [], sym, ap, subst, arith, length, map}
use Rattle.std.proofs.lemmas.List.{map-append}
use Rattle.lot_sizing.specs.Problem.{entry, item_count}
use Rattle.echelon.specs.Order.{IsOrderedTo}
use Rattle.echelon.specs.Weights.{AreRowsTo}
use Rattle.echelon.proofs.Explosions.{are_rows, rows_more}
use Rattle.echelon.proofs.Orders.{ordered}
use Rattle.echelon.proofs.explosion.Explosion.of.Goals as goal

pub loop-item-preserved : goal.loop-item-preserved
loop-item-preserved c =
    let i = c.loop-item.item in
    let row = c.in_ok-row_of.field-0 in
    let pushed = ap (map (λ v. v.items)) c.in_ok-push.ensures.items ∙ map-append (λ v. v.items) c.loop-item.weights.items (row ∷ []) in
    subst (AreRowsTo c.args.instance.now (i + 1 - 1)) (sym pushed)
    (rows_more c.args.instance.now i (map (λ v. v.items) c.loop-item.weights.items) row.items c.loop-item.auto.item c.in_ok-row_of.ensures c.loop-item.invariant)

pub returns : goal.returns
returns c =
    let m = c.args.instance.now in
    let rank = entry c.ranks.result.now in
    let all : c.loop-item.item - 1 ≡ item_count m = omega (arith, c.loop-item-test.false, c.loop-item.auto.item-end, c.loop-item.auto.item, c.items-item-end.ensures.value) in
    record {
      instance = c.items-item-end.ensures.instance;
      rows = are_rows m rank (map (λ v. v.items) c.loop-item.weights.items) c.totals_exist.ensures.weights c.ranks.ensures.ranks (subst (λ n. AreRowsTo m n (map (λ v. v.items) c.loop-item.weights.items)) all c.loop-item.invariant);
      order = ordered m rank c.in_ok-order.order.items c.ranks.ensures.ranks c.ranks.ensures.small (subst (λ n. IsOrderedTo rank n (n + 1) 1 c.in_ok-order.order.items) c.ranks.ensures.size c.in_ok-order.ensures);
    }
