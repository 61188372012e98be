use Rattle.std.proofs.Common.{length, slice_index_or, subst, arith}
use Rattle.quantity_dp.specs.Lots.{lots_of, no_lot}
use Rattle.quantity_dp.specs.Table.{IsNextTo, price_in}
use Rattle.quantity_dp.specs.Window.{IsLeastIn}
use Rattle.quantity_dp.proofs.Rows.{asked_fits, lot_priced, need_fits, row_first, small_first, small_up, table_last, table_last_small, table_next, table_small}
use Rattle.quantity_dp.proofs.table.least_price.Goals as goal

pub loop-lot-init : goal.loop-lot-init
loop-lot-init c = record {
  row = row_first (lots_of c.args.lots.now) c.greatest_need-most.result c.in_ok-row.row.items c.in_ok-row.ensures;
  small = small_up 0 _ c.in_ok-row.row.items (omega arith) (small_first c.greatest_need-most.result c.in_ok-row.row.items c.in_ok-row.ensures);
}

pub next_row-requires-clause-need : goal.next_row-requires-clause-need
next_row-requires-clause-need c =
    need_fits c.args.lots.now c.loop-lot.lot-index c.greatest_need-most.result c.deref.result.now c.loop-lot-test.true c.greatest_need-most.ensures (omega (arith, c.deref.ensures.len, c.loop-lot.row.ok.0, c.loop-lot.invariant.row.size))

pub next_row-requires-clause-asked : goal.next_row-requires-clause-asked
next_row-requires-clause-asked c =
    asked_fits c.args.lots.now c.loop-lot.lot-index c.greatest_need-most.result c.deref.result.now c.loop-lot-test.true c.greatest_need-most.ensures (omega (arith, c.deref.ensures.len, c.loop-lot.row.ok.0, c.loop-lot.invariant.row.size))

pub next_row-requires-clause-priced : goal.next_row-requires-clause-priced
next_row-requires-clause-priced c = lot_priced c.args.lots.now c.loop-lot.lot-index c.loop-lot-test.true c.requires.within

pub loop-lot-preserved : goal.loop-lot-preserved
loop-lot-preserved c =
    let lots = c.args.lots.now in
    let i = c.loop-lot.lot-index in
    let row = c.loop-lot.row.items in
    let next = c.in_ok-row-2.row.items in
    let is = subst (λ r. IsNextTo (slice_index_or lots i no_lot) r (length r) next) c.deref.ensures.value c.in_ok-row-2.ensures in
    record {
      row = table_next lots i c.greatest_need-most.result row next c.loop-lot-test.true c.greatest_need-most.ensures c.loop-lot.invariant.row is;
      small = table_small lots i c.greatest_need-most.result row next c.loop-lot-test.true c.requires.within c.greatest_need-most.ensures c.loop-lot.invariant.row.size c.loop-lot.invariant.small is;
    }

pub returns-clause-price : goal.returns-clause-price
returns-clause-price c =
    let least = subst (λ r. IsLeastIn (price_in r) 0 (length r) c.least_of.result) c.deref-2.ensures.value c.least_of.ensures in
    table_last c.args.lots.now c.loop-lot.lot-index c.greatest_need-most.result c.loop-lot.row.items c.least_of.result (omega (arith, c.loop-lot-test.false, c.loop-lot.auto.lot-index-end)) least c.loop-lot.invariant.row

pub returns-clause-small : goal.returns-clause-small
returns-clause-small c =
    let least = subst (λ r. IsLeastIn (price_in r) 0 (length r) c.least_of.result) c.deref-2.ensures.value c.least_of.ensures in
    table_last_small c.args.lots.now c.loop-lot.lot-index c.greatest_need-most.result c.loop-lot.row.items c.least_of.result (omega (arith, c.loop-lot.auto.lot-index-end)) c.requires.within c.greatest_need-most.ensures c.loop-lot.invariant.small least
