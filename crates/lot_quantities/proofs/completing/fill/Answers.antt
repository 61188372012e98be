use Rattle.std.proofs.Common.{⊎_elim, arith, refl, subst, sym}
use Rattle.std.proofs.lemmas.Bool.{cases_eq}
use Rattle.lot_sizing.specs.Least.{least_backlog, least_stock}
use Rattle.plan_rules.specs.Cells.{table_of}
use Rattle.lot_quantities.specs.Completed.{HasCapped}
use Rattle.lot_quantities.proofs.Filled.{capped_as}
use Rattle.lot_quantities.proofs.completing.fill.Goals as goal

pub loop-item-preserved : goal.loop-item-preserved
loop-item-preserved c =
    let m = c.args.instance.now in
    let make = table_of c.args.make.now in
    let stock = c.fill_item.new.stock in
    let backlog = c.fill_item.new.backlog in
    record {
      stock = c.fill_item.ensures.stock;
      backlog = c.fill_item.ensures.backlog;
      rows = λ i t low high t_low t_high. ⊎_elim
          (λ e. subst (λ j. HasCapped m make (table_of stock) (table_of backlog) j t) (sym e) (c.fill_item.ensures.row t t_low t_high))
          (λ ne.
          let before = c.loop-item.invariant.rows i t low (omega (arith, high, ne)) t_low t_high in
          record {
            stock = capped_as (least_stock m make i t) (least_stock m make i t) (table_of stock i t) (table_of c.loop-item.stock i t) refl (c.fill_item.ensures.other_stocks i t low (omega (arith, high, c.loop-item.invariant.stock.items, c.loop-item-test.true, c.items-item-end.ensures.value)) t_low (omega (arith, t_high, c.loop-item.invariant.stock.periods)) ne) before.stock;
            backlog = capped_as (least_backlog m make i t) (least_backlog m make i t) (table_of backlog i t) (table_of c.loop-item.backlog i t) refl (c.fill_item.ensures.other_backlogs i t low (omega (arith, high, c.loop-item.invariant.backlog.items, c.loop-item-test.true, c.items-item-end.ensures.value)) t_low (omega (arith, t_high, c.loop-item.invariant.backlog.periods)) ne) before.backlog;
          })
          (cases_eq i c.loop-item.item);
    }
