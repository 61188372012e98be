use Rattle.std.proofs.Common.{◌≡◌, ◌+◌, ◌-◌, ◌∙◌, ⊎_elim, inl, inr, ap, refl, sym, subst, arith}
use Rattle.std.proofs.lemmas.Bool.{cases_eq}
use Rattle.lot_sizing.specs.Least.{least_backlog, least_stock, supply, outflow}
use Rattle.lot_sizing.proofs.Least.{supply_more, outflow_more}
use Rattle.plan_rules.specs.Cells.{table_of}
use Rattle.lot_quantities.specs.Completed.{HasCapped}
use Rattle.lot_quantities.proofs.Filled.{capped_as}
use Rattle.lot_quantities.proofs.completing.fill_item.Goals as goal

pub loop-period-preserved : goal.loop-period-preserved
loop-period-preserved c =
    let m = c.args.instance.now in
    let make = table_of c.args.make.now in
    let i = c.args.item in
    let now = c.loop-period.period in
    let next : now + 1 - 1 ≡ now = omega arith in
    let in_ : c.loop-period.supply + c.arriving.result ≡ supply m make i now = omega (arith, supply_more m make i now (omega arith)) in
    let out : c.loop-period.outflow + (c.demand.result + c.used_up.result) ≡ outflow m make i now = omega (arith, outflow_more m make i now (omega arith)) in
    record {
      stock = record { items = omega arith; periods = omega arith };
      backlog = record { items = omega arith; periods = omega arith };
      supply = in_ ∙ sym (ap (supply m make i) next);
      outflow = out ∙ sym (ap (outflow m make i) next);
      supply_small = omega arith;
      outflow_small = omega arith;
      row = λ t low high. ⊎_elim
          (λ e. subst (λ u. HasCapped m make (table_of c.set.new.self) (table_of c.set-in-loop-period.new.self) i u) (sym e) (record {
            stock = capped_as (least_stock m make i now) c.saturating_sub-there.result (table_of c.set.new.self i now) c.capped-left.result (omega (arith, in_, out)) (omega arith) c.capped-left.ensures;
            backlog = capped_as (least_backlog m make i now) c.saturating_sub-late.result (table_of c.set-in-loop-period.new.self i now) c.capped-owed.result (omega (arith, in_, out)) (omega arith) c.capped-owed.ensures;
          }))
          (λ ne.
          let before = c.loop-period.invariant.row t low (omega arith) in
          record {
            stock = capped_as (least_stock m make i t) (least_stock m make i t) (table_of c.set.new.self i t) (table_of c.loop-period.stock i t) refl (c.set.ensures.others i t c.requires.low (omega arith) low (omega arith) (inr ne)) before.stock;
            backlog = capped_as (least_backlog m make i t) (least_backlog m make i t) (table_of c.set-in-loop-period.new.self i t) (table_of c.loop-period.backlog i t) refl (c.set-in-loop-period.ensures.others i t c.requires.low (omega arith) low (omega arith) (inr ne)) before.backlog;
          })
          (cases_eq t now);
      other_stocks = λ j u j_low j_high u_low u_high ne. c.set.ensures.others j u j_low (omega arith) u_low (omega arith) (inl ne) ∙ c.loop-period.invariant.other_stocks j u j_low j_high u_low u_high ne;
      other_backlogs = λ j u j_low j_high u_low u_high ne. c.set-in-loop-period.ensures.others j u j_low (omega arith) u_low (omega arith) (inl ne) ∙ c.loop-period.invariant.other_backlogs j u j_low j_high u_low u_high ne;
    }
