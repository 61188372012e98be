use Rattle.std.proofs.Common.{◌≡◌, ◌+◌, ◌-◌, ◌∙◌, ⊎_elim, inl, inr, ap, sym, subst, arith}
use Rattle.std.proofs.lemmas.Bool.{cases_eq}
use Rattle.lot_sizing.specs.Least.{supply, outflow}
use Rattle.lot_sizing.proofs.Least.{supply_more, outflow_more}
use Rattle.plan_rules.specs.Cells.{table_of}
use Rattle.plan_rules.specs.Rows.{HasLeast}
use Rattle.plan_rules.proofs.completing.fill_item.Goals as goal
use Rattle.plan_rules.proofs.completing.fill_item.Goals.{then-left-via-then-left, then-left-via-else-left+then-owed}

pub returns-then-left-clause-too_large : goal.returns-then-left-clause-too_large
returns-then-left-clause-too_large c = λ _.
    let m = c.args.instance.now in
    let make = table_of c.args.make.now in
    let in_ : c.loop-period.supply + c.arriving.result ≡ supply m make c.args.item c.loop-period.period = omega (arith, supply_more m make c.args.item c.loop-period.period (omega arith)) in
    let out : c.loop-period.outflow + (c.demand.result + c.used_up.result) ≡ outflow m make c.args.item c.loop-period.period = omega (arith, outflow_more m make c.args.item c.loop-period.period (omega arith)) in
    (c.loop-period.period, omega arith, omega arith, elim c.then-left.branch [ then-left-via-then-left w ↦ inl (omega arith) | then-left-via-else-left+then-owed w ↦ inr (omega arith) ])

pub loop-period-preserved : goal.loop-period-preserved
loop-period-preserved c =
    let m = c.args.instance.now in
    let make = table_of c.args.make.now in
    let i = c.args.item in
    let now = c.loop-period.period in
    let next : now + 1 - 1 ≡ now = omega arith in
    let in_ : c.loop-period.supply + c.arriving.result ≡ supply m make i now = omega (arith, supply_more m make i now (omega arith)) in
    let out : c.loop-period.outflow + (c.demand.result + c.used_up.result) ≡ outflow m make i now = omega (arith, outflow_more m make i now (omega arith)) in
    record {
      stock = record { items = omega arith; periods = omega arith };
      backlog = record { items = omega arith; periods = omega arith };
      supply = in_ ∙ sym (ap (supply m make i) next);
      outflow = out ∙ sym (ap (outflow m make i) next);
      supply_small = omega arith;
      outflow_small = omega arith;
      row = λ t low high. ⊎_elim
          (λ e. subst (λ u. HasLeast m make (table_of c.set.new.self) (table_of c.set-in-loop-period.new.self) i u) (sym e) (omega arith, omega arith))
          (λ ne.
          let before = c.loop-period.invariant.row t low (omega arith) in
          (c.set.ensures.others i t c.requires.low (omega arith) low (omega arith) (inr ne) ∙ before.0, c.set-in-loop-period.ensures.others i t c.requires.low (omega arith) low (omega arith) (inr ne) ∙ before.1))
          (cases_eq t now);
      other_stocks = λ j u j_low j_high u_low u_high ne. c.set.ensures.others j u j_low (omega arith) u_low (omega arith) (inl ne) ∙ c.loop-period.invariant.other_stocks j u j_low j_high u_low u_high ne;
      other_backlogs = λ j u j_low j_high u_low u_high ne. c.set-in-loop-period.ensures.others j u j_low (omega arith) u_low (omega arith) (inl ne) ∙ c.loop-period.invariant.other_backlogs j u j_low j_high u_low u_high ne;
    }
