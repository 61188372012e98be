use Rattle.std.proofs.Common.{◌≡◌, ◌+◌, ◌-◌, ⊎_elim, sym, subst, arith}
use Rattle.std.proofs.lemmas.Bool.{cases_lt}
use Rattle.plan_rules.specs.Cells.{table_of}
use Rattle.frozen_start.specs.Held.{AreFlows, CellStands, start_of}
use Rattle.frozen_start.proofs.standing.item_stands.Goals as goal

pub loop-period-init : goal.loop-period-init
loop-period-init c = record { flows = c.before-flows.ensures (table_of c.args.make.now); stands = λ u low high. absurd (omega (arith, low, high)) }

pub loop-period-preserved : goal.loop-period-preserved
loop-period-preserved c =
    let m = c.args.instance.now in
    let t = c.loop-period.period in
    let e : t + 1 - 1 ≡ t = omega arith in
    record {
      flows = subst (λ n. AreFlows m (table_of c.args.make.now) c.args.item n c.next-flows.result) (sym e) c.next-flows.ensures;
      stands = λ u low high.
          ⊎_elim
          (λ less. c.loop-period.invariant.stands u low less)
          (λ more. let is : t ≡ u = omega (arith, more, high) in subst (CellStands m (start_of c.args.make.now c.args.setup.now) c.args.item) is (c.cell_stands.ensures.0 (cc c.if-not-cell_stands.false)))
          (cases_lt u t);
    }
