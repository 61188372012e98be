use Rattle.std.proofs.Common.{⊎_elim, refl, sym, subst, arith}
use Rattle.std.proofs.lemmas.Bool.{cases_eq}
use Rattle.plan_rules.specs.Cells.{table_of}
use Rattle.cert_checker.specs.Leaves.{IsPointAt}
use Rattle.cert_checker.proofs.LeafPoints.{moved}
use Rattle.cert_checker.proofs.leaf_point.fill.Goals as goal

pub loop-item-preserved : goal.loop-item-preserved
loop-item-preserved c =
    let path = c.args.path.now in
    let make = table_of c.fill_item.new.make in
    let setup = table_of c.fill_item.new.setup in
    record {
      make = c.fill_item.ensures.make;
      setup = c.fill_item.ensures.setup;
      cells = λ total totals i t low high t_low t_high. ⊎_elim
          (λ here. subst (λ j. IsPointAt total path make setup j t) (sym here) (c.if-not-fill_item.ensures.row refl total totals t t_low t_high))
          (λ apart. moved total path (table_of c.loop-item.make) (table_of c.loop-item.setup) make setup i t
          (c.fill_item.ensures.other_quantities i t low (omega arith) t_low (omega arith) apart)
          (c.fill_item.ensures.other_setups i t low (omega arith) t_low (omega arith) apart)
          (c.loop-item.invariant.cells total totals i t low (omega arith) t_low t_high))
          (cases_eq i c.loop-item.item);
    }

pub returns-clause-cells : goal.returns-clause-cells
returns-clause-cells c = λ _ total totals i t low high t_low t_high.
    c.loop-item.invariant.cells total totals i t low (omega (arith, high, c.loop-item-test.false, c.items-item-end.ensures.value)) t_low t_high
