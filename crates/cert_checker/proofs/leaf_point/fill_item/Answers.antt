use Rattle.std.proofs.Common.{◌∙◌, ⊎_elim, inl, inr, refl, sym, subst, arith}
use Rattle.std.proofs.lemmas.Bool.{cases_eq}
use Rattle.plan_rules.specs.Cells.{table_of}
use Rattle.cert_checker.specs.Leaves.{IsPointAt}
use Rattle.cert_checker.proofs.LeafPoints.{moved}
use Rattle.cert_checker.proofs.leaf_point.fill_item.Goals as goal

pub loop-period-preserved : goal.loop-period-preserved
loop-period-preserved c =
    let path = c.args.path.now in
    let i = c.args.item in
    let make = table_of c.fill_cell.new.make in
    let setup = table_of c.fill_cell.new.setup in
    record {
      make = c.fill_cell.ensures.make;
      setup = c.fill_cell.ensures.setup;
      row = λ total totals t low high. ⊎_elim
          (λ here. subst (λ u. IsPointAt total path make setup i u) (sym here) (c.if-not-fill_cell.ensures.here refl total totals))
          (λ apart. moved total path (table_of c.loop-period.make) (table_of c.loop-period.setup) make setup i t
          (c.fill_cell.ensures.other_quantities i t c.requires.low (omega arith) low (omega arith) (inr apart))
          (c.fill_cell.ensures.other_setups i t c.requires.low (omega arith) low (omega arith) (inr apart))
          (c.loop-period.invariant.row total totals t low (omega arith)))
          (cases_eq t c.loop-period.period);
      other_quantities = λ j u j_low j_high u_low u_high ne. c.fill_cell.ensures.other_quantities j u j_low (omega arith) u_low (omega arith) (inl ne) ∙ c.loop-period.invariant.other_quantities j u j_low j_high u_low u_high ne;
      other_setups = λ j u j_low j_high u_low u_high ne. c.fill_cell.ensures.other_setups j u j_low (omega arith) u_low (omega arith) (inl ne) ∙ c.loop-period.invariant.other_setups j u j_low j_high u_low u_high ne;
    }

pub returns-clause-row : goal.returns-clause-row
returns-clause-row c = λ _ total totals t low high.
    c.loop-period.invariant.row total totals t low (omega (arith, high, c.loop-period-test.false, c.periods-period-end.ensures.value))
