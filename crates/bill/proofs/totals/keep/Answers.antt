use Rattle.std.proofs.Common.{◌-◌, ◌∙◌, ap, arith, length, subst, sym, true}
use Rattle.std.proofs.lemmas.List.{get_or-set_other}
use Rattle.bill.specs.Steps.{AreRows}
use Rattle.bill.proofs.Rows.{row_count, row_set_here, row_set_other}
use Rattle.bill.proofs.Kept.{entry_other, spare_kept, tables_kept}
use Rattle.bill.proofs.totals.keep.Goals as goal

pub returns-clause-tables : goal.returns-clause-tables
returns-clause-tables c =
    let old = c.args.known.now in
    let n = length old.done.items in
    let are = c.requires.tables.tables in
    record {
      tables = tables_kept n old.done.items old.totals.items old.weights.items c.args.item c.args.total c.swap.new.x are c.requires.low c.requires.high c.requires.total (subst (λ v. AreRows n v.items) (sym c.swap.ensures.x_after) c.requires.tables.row);
      row = subst (λ v. AreRows n v.items) (sym (c.swap.ensures.y_after ∙ c.index_mut-3.ensures.value)) (spare_kept n old.done.items old.totals.items old.weights.items c.args.item _ are c.requires.low c.requires.high);
    }

pub returns-clause-row : goal.returns-clause-row
returns-clause-row c =
    let old = c.args.known.now in
    row_set_here old.weights.items c.args.item c.swap.new.x c.requires.low (omega (arith, row_count old.weights.items, c.requires.tables.tables.weights_size, c.requires.high)) ∙ ap (λ v. v.items) c.swap.ensures.x_after

pub returns-clause-others : goal.returns-clause-others
returns-clause-others c =
    let old = c.args.known.now in
    record {
      done = λ j low apart. get_or-set_other old.done.items (c.args.item - 1) (j - 1) true _ (λ same. apart (omega (arith, same, low, c.requires.low)));
      totals = λ j low apart. entry_other old.totals.items c.args.item c.args.total j (λ same. apart (omega (arith, same, low, c.requires.low)));
      weights = λ j low apart. row_set_other old.weights.items c.args.item j c.swap.new.x c.requires.low low apart;
    }
