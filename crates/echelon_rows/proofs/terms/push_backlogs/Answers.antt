use Rattle.std.proofs.Common.{◌*◌, ℕ, length}
use Rattle.std.specs.Prelude.{pos}
use Rattle.lot_sizing.specs.Problem.{entry}
use Rattle.echelon.specs.Views.{marked}
use Rattle.lin_rows.specs.Base.{term}
use Rattle.lin_rows.specs.declared.column.Column.TheVariants.{R}
use Rattle.lin_rows.specs.declared.row.Term.{Term}
use Rattle.echelon_rows.specs.Rows.{owed_by}
use Rattle.echelon_rows.proofs.Put.{put_cells}
use Rattle.echelon_rows.proofs.terms.push_backlogs.Goals as goal

pub loop-item-preserved : goal.loop-item-preserved
loop-item-preserved c =
    let f : ℕ → ℕ → Term = λ j t. term (R j t) (pos (entry c.args.times.now t * owed_by c.args.periods (marked c.args.backs.now j) (entry c.args.weights.now j) t)) in
    put_cells c.loop-item.item (length c.args.times.now) f c.args.terms.now.items c.loop-item.terms.items c.push_item_backlogs.new.terms.items c.loop-item.auto.item c.loop-item.invariant c.in_ok-push_item_backlogs.ensures
