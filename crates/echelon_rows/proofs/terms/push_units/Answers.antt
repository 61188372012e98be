use Rattle.std.proofs.Common.{◌∷◌, [], ℕ, List}
use Rattle.std.specs.Prelude.{pos}
use Rattle.lot_sizing.specs.Problem.{entry}
use Rattle.lin_rows.specs.declared.column.Column.TheVariants.{X}
use Rattle.lin_rows.specs.declared.row.Term.{Term}
use Rattle.lin_rows.specs.Base.{term}
use Rattle.lin_rows.proofs.Terms.{put_next}
use Rattle.echelon_rows.proofs.terms.push_units.Goals as goal

pub loop-period-preserved : goal.loop-period-preserved
loop-period-preserved c =
    let f : ℕ → List Term = λ t. term (X c.args.item t) (pos (entry c.args.times.now t)) ∷ [] in
    put_next c.loop-period.period f c.args.terms.now.items c.loop-period.terms.items c.push_term.new.terms.items c.loop-period.auto.period c.loop-period.invariant c.in_ok-push_term.ensures
