use Rattle.std.proofs.Common.{◌*◌, ◌∷◌, [], ℕ, List, subst}
use Rattle.std.specs.Prelude.{pos}
use Rattle.lot_sizing.specs.Problem.{entry}
use Rattle.lin_rows.specs.declared.column.Column.TheVariants.{R}
use Rattle.lin_rows.specs.declared.row.Term.{Term}
use Rattle.lin_rows.specs.Base.{term}
use Rattle.lin_rows.proofs.Terms.{put_next}
use Rattle.lin_rows.specs.Made.{PutTerms}
use Rattle.echelon_rows.specs.Rows.{owed_by}
use Rattle.echelon_rows.proofs.terms.push_item_backlogs.Goals as goal

pub loop-period-preserved : goal.loop-period-preserved
loop-period-preserved c =
    let f : ℕ → List Term = λ t. term (R c.args.item t) (pos (entry c.args.times.now t * owed_by c.args.periods c.args.back c.args.weight t)) ∷ [] in
    put_next c.loop-period.period f c.args.terms.now.items c.loop-period.terms.items c.push_term.new.terms.items c.loop-period.auto.period c.loop-period.invariant (subst (λ k. PutTerms c.loop-period.terms.items (term (R c.args.item c.loop-period.period) (pos (entry c.args.times.now c.loop-period.period * k)) ∷ []) c.push_term.new.terms.items) c.owed_times-owed.ensures.value c.in_ok-push_term.ensures)
