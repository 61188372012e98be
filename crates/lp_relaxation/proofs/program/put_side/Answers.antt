use Rattle.std.proofs.Common.{◌≡◌, ◌∙◌, map, sym, ap, subst, [], ◌∷◌, ◌++◌}
use Rattle.lin_rows.specs.Columns.{column_count}
use Rattle.tableau.specs.Held.{inequality_of}
use Rattle.tableau.specs.Program.{AreRows}
use Rattle.lp_relaxation.proofs.Growing.{map_append}
use Rattle.lp_relaxation.proofs.Making.{rows_push}
use Rattle.lp_relaxation.proofs.program.put_side.Goals as goal

pub returns-clause-fit : goal.returns-clause-fit
returns-clause-fit c = λ before.
    let n = column_count c.args.instance.now in
    let old = c.args.rows.now.items in
    let one = c.in_ok-lp_row.field-0 in
    let more : map inequality_of c.push.new.self.items ≡ map inequality_of old ++ (inequality_of one ∷ []) = ap (map inequality_of) c.in_ok-push.ensures.items ∙ map_append inequality_of old (one ∷ []) in
    subst (AreRows n) (sym more) (rows_push n (map inequality_of old) (inequality_of one) before c.in_ok-lp_row.ensures.fits)
