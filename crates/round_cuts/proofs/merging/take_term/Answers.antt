use Rattle.std.proofs.Common.{◌≡◌, ◌∙◌, ◌++◌, ◌∷◌, [], rules, refl, ap, inr}
use Rattle.std.specs.Prelude.{pos, ◌*ℤ◌}
use mir.Facts.{to_z-of_z}
use mir.Val.{SFits}
use mir.Syntax.{w128}
use Rattle.algebra.proofs.Integers.{one_mul}
use Rattle.lin_rows.specs.Sums.{no_total, with_more}
use Rattle.round_cuts.specs.Merging.{stretch_with}
use Rattle.round_cuts.proofs.merging.take_term.Goals as goal

pub returns-clause-takes : goal.returns-clause-takes
returns-clause-takes c =
    let t = c.args.term.times in
    let fits : SFits w128 t = search rules in
    let more : c.with_more-2.result ≡ with_more no_total t =
    simp (to_z-of_z fits) at c.with_more-2.ensures.value ∙ ap (λ total. with_more total (pos 1 *ℤ t)) c.none.ensures.value ∙ ap (with_more no_total) (one_mul t) in
    inr (c.if-is_same.ensures.apart refl, c.in_ok-push.ensures ∙ ap (λ t. c.args.done.now.items ++ t ∷ []) c.term.ensures, ap (stretch_with c.args.term.column) more)
