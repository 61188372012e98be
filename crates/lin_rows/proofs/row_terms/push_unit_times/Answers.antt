use Rattle.std.proofs.Common.{◌≡◌, ◌-◌, ◌∙◌, ◌∷◌, [], rules, ap, subst, arith}
use Rattle.lot_sizing.specs.Problem.{item_count}
use Rattle.lin_rows.specs.Base.{term, unit_terms, terms_to}
use Rattle.lin_rows.specs.Made.{PutTerms}
use Rattle.lin_rows.specs.declared.column.Column.TheVariants.{X}
use Rattle.std.specs.Prelude.{pos, neg_ℤ}
use mir.Facts.{to_z-of_z}
use mir.Val.{SFits}
use mir.Syntax.{w128}
use Rattle.lin_rows.proofs.Terms.{put_next, put_none}
use Rattle.lin_rows.proofs.row_terms.push_unit_times.Goals as goal

pub loop-item-init : goal.loop-item-init
loop-item-init c = put_none c.args.terms.now.items

pub loop-item-preserved : goal.loop-item-preserved
loop-item-preserved c =
    let fits : SFits w128 c.taken-times.result = search rules in
    let f = unit_terms c.args.instance.now c.args.resource c.args.period in
    put_next c.loop-item.item f c.args.terms.now.items c.loop-item.terms.items c.push_term.new.terms.items c.loop-item.auto.item c.loop-item.invariant (subst (λ z. PutTerms c.loop-item.terms.items (term (X c.loop-item.item c.args.period) z ∷ []) c.push_term.new.terms.items) (c.taken-times.ensures ∙ ap (λ k. neg_ℤ (pos k)) c.unit_time.ensures.value) (simp (to_z-of_z fits) at c.in_ok-push_term.ensures))

pub returns : goal.returns
returns c =
    let f = unit_terms c.args.instance.now c.args.resource c.args.period in
    let e : c.loop-item.item - 1 ≡ item_count c.args.instance.now = omega (arith, c.loop-item-test.false, c.loop-item.auto.item-end, c.loop-item.auto.item, c.items-item-end.ensures.value) in
    subst (λ n. PutTerms c.args.terms.now.items (terms_to n f) c.loop-item.terms.items) e c.loop-item.invariant
