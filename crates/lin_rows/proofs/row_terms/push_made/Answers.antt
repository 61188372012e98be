use Rattle.std.proofs.Common.{◌≡◌, ◌-◌, subst, arith}
use Rattle.lot_sizing.specs.Problem.{item_count}
use Rattle.lin_rows.specs.Base.{made_terms, terms_to}
use Rattle.lin_rows.specs.Made.{PutTerms}
use Rattle.lin_rows.proofs.Terms.{put_next, put_none}
use Rattle.lin_rows.proofs.row_terms.push_made.Goals as goal

pub loop-other-init : goal.loop-other-init
loop-other-init c = put_none c.args.terms.now.items

pub loop-other-preserved : goal.loop-other-preserved
loop-other-preserved c =
    let f = made_terms c.args.instance.now c.args.item c.args.period in
    put_next c.loop-other.other f c.args.terms.now.items c.loop-other.terms.items c.push_made_of.new.terms.items c.loop-other.auto.other c.loop-other.invariant c.in_ok-push_made_of.ensures

pub returns : goal.returns
returns c =
    let f = made_terms c.args.instance.now c.args.item c.args.period in
    let e : c.loop-other.other - 1 ≡ item_count c.args.instance.now = omega (arith, c.loop-other-test.false, c.loop-other.auto.other-end, c.loop-other.auto.other, c.items-other-end.ensures.value) in
    subst (λ n. PutTerms c.args.terms.now.items (terms_to n f) c.loop-other.terms.items) e c.loop-other.invariant
