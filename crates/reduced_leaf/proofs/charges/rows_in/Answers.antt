use Rattle.std.proofs.Common.{◌≡◌, ◌+◌, ◌-◌, ◌∙◌, ap, sym, subst, arith}
use Rattle.std.specs.Prelude.{map}
use Rattle.std.proofs.lemmas.List.{map_push}
use Rattle.reduced_groups.specs.Apart.{share_in}
use Rattle.reduced_groups.specs.Levels.{HasSeries}
use Rattle.reduced_groups.specs.Floors.{shape_of}
use Rattle.reduced_leaf.specs.Found.{HaveSeries}
use Rattle.reduced_leaf.proofs.Pricing.{rows_next}
use Rattle.reduced_leaf.proofs.charges.rows_in.Goals as goal

pub row_in-requires : goal.row_in-requires
row_in-requires c = record { once = c.requires.apart.once c.loop-item.item }

pub loop-item-preserved : goal.loop-item-preserved
loop-item-preserved c =
    let i = c.loop-item.item in
    let periods = c.args.instance.now.periods in
    let f = share_in (map shape_of c.args.groups.now) in
    let e : i ≡ i + 1 - 1 = omega arith in
    let row = c.in_ok-row_in.field-0 in
    subst (HaveSeries (i + 1 - 1) periods f) (sym (ap (map (λ v. v.items)) c.in_ok-push.ensures.items ∙ map_push (λ v. v.items) c.loop-item.rows.items row))
    (rows_next (i - 1) (i + 1 - 1) periods f row.items (map (λ v. v.items) c.loop-item.rows.items) (omega (arith, c.loop-item.auto.item)) c.loop-item.invariant (subst (λ j. HasSeries periods (f j) row.items) e c.in_ok-row_in.ensures))
