use Rattle.std.proofs.Common.{rules, ◌≡◌, ◌+◌, ◌-◌, ◌≤◌, ◌∙◌, ap, arith, length, slice_index_or, subst, sym, take}
use mir.Facts.{to_z-of_z}
use mir.Val.{SFits, of_z, to_z}
use mir.Syntax.{w128}
use Rattle.std.specs.Prelude.{ℤ}
use Rattle.lin_rows.specs.declared.base.RowName.{RowName}
use Rattle.cert_lines.specs.declared.parts.Part.{Part}
use Rattle.cert_meaning.specs.Lists.{list_row, parts_from}
use Rattle.cert_checker.proofs.Listed.{parts_more}
use Rattle.cert_checker.proofs.leaf_reduced.spread.Goals as goal

pub loop-period-preserved : goal.loop-period-preserved
loop-period-preserved c =
    let list = c.args.list.now in
    let times = list.times.items in
    let t = c.loop-period.period in
    let raw = c.index-times.result.now in
    let z = to_z w128 (of_z w128 raw) in
    let fits : SFits w128 raw = search rules in
    let part : Part = record { row = c.row_in-row.result; times = z } in
    let high : t ≤ length times = omega (arith, c.requires, c.loop-period-test.true, c.periods-period-end.ensures.value) in
    let there : raw ≡ slice_index_or times (t - 1) raw = search rules in
    let number : z ≡ slice_index_or times (t - 1) raw = to_z-of_z fits ∙ there in
    let is : part ≡ record { row = list_row list.kind list.index t; times = slice_index_or times (t - 1) raw } =
    ap (λ (r : RowName). record { row = r; times = z }) c.row_in-row.ensures ∙ ap (λ (y : ℤ). record { row = list_row list.kind list.index t; times = y }) number in
    let next : t + 1 - 1 ≡ t = omega arith in
    subst (λ k. c.push.new.self.items ≡ parts_from list.kind list.index 1 (take k times)) (sym next)
    (parts_more list.kind list.index t times c.push.new.self.items c.loop-period.parts.items part raw c.loop-period.auto.period high c.loop-period.invariant is c.in_ok-push.ensures.items)
