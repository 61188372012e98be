use Rattle.std.proofs.Common.{◌≡◌, ◌-◌, ◌∙◌, ap, arith, FitsSigned, w64, to_z, of_z, rules}
use Rattle.std.specs.Prelude.{pos}
use mir.Facts.{to_z-of_z}
use Rattle.plan_rules.specs.Cells.{table_of}
use Rattle.replan.proofs.Drafts.{drafted}
use Rattle.replan.proofs.drafting.draft.Goals as goal

pub returns : goal.returns
returns c =
    let x = c.whole.result in
    let fits : FitsSigned w64 x = search rules in
    let same : to_z w64 (of_z w64 x) ≡ x = to_z-of_z fits in
    let from : c.from.result ≡ c.args.instance.now.periods - c.args.first = omega (arith, c.from.ensures, c.periods.ensures.value) in
    drafted c.args.instance.now (table_of c.args.make.now) c.args.first _ _ _ (same ∙ (c.whole.ensures ∙ ap pos from)) c.in_ok-resources.ensures c.in_ok-items.ensures
