use Rattle.std.proofs.Common.{◌≡◌, ◌∙◌, ap, List, FitsSigned, w64, to_z, of_z, rules}
use mir.Facts.{to_z-of_z}
use Rattle.std.specs.Prelude.{ℤ, drop, slice_set}
use Rattle.lot_model.specs.Drafted.{wholes}
use Rattle.replan.proofs.Drafts.{first_asked}
use Rattle.replan.proofs.lines.demand.Goals as goal

pub returns : goal.returns
returns c =
    let x = c.capped.result in
    let fits : FitsSigned w64 x = search rules in
    let same : to_z w64 (of_z w64 x) ≡ x = to_z-of_z fits in
    ap (λ (xs : List ℤ). slice_set xs 0 (to_z w64 (of_z w64 x))) c.in_ok-list.ensures
    ∙ (ap (λ (z : ℤ). slice_set (wholes (drop c.args.first c.args.amounts.now)) 0 z) (same ∙ c.capped.ensures)
    ∙ first_asked c.args.amounts.now c.args.first c.args.owed c.requires.inside c.requires.small)
