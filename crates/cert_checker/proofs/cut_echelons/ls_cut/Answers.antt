use Rattle.std.proofs.Common.{refl, subst}
use Rattle.std.specs.Prelude.{IfSome}
use Rattle.lin_rows.specs.Rows.{HoldsIn}
use Rattle.cert_checker.specs.Cuts.{IsCutEchelon}
use Rattle.cert_checker.proofs.CutKinds.{at_plans, has_ls_row, in_problem, ls_is}
use Rattle.cert_checker.proofs.cut_echelons.ls_cut.Goals as goal

pub returns-in-Ok-clause-row : goal.returns-in-Ok-clause-row
returns-in-Ok-clause-row c =
    let P = IsCutEchelon c.args.instance.now c.args.item in
    let has : P c.in-Some.echelon = subst (λ found. IfSome found P) c.in-Some.is c.in_ok-echelon.ensures.some in
    ls_is c.args.instance.now c.args.item c.in-Some.echelon has c.echelon_rows_are_one.ensures c.args.last c.args.chosen.now c.in-Ok.row (c.if-not-has_ls_form.ensures.0 refl) c.in-Ok.ensures.row

pub returns-in-Ok-clause-holds : goal.returns-in-Ok-clause-holds
returns-in-Ok-clause-holds c =
    let P = IsCutEchelon c.args.instance.now c.args.item in
    let has : P c.in-Some.echelon = subst (λ found. IfSome found P) c.in-Some.is c.in_ok-echelon.ensures.some in
    at_plans c.args.instance.now c.args.item c.in-Some.echelon has (λ p. HoldsIn p c.in-Ok.row) c.in-Ok.ensures.holds

pub returns-in-Ok-clause-columns_exist : goal.returns-in-Ok-clause-columns_exist
returns-in-Ok-clause-columns_exist c =
    let P = IsCutEchelon c.args.instance.now c.args.item in
    let has : P c.in-Some.echelon = subst (λ found. IfSome found P) c.in-Some.is c.in_ok-echelon.ensures.some in
    in_problem c.args.instance.now c.args.item c.in-Some.echelon has c.in-Ok.row.terms c.in-Ok.ensures.columns

pub unreachable-requires : goal.unreachable-requires
unreachable-requires c =
    let P = IsCutEchelon c.args.instance.now c.args.item in
    let has : P c.in-Some.echelon = subst (λ found. IfSome found P) c.in-Some.is c.in_ok-echelon.ensures.some in
    c.in-Err-NoSuchRow.ensures.none c.in-Err-NoSuchRow.field-0-is (has_ls_row c.args.instance.now c.args.item c.in-Some.echelon has c.args.last c.args.chosen.now (c.if-not-has_ls_form.ensures.0 refl))
