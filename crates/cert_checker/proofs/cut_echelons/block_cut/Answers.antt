use Rattle.std.proofs.Common.{refl, sym, subst, []}
use Rattle.std.specs.Prelude.{IfSome, IsNone}
use Rattle.lin_rows.specs.Rows.{HoldsIn}
use Rattle.cert_lines.specs.Shapes.{BlockCut, block_lists}
use Rattle.cert_checker.specs.Cuts.{IsCutEchelon, IsFaultOfCut}
use Rattle.cert_checker.proofs.CutKinds.{at_plans, block_fault, block_is, in_problem}
use Rattle.cert_checker.proofs.cut_echelons.block_cut.Goals as goal

pub returns-in_default-clause-fault : goal.returns-in_default-clause-fault
returns-in_default-clause-fault c =
    subst (IsFaultOfCut c.args.instance.now [] (BlockCut c.args.item (block_lists c.args.potentials.now)) c.args.line) (sym c.refused-in_default.ensures)
    (λ total weight totals are. (refl, c.if-not-has_block_form.ensures.0 refl, c.in_ok-echelon.ensures.none (subst IsNone (sym c.in_default.is) refl) weight are))

pub returns-in-Ok-clause-row : goal.returns-in-Ok-clause-row
returns-in-Ok-clause-row c =
    let P = IsCutEchelon c.args.instance.now c.args.item in
    let has : P c.in-Some.echelon = subst (λ found. IfSome found P) c.in-Some.is c.in_ok-echelon.ensures.some in
    block_is c.args.instance.now c.args.item c.in-Some.echelon has c.echelon_rows_are_one.ensures c.args.potentials.now c.in-Ok.row (c.if-not-has_block_form.ensures.0 refl) c.in-Ok.ensures.allowed c.in-Ok.ensures.row

pub returns-in-Ok-clause-holds : goal.returns-in-Ok-clause-holds
returns-in-Ok-clause-holds c =
    let P = IsCutEchelon c.args.instance.now c.args.item in
    let has : P c.in-Some.echelon = subst (λ found. IfSome found P) c.in-Some.is c.in_ok-echelon.ensures.some in
    at_plans c.args.instance.now c.args.item c.in-Some.echelon has (λ p. HoldsIn p c.in-Ok.row) c.in-Ok.ensures.holds

pub returns-in-Ok-clause-columns_exist : goal.returns-in-Ok-clause-columns_exist
returns-in-Ok-clause-columns_exist c =
    let P = IsCutEchelon c.args.instance.now c.args.item in
    let has : P c.in-Some.echelon = subst (λ found. IfSome found P) c.in-Some.is c.in_ok-echelon.ensures.some in
    in_problem c.args.instance.now c.args.item c.in-Some.echelon has c.in-Ok.row.terms c.in-Ok.ensures.columns_exist

pub returns-clause-fault : goal.returns-clause-fault
returns-clause-fault c =
    let P = IsCutEchelon c.args.instance.now c.args.item in
    let has : P c.in-Some.echelon = subst (λ found. IfSome found P) c.in-Some.is c.in_ok-echelon.ensures.some in
    subst (IsFaultOfCut c.args.instance.now [] (BlockCut c.args.item (block_lists c.args.potentials.now)) c.args.line) (sym c.fault_on.ensures)
    (block_fault c.args.instance.now c.args.item c.in-Some.echelon has c.echelon_rows_are_one.ensures c.args.potentials.now c.args.line c.in-Err.fault (c.if-not-has_block_form.ensures.0 refl) c.in-Err.ensures.fault)
