use Rattle.std.specs.Prelude.{option_copied}
use Rattle.std.proofs.lemmas.Result.{IfErr-weaker, IfOk-weaker}
use Rattle.certificate.specs.Shapes.{shape_of}
use Rattle.cert_meaning.specs.Accepts.{IsTrueOf}
use Rattle.cert_checker.specs.Checks.{HasFault, IsGoodCertificate, IsNeverRefused, plan_given}
use Rattle.cert_checker.proofs.CheckNever.{never}
use Rattle.cert_checker.proofs.CheckWhole.{true_of}
use Rattle.cert_checker.proofs.ReducedNever.{leaf_laws}
use Rattle.cert_checker.proofs.checking.check.Goals as goal

pub returns-clause-claim : goal.returns-clause-claim
returns-clause-claim c =
    let m = c.args.instance.now in
    let s = shape_of c.args.certificate.now in
    let given = option_copied c.args.plan in
    IfOk-weaker c.examine.result (λ _. IsGoodCertificate m s given) (λ _. IsTrueOf m s.claim (plan_given given))
    (λ _ is. true_of m s given c.accepted_is_true.ensures c.totals_exist.ensures.weights c.an_instance_breaks_no_rule.ensures is)
    c.examine.ensures.certified

pub returns-clause-never : goal.returns-clause-never
returns-clause-never c =
    let m = c.args.instance.now in
    let s = shape_of c.args.certificate.now in
    let given = option_copied c.args.plan in
    IfErr-weaker c.examine.result (HasFault m s given) (IsNeverRefused m s given)
    (λ f faulty. never m s given f c.judgement_is_one.ensures c.cut_rows_go_on.ensures.places c.cut_rows_are_one.ensures (leaf_laws c.says_are_one.ensures c.reduced_sums_are_one.ensures.one c.reduced_sums_are_one.ensures.choices c.reduced_sums_are_one.ensures.faults c.reduced_sums_are_one.ensures.told) c.an_instance_breaks_no_rule.ensures.limits faulty)
    c.examine.ensures.fault
