use Rattle.cert_checker.proofs.CheckNever.{no_fault}
use Rattle.cert_checker.proofs.ReducedNever.{leaf_laws}
use Rattle.cert_checker.proofs.laws.certified_is_not_refused.Goals as goal

pub returns : goal.returns
returns c m total weight limits cert given at w =
    no_fault m total weight c.judgement_is_one.ensures c.cut_rows_go_on.ensures.places c.cut_rows_are_one.ensures (leaf_laws c.says_are_one.ensures c.reduced_sums_are_one.ensures.one c.reduced_sums_are_one.ensures.choices c.reduced_sums_are_one.ensures.faults c.reduced_sums_are_one.ensures.told) limits cert given at w
