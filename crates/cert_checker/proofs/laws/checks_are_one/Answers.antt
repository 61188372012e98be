use Rattle.cert_checker.proofs.CheckOnce.{one_fault}
use Rattle.cert_checker.proofs.ReducedNever.{leaf_laws}
use Rattle.cert_checker.proofs.laws.checks_are_one.Goals as goal

pub returns : goal.returns
returns c = λ m total weight cert given at other w v limits a b.
    one_fault c.judgement_is_one.ensures c.cut_rows_go_on.ensures.places c.cut_rows_are_one.ensures (leaf_laws c.says_are_one.ensures c.reduced_sums_are_one.ensures.one c.reduced_sums_are_one.ensures.choices c.reduced_sums_are_one.ensures.faults c.reduced_sums_are_one.ensures.told) m total weight cert given at other w v limits a b
