use Rattle.cert_meaning.proofs.Once.{one_says}
use Rattle.cert_meaning.proofs.laws.says_are_one.Goals as goal

pub returns : goal.returns
returns c = λ n ranges leaf a b is also. one_says c.reduced_sums_are_one.ensures.one c.reduced_sums_are_one.ensures.choices n ranges leaf a b is also
