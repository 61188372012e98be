use Rattle.bill.proofs.Existing.{totals_exist, weights_exist}
use Rattle.bill.proofs.laws.totals_exist.Goals as goal

pub returns-clause-totals : goal.returns-clause-totals
returns-clause-totals c = λ b asked there rank ranks. totals_exist b asked there rank ranks

pub returns-clause-weights : goal.returns-clause-weights
returns-clause-weights c = λ b rank ranks. weights_exist b rank ranks
