use Rattle.chain_dp.proofs.Worked.{worked}
use Rattle.chain_dp.proofs.laws.worked_chain.Goals as goal

pub returns : goal.returns
returns c = record { law = worked }
