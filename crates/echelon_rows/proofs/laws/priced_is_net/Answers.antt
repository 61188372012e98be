use Rattle.echelon_rows.proofs.CostSums.{net_of_priced}
use Rattle.echelon_rows.proofs.laws.priced_is_net.Goals as goal

pub returns : goal.returns
returns c = λ e setup unit hold back. net_of_priced e setup unit hold back
