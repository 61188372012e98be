use Rattle.valid_inequalities.proofs.Nets.{is_net_plan}
use Rattle.valid_inequalities.proofs.laws.plans_net.Goals as goal

pub returns : goal.returns
returns c = λ a owing f s is net. is_net_plan a owing f s is net
