use Rattle.lot_sizing.proofs.Least.{least_costs, least_feasible, least_of}
use Rattle.lot_sizing.proofs.laws.least_stocks_are_best.Goals as goal

pub returns : goal.returns
returns c = λ m make setup some p f choice. (least_feasible m make setup p some f choice, least_costs m make setup p f choice, λ i t low high t_low t_high. least_of m make setup p f choice i t low high t_low t_high)
