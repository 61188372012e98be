use Rattle.lot_sizing.proofs.Echelon.{echelon_balance}
use Rattle.lot_sizing.proofs.laws.echelons_balance.Goals as goal

pub returns : goal.returns
returns c = λ m weight rank are ranks p f i t low high t_low t_high free. echelon_balance m weight rank are ranks p f i t low high t_low t_high free
