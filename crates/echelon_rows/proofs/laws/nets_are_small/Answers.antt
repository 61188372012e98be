use Rattle.echelon_rows.proofs.Nettings.{left_small, net_total}
use Rattle.echelon_rows.proofs.laws.nets_are_small.Goals as goal

pub returns : goal.returns
returns c = record {
  net = λ e within net has. net_total e within net has;
  left = λ e within left has. left_small e within left has;
}
