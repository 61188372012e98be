use Rattle.rational.proofs.Orders.{cmp_total, order_of}
use Rattle.rational.proofs.comparison.Goals as goal

pub returns : goal.returns
returns c = record { order = order_of; total = cmp_total }
