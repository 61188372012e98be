use Rattle.algebra.proofs.Ordered.{int_ordered}
use Rattle.algebra.proofs.Sums as sums
use Rattle.algebra.proofs.weak_duality.Goals as goal

pub returns : goal.returns
returns c = sums.weak_duality int_ordered
