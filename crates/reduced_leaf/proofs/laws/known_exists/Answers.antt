use Rattle.reduced_leaf.proofs.Known.{known_exists}
use Rattle.reduced_leaf.proofs.laws.known_exists.Goals as goal

pub returns : goal.returns
returns c = λ m rank total ranks totals. known_exists m rank total c.on_time_is_one.ensures.exist ranks
