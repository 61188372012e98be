use Rattle.item_bound.proofs.One.{apart_one}
use Rattle.item_bound.proofs.laws.apart_is_one.Goals as goal

pub returns : goal.returns
returns c = apart_one
