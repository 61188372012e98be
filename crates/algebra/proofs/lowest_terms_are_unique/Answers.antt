use Rattle.algebra.proofs.Lowest.{IsLowest-unique}
use Rattle.algebra.proofs.lowest_terms_are_unique.Goals as goal

pub returns : goal.returns
returns c = IsLowest-unique
