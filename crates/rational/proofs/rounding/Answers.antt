use Rattle.rational.proofs.Facts.{is_ceiling, is_floor}
use Rattle.rational.proofs.rounding.Goals as goal

pub returns : goal.returns
returns c = record { floor = is_floor; ceiling = is_ceiling }
