use Rattle.uncoupled.proofs.Certified.{certified}
use Rattle.uncoupled.proofs.laws.block_leaves_are_certified.Goals as goal

pub returns : goal.returns
returns c = λ m total weight list amount plan free within totals weights count prove adds small comes.
    certified c.echelons_are_items.ensures c.plans_are_within.ensures m total weight list amount plan free within totals weights count prove adds small comes
