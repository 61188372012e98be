use Rattle.cert_meaning.proofs.Whole.{accepted_within}
use Rattle.cert_meaning.proofs.laws.accepted_over_ranges.Goals as goal

pub returns : goal.returns
returns c = λ m rank total weight some ranks totals are ranges cert given is.
    accepted_within c.cuts_hold.ensures c.leaves_bound.ensures m total weight ranges cert given (record { some = some; rank = rank; ranks = ranks; totals = totals }) are is
