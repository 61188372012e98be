use Rattle.cert_trees.specs.Ranges.{whole_ranges}
use Rattle.cert_meaning.proofs.Whole.{whole_by}
use Rattle.cert_meaning.proofs.laws.accepted_is_true.Goals as goal

pub returns : goal.returns
returns c = λ m rank total weight some ranks totals are cert given is.
    whole_by c.plans_are_within.ensures m total (record { some = some; rank = rank; ranks = ranks; totals = totals }) cert.claim given
    (c.accepted_over_ranges.ensures m rank total weight some ranks totals are (whole_ranges total) cert given is)
