use Rattle.cert_meaning.specs.Named.{names}
use Rattle.cert_meaning.proofs.Leaves.{leaf_is_so}
use Rattle.cert_meaning.proofs.laws.leaves_bound.Goals as goal

pub returns : goal.returns
returns c = λ m rank total cuts path ranges leaf says some ranks totals hold of choices is p f within met.
    leaf_is_so (record { totals = c.totals_are_bounded.ensures; bound = c.sums_bound.ensures.plans; refute = c.sums_refute.ensures; left = c.ranges_are_left.ensures.plans; reduced = c.reduced_sum_bounds.ensures.bound; choices = c.reduced_sum_bounds.ensures.refute })
    (names m total cuts path) ranges leaf says p is (record { some = some; cuts = of; path = choices })
    (record { known = record { some = some; rank = rank; ranks = ranks; totals = totals }; feasible = f; cuts = hold p f; met = met }) within
