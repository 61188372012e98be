use Rattle.cert_meaning.proofs.Whichever.{accepted_same, fits_same, sums_same, whole_same}
use Rattle.cert_meaning.proofs.laws.acceptance_is_one.Goals as goal

pub returns : goal.returns
returns c =
    let one_total = c.totals_are_one.ensures in
    let one_weight = c.weights_are_one.ensures in
    let same_sums = sums_same c.reduced_by_both.ensures.sum c.reduced_by_both.ensures.lacks in
    record {
      accepted = λ m a b v w by r s agree cert given is.
          accepted_same m a b v w (one_total m by.rank a b by.ranks by.totals.0 by.totals.1) (one_weight m by.rank v w by.ranks by.weights.0 by.weights.1) (same_sums m a b v w by) r s agree cert given is;
      fits = λ m a b v w by r cert given is fits.
          fits_same m a b v w (one_total m by.rank a b by.ranks by.totals.0 by.totals.1) (one_weight m by.rank v w by.ranks by.weights.0 by.weights.1) (same_sums m a b v w by) r cert given is fits;
      ranges = λ m a b v w by. whole_same m a b (one_total m by.rank a b by.ranks by.totals.0 by.totals.1);
    }
