use Rattle.lp_relaxation.proofs.Choices.{closed_same, emptied_same, relaxed_same}
use Rattle.lp_relaxation.proofs.values.relaxations_are_one.Goals as goal

pub returns : goal.returns
returns c =
    let one_total = c.totals_are_one.ensures in
    let one_weight = c.weights_are_one.ensures in
    let alike = c.alike_rows_are_one.ensures in
    record {
      points = λ m a b v w by q relaxed.
          relaxed_same alike m a b v w (one_total m by.rank a b by.ranks by.totals.0 by.totals.1) (one_weight m by.rank v w by.ranks by.weights.0 by.weights.1) q relaxed;
      closes = λ m rank total weight some ranks totals weights n closed other others are also.
          closed_same m total other weight others
          (relaxed_same alike m total other weight others (one_total m rank total other ranks totals are) (one_weight m rank weight others ranks weights also))
          (relaxed_same alike m other total others weight (one_total m rank other total ranks are totals) (one_weight m rank others weight ranks also weights))
          n closed;
      empty = λ m rank total weight some ranks totals weights none other others are also.
          emptied_same m total other weight others (relaxed_same alike m other total others weight (one_total m rank other total ranks are totals) (one_weight m rank others weight ranks also weights)) none;
    }
