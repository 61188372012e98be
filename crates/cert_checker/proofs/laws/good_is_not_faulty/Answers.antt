use Rattle.std.proofs.Common.{◌+◌}
use Rattle.lot_sizing.specs.Sums.{sum_to}
use Rattle.lot_sizing.specs.Bill.{bill_of}
use Rattle.lot_sizing.specs.Problem.{demand, item_at}
use Rattle.cert_checker.proofs.laws.good_is_not_faulty.Goals as goal

pub returns : goal.returns
returns c m rank limits ranks cert given at w good fault =
    let (total, totals) = c.totals_exist.ensures.totals (bill_of m) (λ i. sum_to m.periods (demand m i) + (item_at m i).end_max) (λ i. (item_at m i).opening) rank ranks in
    let (weight, weights) = c.totals_exist.ensures.weights (bill_of m) rank ranks in
    c.certified_is_not_refused.ensures m total weight limits cert given at w (good total weight totals weights) (fault total weight totals weights)
