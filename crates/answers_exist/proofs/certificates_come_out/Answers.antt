use Rattle.answers_exist.proofs.Certificates.{certificates_out}
use Rattle.answers_exist.proofs.certificates_come_out.Goals as goal

pub returns : goal.returns
returns c = certificates_out (record {
  totals = c.totals_exist.ensures.totals;
  weights = c.totals_exist.ensures.weights;
  cuts = record {
    totals = c.totals_are_one.ensures;
    weights = c.weights_are_one.ensures;
    echelons = c.echelon_rows_are_one.ensures;
    hold = c.cuts_hold.ensures;
    go_on = c.cut_rows_go_on.ensures.more;
    small = c.cut_rows_go_on.ensures.small;
  };
  least = c.least_stocks_are_best.ensures;
  within = c.plans_are_within.ensures;
  judged = c.plans_are_judged.ensures.grids;
  reduced = record {
    exists = c.known_exists.ensures;
    charges = c.charges_cover.ensures.exist;
    numbers = c.numbers_exist.ensures;
    judged = c.groups_are_judged.ensures.apart;
    work = c.groups_are_judged.ensures.work;
    sums = c.reduced_by_both.ensures.sum;
    lacks = c.reduced_by_both.ensures.lacks;
    one = c.reduced_sums_are_one.ensures.one;
    choices = c.reduced_sums_are_one.ensures.choices;
  };
})
