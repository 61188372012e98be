use Rattle.std.proofs.Common.{[]}
use Rattle.lot_sizing.specs.Problem.{entry}
use Rattle.lin_rows.specs.Columns.{value_in}
use Rattle.valid_inequalities.specs.Inequalities.{all_gain}
use Rattle.echelon_rows.specs.Rows.{echelon_in, priced, trajectory_at}
use Rattle.facility_form.specs.PriceRow.{price_right}
use Rattle.facility_form.proofs.Pricing.{at_most_worth}
use Rattle.facility_form.proofs.laws.price_rows_hold.Goals as goal

pub returns : goal.returns
returns c = λ e m weight i of p plan price unit hold back.
    let E = echelon_in e in
    let v = value_in p in
    let s = priced E [] unit hold back in
    let f = trajectory_at E v in
    let way = c.echelons_go.ensures e m weight i of p plan in
    let net = c.priced_is_net.ensures E [] unit hold back in
    c.cost_rows_hold.ensures E v way (all_gain E.asked s (entry price)) [] unit hold back (price_right E.asked price hold)
    (at_most_worth E price unit hold back net _ (c.price_holds.ensures E.asked e.backlogged f s (entry price) way net))
