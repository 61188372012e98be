use Rattle.std.proofs.Common.{rules, ◌≡◌, sym, subst}
use Rattle.lin_rows.specs.Rows.{HoldsIn}
use Rattle.echelon_rows.specs.Rows.{echelon_in}
use Rattle.facility_form.specs.PriceRow.{price_row_of}
use Rattle.facility_form.proofs.price_rows.price_row.Goals as goal

pub returns-clause-holds : goal.returns-clause-holds
returns-clause-holds c m weight i of p plan =
    let e = c.args.echelon.now in
    let prices = c.args.prices.now in
    let row : c.in_ok-row.row ≡ price_row_of (echelon_in e) prices = search rules in
    subst (HoldsIn p) (sym row) (c.price_rows_hold.ensures e m weight i of p plan prices.price.items prices.unit.items prices.hold.items prices.back.items)
