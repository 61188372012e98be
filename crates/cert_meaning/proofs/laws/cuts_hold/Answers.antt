use Rattle.std.proofs.Common.{[]}
use Rattle.cert_meaning.proofs.Cuts.{Grounds, cuts_columns, cuts_hold}
use Rattle.cert_meaning.proofs.laws.cuts_hold.Goals as goal

pub returns : goal.returns
returns c = λ m rank total weight some ranks totals are cuts rows is.
    let by : Grounds = record {
      totals = c.totals_are_bounded.ensures;
      balance = c.echelons_balance.ensures;
      ls = c.ls_holds.ensures;
      price = c.price_holds.ensures;
      block = c.block_holds.ensures;
      net = c.priced_is_net.ensures;
      costs = c.cost_rows_hold.ensures;
      sums = c.sums_hold.ensures;
    } in (
      λ p f. cuts_hold by m total weight (record { some = some; rank = rank; ranks = ranks; totals = totals }) are [] cuts rows is p f tt,
      cuts_columns m total weight [] cuts rows some is tt,
    )
