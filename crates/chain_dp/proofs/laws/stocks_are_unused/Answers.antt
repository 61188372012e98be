use Rattle.chain_dp.proofs.Stocks.{unused_stocks}
use Rattle.chain_dp.proofs.laws.stocks_are_unused.Goals as goal

pub returns : goal.returns
returns c = record { law = unused_stocks }
