use Rattle.std.proofs.Common.{◌+◌, arith}
use Rattle.lot_sizing.proofs.Totals.{made_at_most}
use Rattle.lot_sizing.proofs.laws.totals_are_bounded.Goals as goal

pub returns : goal.returns
returns c = λ m rank total some ranks totals p f i low high. made_at_most m p rank total some f ranks totals (rank i + 1) i low high (omega arith)
