use Rattle.lot_sizing.proofs.Echelon.{net_at_most}
use Rattle.lot_sizing.proofs.laws.net_is_within_totals.Goals as goal

pub returns : goal.returns
returns c = λ m weight rank total are ranks totals ends i low high. net_at_most m weight rank total are ranks totals ends i low high
