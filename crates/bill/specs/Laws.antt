-- Laws of every bill whose items have ranks.
use Rattle.std.specs.Prelude.{ℕ}
use Rattle.lot_sizing.specs.Bill.{Bill, AreTotals, AreWeights, HasRanks}

-- its items have totals
abbrev pub TotalsExist : Type 0
TotalsExist = (b : Bill) (asked there rank : ℕ → ℕ) → HasRanks b rank → (total : ℕ → ℕ) × AreTotals b asked there total

-- and weights
abbrev pub WeightsExist : Type 0
WeightsExist = (b : Bill) (rank : ℕ → ℕ) → HasRanks b rank → (weight : ℕ → ℕ → ℕ) × AreWeights b weight
