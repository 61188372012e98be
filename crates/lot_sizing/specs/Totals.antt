-- How much of an item a feasible plan can make in all.
use Rattle.std.specs.Prelude.{ℕ, ◌+◌}
use Rattle.lot_sizing.specs.Sums.{sum_to}
use Rattle.lot_sizing.specs.Problem.{Problem, item_at, demand}
use Rattle.lot_sizing.specs.Bill.{AreTotals, HasRanks, bill_of}

-- each item has a number above that of each item that it goes into
abbrev pub IsRanking : Problem → (ℕ → ℕ) → Type 0
IsRanking m rank = HasRanks (bill_of m) rank

-- the largest totals: of each item its demand, its largest end stock and what the largest totals of other items take of it, less its opening stock, and at least 0
abbrev pub AreLargestTotals : Problem → (ℕ → ℕ) → Type 0
AreLargestTotals m total = AreTotals (bill_of m) (λ i. sum_to m.periods (demand m i) + (item_at m i).end_max) (λ i. (item_at m i).opening) total
