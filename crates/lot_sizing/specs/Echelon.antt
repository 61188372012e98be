-- Echelon stocks: an item and all of it that stands in other items.
use Rattle.std.specs.Prelude.{◌≡◌, ℕ, ◌+◌, ◌-◌, ◌*◌, ◌≤◌, ◌<◌}
use Rattle.lot_sizing.specs.Sums.{sum_to}
use Rattle.lot_sizing.specs.Problem.{Problem, item_at, item_count, demand}
use Rattle.lot_sizing.specs.Plan.{Plan, stock_after, backlog_after}
use Rattle.lot_sizing.specs.Net.{Asked}

-- what items have, weighed by the units of item i in one unit of each
abbrev pub in_echelon : Problem → (ℕ → ℕ → ℕ) → ℕ → (ℕ → ℕ) → ℕ
in_echelon m weight i f = sum_to (item_count m) (λ j. weight i j * f j)

abbrev pub echelon_stock : Problem → (ℕ → ℕ → ℕ) → Plan → ℕ → ℕ → ℕ
echelon_stock m weight p i t = in_echelon m weight i (λ j. stock_after m p j t)

abbrev pub echelon_backlog : Problem → (ℕ → ℕ → ℕ) → Plan → ℕ → ℕ → ℕ
echelon_backlog m weight p i t = in_echelon m weight i (λ j. backlog_after p j t)

abbrev pub echelon_demand : Problem → (ℕ → ℕ → ℕ) → ℕ → ℕ → ℕ
echelon_demand m weight i t = in_echelon m weight i (λ j. demand m j t)

-- what is asked of an item and of all items that it goes into
abbrev pub asked_in_echelon : Problem → (ℕ → ℕ → ℕ) → ℕ → Asked
asked_in_echelon m weight i = record {
  periods = m.periods;
  demand = echelon_demand m weight i;
  opening = in_echelon m weight i (λ j. (item_at m j).opening);
  end_min = in_echelon m weight i (λ j. (item_at m j).end_min);
}

-- neither the item nor one that it goes into has a lead time
abbrev pub IsLeadFree : Problem → (ℕ → ℕ → ℕ) → ℕ → Type 0
IsLeadFree m weight i = (j : ℕ) → 1 ≤ j → j ≤ item_count m → 0 < weight i j → (item_at m j).lead ≡ 0

-- what is made serves the echelon's demand or stays in its stock
abbrev pub IsEchelonBalanced : Problem → (ℕ → ℕ → ℕ) → Plan → ℕ → ℕ → Type 0
IsEchelonBalanced m weight p i t =
    echelon_stock m weight p i (t - 1) + p.make i t + echelon_backlog m weight p i t
    ≡ echelon_demand m weight i t + echelon_stock m weight p i t + echelon_backlog m weight p i (t - 1)
