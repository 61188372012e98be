-- What the steps from a draft to an instance hold.
use Rattle.std.specs.Prelude.{◌≡◌, ℕ, ◌≤◌, List, length, map}
use Rattle.lot_sizing.specs.declared.limits.TheConstants.{MAX_AMOUNT, MAX_END_STOCK, MAX_TOTAL}
use Rattle.lot_sizing.specs.declared.Need.{Need}
use Rattle.lot_sizing.specs.Problem.{EachItem, Item, Problem, IsSeries, entry, item_count}
use Rattle.lot_sizing.specs.Bill.{HasRanks, bill_of}
use Rattle.lot_sizing.specs.Totals.{AreLargestTotals}
use Rattle.bill.specs.Over.{HaveSize}
use Rattle.bill.specs.Sets.{IsReachOf}
use Rattle.lot_model.specs.Meaning.{AreAllOf, AreSmallRows, IsBounded}
use Rattle.lot_model.specs.declared.building.Parts.{Parts}
use Rattle.lot_model.specs.declared.making.Prepared.{Prepared}
use Rattle.lot_model.specs.declared.making.Found.{Found}

abbrev pub problem_of_parts : Parts → Problem
problem_of_parts a = record { periods = a.periods; resources = a.resources.items; items = a.items.items }

-- an item with a demand for each period, none too large
pub record HasSmallDemand (periods : ℕ) (a : Item) : Type 0 where
  pub demand : IsSeries periods MAX_AMOUNT a.demand
  pub end_max : a.end_max ≤ MAX_END_STOCK

-- the components of each item
abbrev pub needs_in : Problem → List (List Need)
needs_in m = map (λ a. a.needs) m.items

-- these are what is asked and what is there of each item
abbrev pub AreOf : Problem → (ℕ → ℕ) → List ℕ → Type 0
AreOf p f numbers = EachItem p (λ i. entry numbers i ≡ f i)

-- the bill of a problem, and room for its ranks and totals
pub record IsPrepared (p : Problem) (a : Prepared) : Type 0 where
  pub lines : a.lines ≡ needs_in p
  pub reach : IsReachOf (bill_of p) a.ranking
  pub tables : a.tables ≡ item_count p
  pub asked : length a.asked.items ≡ item_count p
  pub there : length a.there.items ≡ item_count p

-- ranks of a problem's items
pub record AreRanks (p : Problem) (numbers : List ℕ) : Type 0 where
  pub size : length numbers ≡ item_count p
  pub small : (i : ℕ) → entry numbers i ≤ item_count p
  pub ranks : HasRanks (bill_of p) (entry numbers)

-- its largest totals and its weights
pub record AreTotalsOf (p : Problem) (numbers : List ℕ) (rows : List (List ℕ)) : Type 0 where
  pub totals_size : length numbers ≡ item_count p
  pub weights_size : length rows ≡ item_count p
  pub row_sizes : HaveSize (item_count p) rows
  pub rows_small : AreSmallRows (item_count p) rows
  pub all : AreAllOf p numbers rows
  pub totals : AreLargestTotals p (entry numbers)
  pub small : (i : ℕ) → entry numbers i ≤ MAX_TOTAL
  pub bounded : IsBounded p

-- both
pub record IsFound (p : Problem) (found : Found) : Type 0 where
  pub ranks : AreRanks p found.ranks.items
  pub totals : AreTotalsOf p found.totals.totals found.totals.weights
