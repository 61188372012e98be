-- The problem that the fields of an instance stand for, and what holds of it.
use Rattle.std.specs.Prelude.{◌≡◌, ℕ, ◌≤◌, List, length}
use Rattle.lot_sizing.specs.Problem.{EachItem, Problem, entry, item_at, item_count, IsWithinLimits}
use Rattle.lot_sizing.specs.Bill.{bill_of}
use Rattle.lot_sizing.specs.Totals.{AreLargestTotals, IsRanking}
use Rattle.bill.specs.Over.{HaveSize, KeepsBound, OfAll}
use Rattle.lot_sizing.specs.declared.limits.TheConstants.{MAX_TOTAL}
use Rattle.lot_model.specs.Meaning.{AreAllOf, AreSmallRows, most_asked, there_of}
use Rattle.lot_model.specs.Valid.{HasFewLines, HaveNoBacklogs, HaveOwnNames, HaveOwnResourceNames, NameOnce, UseOnce}
use Rattle.lot_model.specs.declared.instance.Instance.TheInside.{Inside}

-- the problem
abbrev pub problem_in : Inside → Problem
problem_in a = record { periods = a.periods; resources = a.resources.items; items = a.items.items }

-- what holds of each instance: it is within the limits, no item goes into itself over any number of lines, its totals and weights are within the bound, names differ, lines name things once, and components have no backlog costs
pub record IsInstance (m : Problem) : Type 0 where
  pub limits : IsWithinLimits m
  pub lines : HasFewLines m
  pub ranked : (rank : ℕ → ℕ) × IsRanking m rank
  pub totals : (total : ℕ → ℕ) × AreLargestTotals m total × ((i : ℕ) → total i ≤ MAX_TOTAL)
  pub within : OfAll (bill_of m) (most_asked m) (there_of m) (λ total weight. (i : ℕ) → 1 ≤ i → i ≤ item_count m → KeepsBound (bill_of m) total weight i)
  pub names : HaveOwnNames m
  pub resource_names : HaveOwnResourceNames m
  pub needs_once : EachItem m (λ i. NameOnce (item_at m i).needs)
  pub uses_once : EachItem m (λ i. UseOnce (item_at m i).uses)
  pub no_backlogs : HaveNoBacklogs m

-- and these are its largest totals, its weights and ranks of its items
pub record AreKept (m : Problem) (total_list : List ℕ) (rows : List (List ℕ)) (rank_list : List ℕ) : Type 0 where
  pub instance : IsInstance m
  pub totals_size : length total_list ≡ item_count m
  pub weights_size : length rows ≡ item_count m
  pub row_sizes : HaveSize (item_count m) rows
  pub rows_small : AreSmallRows (item_count m) rows
  pub all : AreAllOf m total_list rows
  pub totals : AreLargestTotals m (entry total_list)
  pub small : (i : ℕ) → entry total_list i ≤ MAX_TOTAL
  pub ranks_size : length rank_list ≡ item_count m
  pub ranks_small : (i : ℕ) → entry rank_list i ≤ item_count m
  pub ranks : IsRanking m (entry rank_list)

abbrev pub IsKept : Inside → Type 0
IsKept a = AreKept (problem_in a) a.totals.totals a.totals.weights a.ranks.items
