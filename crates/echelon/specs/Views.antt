-- What an item by itself and an echelon are in the words of the definitions.
use Rattle.std.specs.Prelude.{◌≡◌, ◌↔◌, ℕ, zero, suc, ◌+◌, ◌-◌, ◌≤◌, ◌<◌, Bool, false, IsTrue, List, [], ◌∷◌, ◌++◌, length, option_map, slice_index_or}
use Rattle.lot_sizing.specs.Sums.{sum_to}
use Rattle.lot_sizing.specs.Problem.{AllAtMost, Problem, entry, item_at}
use Rattle.lot_sizing.specs.Single.{Single}
use Rattle.lot_sizing.specs.Net.{Asked, asked_of, net_in}
use Rattle.lot_sizing.specs.declared.limits.TheConstants.{MAX_ITEMS, MAX_PERIODS, MAX_TOTAL}
use Rattle.echelon.specs.declared.net.EchelonItem.{EchelonItem}
use Rattle.echelon.specs.declared.net.TheConstants.{MAX_ASKED}
use Rattle.echelon.specs.declared.single.SingleItem.{SingleItem}

abbrev pub single_of_item : SingleItem → Single
single_of_item a = record { net = a.net.items; setup = a.setup.items; unit = a.unit.items; hold = a.hold.items; back = option_map (λ v. v.items) a.back }

-- what is asked for, with an entry for each period
abbrev pub asked_in : List ℕ → ℕ → ℕ → Asked
asked_in demands opening end_min = record { periods = length demands; demand = entry demands; opening = opening; end_min = end_min }

-- what is asked of an echelon
abbrev pub asked_of_echelon : EchelonItem → Asked
asked_of_echelon e = asked_in e.demand.items e.opening e.end_min

-- the net demands of an echelon, added up
abbrev pub net_of_all : EchelonItem → ℕ
net_of_all e = sum_to (length e.demand.items) (net_in (asked_of_echelon e))

-- the mark of an item, counted from 1
abbrev pub marked : List Bool → ℕ → Bool
marked marks i = slice_index_or marks (i - 1) false

-- an item with a weight above 0 is marked
abbrev pub HasMarked : List ℕ → List Bool → Type 0
HasMarked weights marks = (j : ℕ) × (1 ≤ j) × (j ≤ length weights) × (0 < entry weights j) × IsTrue (marked marks j)

-- the limits of an echelon, and that its three fields on backlogs agree
pub record IsEchelonWithinBounds (e : EchelonItem) : Type 0 where
  pub item : (1 ≤ e.item) × (e.item ≤ length e.weights.items)
  pub items : length e.weights.items ≤ MAX_ITEMS
  pub periods : length e.demand.items ≤ MAX_PERIODS
  pub backs : length e.backs.items ≡ length e.weights.items
  pub weights : AllAtMost MAX_TOTAL e.weights.items
  pub asked : sum_to (length e.demand.items) (entry e.demand.items) + e.opening + e.end_min ≤ MAX_ASKED
  pub agree : IsTrue e.backlogged ↔ HasMarked e.weights.items e.backs.items

-- a number for each period
pub record HasEach (periods : ℕ) (f : ℕ → ℕ) (xs : List ℕ) : Type 0 where
  pub size : length xs ≡ periods
  pub each : (t : ℕ) → 1 ≤ t → t ≤ periods → entry xs t ≡ f t

-- f 1 .. f n
abbrev pub list_to : ℕ → (ℕ → ℕ) → List ℕ
list_to zero f = []
list_to (suc n) f = list_to n f ++ (f (suc n) ∷ [])

-- an item of a problem by itself
abbrev pub single_in : Problem → ℕ → Single
single_in m i = record {
  net = list_to m.periods (net_in (asked_of m i));
  setup = (item_at m i).setup_cost;
  unit = (item_at m i).unit_cost;
  hold = (item_at m i).hold_cost;
  back = (item_at m i).backlog_cost;
}
