-- The weights of a problem's items, an order of the items, and what is asked of an echelon.
use Rattle.std.specs.Prelude.{◌≡◌, ◌↔◌, ℕ, ◌-◌, ◌≤◌, ◌<◌, Bool, IsTrue, IsSome, List, [], length, slice_index_or}
use Rattle.lot_sizing.specs.Problem.{Problem, entry, item_at, item_count, per_unit}
use Rattle.lot_sizing.specs.declared.limits.TheConstants.{MAX_TOTAL}
use Rattle.lot_sizing.specs.Bill.{AreWeights, bill_of}
use Rattle.lot_sizing.specs.Echelon.{asked_in_echelon}
use Rattle.lot_sizing.specs.Net.{asked_to}
use Rattle.bill.specs.Over.{row_entry}
use Rattle.lot_model.specs.Views.{IsInstance}
use Rattle.echelon.specs.declared.net.EchelonItem.{EchelonItem}
use Rattle.echelon.specs.Views.{HasEach, asked_of_echelon, marked}

-- a row of weights for each item, and the items in an order
pub record Exploded : Type 0 where
  pub weights : List (List ℕ)
  pub order : List ℕ

abbrev pub weight_in : Exploded → ℕ → ℕ → ℕ
weight_in e i k = row_entry e.weights i k

abbrev pub placed : List ℕ → ℕ → ℕ
placed order n = slice_index_or order n 0

-- each item stands at one place, before its components
pub record IsOrder (m : Problem) (order : List ℕ) : Type 0 where
  pub items_exist : (n : ℕ) → n < length order → (1 ≤ placed order n) × (placed order n ≤ item_count m)
  pub each : (i : ℕ) → 1 ≤ i → i ≤ item_count m → (n : ℕ) × (n < length order) × (placed order n ≡ i)
  pub once : (n k : ℕ) → n < length order → k < length order → placed order n ≡ placed order k → n ≡ k
  pub before : (n k : ℕ) → n < length order → k < length order → 0 < per_unit m (placed order k) (placed order n) → n < k

-- these are the problem's weights
pub record AreRows (m : Problem) (rows : List (List ℕ)) : Type 0 where
  pub size : length rows ≡ item_count m
  pub row_sizes : (i : ℕ) → 1 ≤ i → i ≤ item_count m → length (slice_index_or rows (i - 1) []) ≡ item_count m
  pub weights : AreWeights (bill_of m) (row_entry rows)
  pub small : (i k : ℕ) → 1 ≤ i → i ≤ item_count m → 1 ≤ k → k ≤ item_count m → row_entry rows i k ≤ MAX_TOTAL

-- the weights of an instance's items, and an order of them
pub record IsExplosionOf (m : Problem) (e : Exploded) : Type 0 where
  pub instance : IsInstance m
  pub rows : AreRows m e.weights
  pub order : IsOrder m e.order

-- an item has a backlog cost
abbrev pub HasBack : Problem → ℕ → Type 0
HasBack m i = IsSome (item_at m i).backlog_cost

-- a mark for each item, true where it has a backlog cost
pub record AreBacks (m : Problem) (n : ℕ) (list : List Bool) : Type 0 where
  pub size : length list ≡ n
  pub each : (i : ℕ) → 1 ≤ i → i ≤ n → IsTrue (marked list i) ↔ HasBack m i

-- one that the item goes into, or the item itself, has a backlog cost
abbrev pub IsBacklogged : Problem → (ℕ → ℕ → ℕ) → ℕ → Type 0
IsBacklogged m weight i = (j : ℕ) × (1 ≤ j) × (j ≤ item_count m) × (0 < weight i j) × HasBack m j

-- what is asked of the echelon of an item, by the weights
pub record IsEchelonOf (m : Problem) (weight : ℕ → ℕ → ℕ) (i : ℕ) (e : EchelonItem) : Type 0 where
  pub item : e.item ≡ i
  pub demand : HasEach m.periods (asked_in_echelon m weight i).demand e.demand.items
  pub opening : e.opening ≡ (asked_in_echelon m weight i).opening
  pub end_min : e.end_min ≡ (asked_in_echelon m weight i).end_min
  pub weights : HasEach (item_count m) (weight i) e.weights.items
  pub backs : AreBacks m (item_count m) e.backs.items
  pub backlogged : IsTrue e.backlogged ↔ IsBacklogged m weight i

-- up to each period as much is asked for as in the echelon of the item
abbrev pub AsksAs : Problem → (ℕ → ℕ → ℕ) → ℕ → EchelonItem → Type 0
AsksAs m weight i e = (t : ℕ) → t ≤ m.periods → asked_to (asked_of_echelon e) t ≡ asked_to (asked_in_echelon m weight i) t

-- the weights of an item, whatever weights its problem has
pub record IsRow (m : Problem) (i n : ℕ) (row : List ℕ) : Type 0 where
  pub size : length row ≡ n
  pub small : (k : ℕ) → 1 ≤ k → k ≤ n → entry row k ≤ MAX_TOTAL
  pub each : (weight : ℕ → ℕ → ℕ) → AreWeights (bill_of m) weight → (k : ℕ) → 1 ≤ k → k ≤ n → entry row k ≡ weight i k

-- the rows of the first items
pub record AreRowsTo (m : Problem) (n : ℕ) (rows : List (List ℕ)) : Type 0 where
  pub size : length rows ≡ n
  pub each : (i : ℕ) → 1 ≤ i → i ≤ n → IsRow m i (item_count m) (slice_index_or rows (i - 1) [])
