-- What each item costs at least by itself, and the sum of it.
use Rattle.std.specs.Prelude.{◌≡◌, ◌⊎◌, ℕ, ◌+◌, ◌*◌, ◌≤◌, nat_lt, Bool, List, Some, None, replicate, unwrap_or, if◌then◌else◌}
use Rattle.lot_sizing.specs.Sums.{sum_to}
use Rattle.lot_sizing.specs.Problem.{Problem, entry, item_at, item_count, per_unit}
use Rattle.lot_sizing.specs.Bill.{AreWeights, bill_of}
use Rattle.lot_sizing.specs.Echelon.{IsLeadFree, asked_in_echelon}
use Rattle.lot_sizing.specs.Net.{left_after, net_in}
use Rattle.lot_sizing.specs.Single.{IsLeastNetCost, Single}
use Rattle.echelon.specs.Views.{list_to}
use Rattle.cert_meaning.specs.CutRows.{echelon_at}

-- the item goes into some item
abbrev pub is_component : Problem → ℕ → Bool
is_component m i = nat_lt 0 (sum_to (item_count m) (per_unit m i))

-- a cost of 0 in each period
abbrev pub no_costs : Problem → List ℕ
no_costs m = replicate m.periods 0

-- the holding costs of the item apart, and what it costs to owe a unit: those of the item where it goes into no item, and 0 otherwise,
-- since in the echelon of a component stand the items that it goes into, and what these cost is theirs
abbrev pub held_apart : Problem → ℕ → List ℕ
held_apart m i = if is_component m i then no_costs m else (item_at m i).hold_cost

abbrev pub owed_apart : Problem → ℕ → List ℕ
owed_apart m i = if is_component m i then no_costs m else unwrap_or (item_at m i).backlog_cost (no_costs m)

-- the item apart: it serves the net demand of its echelon, and may owe what its echelon may owe
abbrev pub apart_single : Problem → (ℕ → ℕ → ℕ) → ℕ → Single
apart_single m weight i = record {
  net = list_to m.periods (net_in (asked_in_echelon m weight i));
  setup = (item_at m i).setup_cost;
  unit = (item_at m i).unit_cost;
  hold = held_apart m i;
  back = if (echelon_at m weight i).owing then Some (owed_apart m i) else None;
}

-- the holding of what is left of the echelon's opening stock, which no plan avoids
abbrev pub left_apart : Problem → (ℕ → ℕ → ℕ) → ℕ → ℕ
left_apart m weight i = sum_to m.periods (λ t. entry (held_apart m i) t * left_after (asked_in_echelon m weight i) t)

-- a cheapest net plan of the item apart, and the holding of what is left, cost this
pub record CostsApart (m : Problem) (weight : ℕ → ℕ → ℕ) (i c : ℕ) : Type 0 where
  pub plan_cost : ℕ
  pub least : IsLeastNetCost (apart_single m weight i) plan_cost
  pub sum : c ≡ plan_cost + left_apart m weight i

-- that of a lead-free item; and 0 of another one, whose echelon doesn't balance
abbrev pub IsApartOf : Problem → (ℕ → ℕ → ℕ) → ℕ → ℕ → Type 0
IsApartOf m weight i c = (IsLeadFree m weight i × CostsApart m weight i c) ⊎ ((IsLeadFree m weight i → ⊥) × (c ≡ 0))

-- the sum over the first items
pub record IsSumTo (m : Problem) (weight : ℕ → ℕ → ℕ) (n amount : ℕ) : Type 0 where
  pub each : ℕ → ℕ
  pub items : (i : ℕ) → 1 ≤ i → i ≤ n → IsApartOf m weight i (each i)
  pub sum : amount ≡ sum_to n each

-- what the items cost apart: the problem has weights, and it is the sum over all items by each of them
pub record IsApart (m : Problem) (amount : ℕ) : Type 0 where
  pub own : (weight : ℕ → ℕ → ℕ) × AreWeights (bill_of m) weight
  pub sum : (weight : ℕ → ℕ → ℕ) → AreWeights (bill_of m) weight → IsSumTo m weight (item_count m) amount

-- a problem has one such amount
abbrev pub ApartIsOne : Type 0
ApartIsOne = (m : Problem) (a b : ℕ) → IsApart m a → IsApart m b → a ≡ b
