-- The lots of a resource in a period, and the slots that are laid for them.
use Rattle.std.specs.Prelude.{◌≡◌, ◌⊎◌, ℕ, ◌+◌, ◌-◌, ◌*◌, ◌<◌, ◌≤◌, List, [], ◌∷◌, length, slice_index_or, if◌then◌else◌, nat_lt, min}
use Rattle.std.specs.List.{sum_by}
use Rattle.lot_sizing.specs.Problem.{Problem, item_count, resource_count}
use Rattle.lot_sizing.specs.Plan.{Plan}
use Rattle.lot_sizing.specs.Sums.{sum_to}
use Rattle.lot_sizing.specs.declared.limits.TheConstants.{MAX_ITEMS, MAX_PERIODS, MAX_RESOURCES}
use Rattle.plan_rules.specs.Order.{HoldsBefore, IsBefore}
use Rattle.lot_schedule.specs.Slots.{AreTogether, HasAll, IsSlot, length_of, slot_at, slot_length}
use Rattle.lot_schedule.specs.Orders.{sum_of_ends}
use Rattle.lot_schedule.specs.declared.lots.Lot.{Lot}
use Rattle.lot_schedule.specs.declared.slot.Slot.{Slot}

-- their lengths together
abbrev pub total_of : List Lot → ℕ
total_of ls = sum_by (λ lot. lot.length) ls

abbrev pub no_lot : Lot
no_lot = record { item = 0; length = 0 }

abbrev pub lot_at : List Lot → ℕ → Lot
lot_at ls n = slice_index_or ls n no_lot

-- the lot of an item, of those up to this one, that takes time
pub record IsLotTo (m : Problem) (p : Plan) (k t last : ℕ) (lot : Lot) : Type 0 where
  pub low : 1 ≤ lot.item
  pub high : lot.item ≤ last
  pub length : lot.length ≡ length_of m p k t lot.item
  pub takes : 0 < lot.length

-- what f gives of the lot of an item, and 0 where it takes no time
abbrev pub of_lot : Problem → Plan → ℕ → ℕ → (Lot → ℕ) → ℕ → ℕ
of_lot m p k t f i = if nat_lt 0 (length_of m p k t i) then f (record { item = i; length = length_of m p k t i }) else 0

-- the lots of all items up to this one that take time: any sum over them is one over these items
pub record AreLots (m : Problem) (p : Plan) (k t last : ℕ) (ls : List Lot) : Type 0 where
  pub each : (n : ℕ) → n < length ls → IsLotTo m p k t last (lot_at ls n)
  pub sums : (f : Lot → ℕ) → sum_by f ls ≡ sum_to last (of_lot m p k t f)

-- item by item
pub record AreLotsTo (m : Problem) (p : Plan) (k t last : ℕ) (ls : List Lot) : Type 0 where
  pub lots : AreLots m p k t last ls
  pub rising : (n o : ℕ) → n < o → o < length ls → (lot_at ls n).item < (lot_at ls o).item

-- the shorter one is first, and of equal ones that of the lesser item
abbrev pub IsShorter : Lot → Lot → Type 0
IsShorter a b = (a.length < b.length) ⊎ ((a.length ≡ b.length) × (a.item < b.item))

-- shortest first
pub record AreLotsOf (m : Problem) (p : Plan) (k t : ℕ) (ls : List Lot) : Type 0 where
  pub lots : AreLots m p k t (item_count m) ls
  pub order : (n o : ℕ) → n < o → o < length ls → IsShorter (lot_at ls n) (lot_at ls o)

-- one after the other from this time on
abbrev pub laid : ℕ → ℕ → ℕ → List Lot → List Slot
laid k t start [] = []
laid k t start (lot ∷ rest) = record { resource = k; period = t; item = lot.item; start = start; end = start + lot.length } ∷ laid k t (start + lot.length) rest

-- twice the least sum of ends: the lesser of the two lengths of each ordered pair of items, one and the same item twice
abbrev pub pair_sum : ℕ → (ℕ → ℕ) → ℕ
pair_sum n f = sum_to n (λ i. sum_to n (λ j. min (f i) (f j))) + sum_to n f

-- one slot stands before another: an earlier resource or period, or the shorter lot's, which has ended
abbrev pub Follows : Problem → Plan → Slot → Slot → Type 0
Follows m p a b = IsBefore a.resource a.period b.resource b.period ⊎ (AreTogether a b × (a.end ≤ b.start) × ((slot_length m p a < slot_length m p b) ⊎ ((slot_length m p a ≡ slot_length m p b) × (a.item < b.item))))

-- the slots of all resources and periods before these
pub record IsLaidBefore (m : Problem) (p : Plan) (xs : List Slot) (k t : ℕ) : Type 0 where
  pub slots : (n : ℕ) → n < length xs → IsSlot m p (slot_at xs n)
  pub before : (n : ℕ) → n < length xs → IsBefore (slot_at xs n).resource (slot_at xs n).period k t
  pub order : (n o : ℕ) → n < o → o < length xs → Follows m p (slot_at xs n) (slot_at xs o)
  pub all : HoldsBefore (resource_count m) m.periods (HasAll m p xs) k t
  pub ends : HoldsBefore (resource_count m) m.periods (λ j u. 2 * sum_of_ends xs j u ≡ pair_sum (item_count m) (length_of m p j u)) k t
  pub few : length xs ≤ MAX_ITEMS * MAX_PERIODS * min (k - 1) MAX_RESOURCES + MAX_ITEMS * min (t - 1) MAX_PERIODS
