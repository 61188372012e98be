-- Schedules: the lots of a plan as times on each resource, one after the other within each period.
use Rattle.std.specs.Prelude.{◌≡◌, ◌⊎◌, ℕ, ◌+◌, ◌*◌, ◌<◌, ◌≤◌, List, length, slice_index_or}
use Rattle.lot_sizing.specs.Problem.{EachItem, Problem, capacity, item_count, resource_count, setup_time, unit_time}
use Rattle.lot_sizing.specs.Plan.{Each, Plan}
use Rattle.lot_schedule.specs.declared.slot.Slot.{Slot}

-- the length of an item on a resource in a period: the time that its units and its setup take
abbrev pub length_of : Problem → Plan → ℕ → ℕ → ℕ → ℕ
length_of m p k t i = unit_time m i k * p.make i t + setup_time m i k * p.setup i t

abbrev pub no_slot : Slot
no_slot = record { resource = 0; period = 0; item = 0; start = 0; end = 0 }

-- a slot by its place in the list, counted from 0
abbrev pub slot_at : List Slot → ℕ → Slot
slot_at xs n = slice_index_or xs n no_slot

-- its resource, period and item exist
pub record Exists (m : Problem) (s : Slot) : Type 0 where
  pub resource_low : 1 ≤ s.resource
  pub resource_high : s.resource ≤ resource_count m
  pub period_low : 1 ≤ s.period
  pub period_high : s.period ≤ m.periods
  pub item_low : 1 ≤ s.item
  pub item_high : s.item ≤ item_count m

-- those of all slots do
abbrev pub AllExist : Problem → List Slot → Type 0
AllExist m xs = (n : ℕ) → n < length xs → Exists m (slot_at xs n)

-- two slots are of one resource and period
pub record AreTogether (a b : Slot) : Type 0 where
  pub resource : a.resource ≡ b.resource
  pub period : a.period ≡ b.period

-- and of one item
pub record AreOfOneLot (a b : Slot) : Type 0 where
  pub together : AreTogether a b
  pub item : a.item ≡ b.item

-- one ends at or before the start of the other
abbrev pub AreApart : Slot → Slot → Type 0
AreApart a b = (a.end ≤ b.start) ⊎ (b.end ≤ a.start)

-- the length of the item of a slot
abbrev pub slot_length : Problem → Plan → Slot → ℕ
slot_length m p s = length_of m p s.resource s.period s.item

-- the slot of a lot that takes time lasts as long as the lot, and ends within the capacity
pub record IsSlot (m : Problem) (p : Plan) (s : Slot) : Type 0 where
  pub exists : Exists m s
  pub takes : 0 < slot_length m p s
  pub lasts : s.end ≡ s.start + slot_length m p s
  pub within : s.end ≤ capacity m s.resource s.period

-- the slot is of this resource, period and item
pub record IsOf (k t i : ℕ) (s : Slot) : Type 0 where
  pub resource : s.resource ≡ k
  pub period : s.period ≡ t
  pub item : s.item ≡ i

-- there is one
abbrev pub HasSlot : List Slot → ℕ → ℕ → ℕ → Type 0
HasSlot xs k t i = (n : ℕ) × (n < length xs) × IsOf k t i (slot_at xs n)

-- each item with a length on the resource in the period has a slot there
abbrev pub HasAll : Problem → Plan → List Slot → ℕ → ℕ → Type 0
HasAll m p xs k t = EachItem m (λ i. 0 < length_of m p k t i → HasSlot xs k t i)

-- a schedule of a plan: exactly one slot for each resource, period and item with a length, which lasts so long and ends within the capacity; no other slot; and those of one resource and period don't overlap
pub record IsSchedule (m : Problem) (p : Plan) (xs : List Slot) : Type 0 where
  pub slots : (n : ℕ) → n < length xs → IsSlot m p (slot_at xs n)
  pub once : (n o : ℕ) → n < o → o < length xs → AreOfOneLot (slot_at xs n) (slot_at xs o) → ⊥
  pub apart : (n o : ℕ) → n < o → o < length xs → AreTogether (slot_at xs n) (slot_at xs o) → AreApart (slot_at xs n) (slot_at xs o)
  pub all : Each (resource_count m) m.periods (HasAll m p xs)
