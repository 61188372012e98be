-- Why slots are no schedule, and why records are no slots.
use Rattle.std.specs.Prelude.{◌≡◌, ◌⊎◌, ℕ, ◌+◌, ◌<◌, ◌≤◌, ⊤, List, length}
use Rattle.lot_sizing.specs.Problem.{Problem, capacity, item_count, resource_count}
use Rattle.lot_sizing.specs.Plan.{Plan}
use Rattle.plan_rules.specs.Order.{IsFirst}
use Rattle.csv_records.specs.Records.{Record, record_at}
use Rattle.lot_schedule.specs.Slots.{AreOfOneLot, AreTogether, HasAll, HasSlot, length_of, slot_at, slot_length}
use Rattle.lot_schedule.specs.Records.{HasHeader, IsRow}
use Rattle.lot_schedule.specs.declared.slot.Slot.{Slot}
use Rattle.lot_schedule.specs.declared.broken.SlotBroken.{SlotBroken}
use Rattle.lot_schedule.specs.declared.broken.SlotBroken.TheVariants as broken
use Rattle.lot_schedule.specs.declared.fault.SlotFault.{SlotFault}
use Rattle.lot_schedule.specs.declared.fault.SlotFault.TheVariants as fault

-- the lot of the slot at this place has an earlier one
abbrev pub IsListedBefore : List Slot → ℕ → Type 0
IsListedBefore xs n = (o : ℕ) × (o < n) × AreOfOneLot (slot_at xs o) (slot_at xs n)

-- the slot is of a lot that takes no time, or of one that was listed before
abbrev pub IsExtra : Problem → Plan → List Slot → ℕ → Type 0
IsExtra m p xs n = (slot_length m p (slot_at xs n) ≡ 0) ⊎ IsListedBefore xs n

-- the slot lasts as long as its lot
abbrev pub Lasts : Problem → Plan → Slot → Type 0
Lasts m p s = s.end ≡ s.start + slot_length m p s

-- it ends within the capacity
abbrev pub IsInTime : Problem → Slot → Type 0
IsInTime m s = s.end ≤ capacity m s.resource s.period

-- neither ends at or before the start of the other
abbrev pub Overlap : Slot → Slot → Type 0
Overlap a b = (b.start < a.end) × (a.start < b.end)

-- the slot at this place overlaps an earlier one of its resource and period
abbrev pub OverlapsEarlier : List Slot → ℕ → Type 0
OverlapsEarlier xs n = (o : ℕ) × (o < n) × AreTogether (slot_at xs o) (slot_at xs n) × Overlap (slot_at xs o) (slot_at xs n)

-- nothing is wrong with the slot at this place, beside those before it
pub record IsGood (m : Problem) (p : Plan) (xs : List Slot) (n : ℕ) : Type 0 where
  pub wanted : IsExtra m p xs n → ⊥
  pub lasts : Lasts m p (slot_at xs n)
  pub in_time : IsInTime m (slot_at xs n)
  pub free : OverlapsEarlier xs n → ⊥

-- what is wrong with the slot at this place, whose row is the next number: the first of the four that holds
abbrev pub IsBadSlot : Problem → Plan → List Slot → ℕ → SlotBroken → Type 0
IsBadSlot m p xs n (broken.Extra row) = (row ≡ n + 1) × IsExtra m p xs n
IsBadSlot m p xs n (broken.Length row) = (row ≡ n + 1) × (IsExtra m p xs n → ⊥) × (Lasts m p (slot_at xs n) → ⊥)
IsBadSlot m p xs n (broken.Past row) = (row ≡ n + 1) × (IsExtra m p xs n → ⊥) × Lasts m p (slot_at xs n) × (IsInTime m (slot_at xs n) → ⊥)
IsBadSlot m p xs n (broken.Overlap row) = (row ≡ n + 1) × (IsExtra m p xs n → ⊥) × Lasts m p (slot_at xs n) × IsInTime m (slot_at xs n) × OverlapsEarlier xs n
IsBadSlot m p xs n (broken.Absent k t i) = ⊥

-- all slots before this place are good
abbrev pub AreGoodBefore : Problem → Plan → List Slot → ℕ → Type 0
AreGoodBefore m p xs n = (o : ℕ) → o < n → IsGood m p xs o

-- the first slot that isn't good, and what is wrong with it
abbrev pub IsFirstBad : Problem → Plan → List Slot → SlotBroken → Type 0
IsFirstBad m p xs b = (n : ℕ) × (n < length xs) × AreGoodBefore m p xs n × IsBadSlot m p xs n b

-- the first item that lacks its slot on a resource in a period
pub record IsFirstLack (m : Problem) (p : Plan) (xs : List Slot) (k t i : ℕ) : Type 0 where
  pub low : 1 ≤ i
  pub high : i ≤ item_count m
  pub takes : 0 < length_of m p k t i
  pub absent : HasSlot xs k t i → ⊥
  pub before : (j : ℕ) → 1 ≤ j → j < i → 0 < length_of m p k t j → HasSlot xs k t j

-- why slots are no schedule: the first slot that is bad, else the first resource, period and item without a slot
abbrev pub IsSlotBroken : Problem → Plan → List Slot → SlotBroken → Type 0
IsSlotBroken m p xs (broken.Absent k t i) = AreGoodBefore m p xs (length xs) × IsFirst (resource_count m) m.periods (HasAll m p xs) k t × IsFirstLack m p xs k t i
IsSlotBroken m p xs b = IsFirstBad m p xs b

-- the first record after the header that is no slot's row
pub record IsFirstBadRow (m : Problem) (rs : List Record) (n : ℕ) : Type 0 where
  pub low : 1 ≤ n
  pub there : n < length rs
  pub bad : IsRow m (record_at rs n) → ⊥
  pub before : (o : ℕ) → 1 ≤ o → o < n → IsRow m (record_at rs o)

-- the first fault in the order of the file, where memory isn't the cause
abbrev pub IsSlotFault : Problem → List Record → SlotFault → Type 0
IsSlotFault m rs fault.Header = HasHeader rs → ⊥
IsSlotFault m rs (fault.Row n) = HasHeader rs × IsFirstBadRow m rs n
IsSlotFault m rs fault.Memory = ⊤
