-- Where the slots of one resource and period begin, and the first lot without a slot.
use Rattle.std.specs.Prelude.{◌≡◌, ◌⊎◌, ℕ, ◌+◌, ◌-◌, ◌<◌, ◌≤◌, false, true, List}
use Rattle.lot_sizing.specs.Problem.{Problem, resource_count}
use Rattle.lot_sizing.specs.Plan.{Plan}
use Rattle.plan_rules.specs.Order.{IsBefore, IsFirst}
use Rattle.lot_schedule.specs.Slots.{AreTogether, HasAll, slot_at}
use Rattle.lot_schedule.specs.Faults.{IsFirstLack}
use Rattle.lot_schedule.specs.declared.slot.Slot.{Slot}
use Rattle.lot_schedule.specs.declared.broken.SlotBroken.{SlotBroken}
use Rattle.lot_schedule.specs.declared.broken.SlotBroken.TheVariants as broken
use Rattle.lot_schedule.specs.declared.checking.Run.{Run}

-- no slot before the first place is of the resource and period of that at this place
abbrev pub NoneBefore : List Slot → ℕ → ℕ → Type 0
NoneBefore xs first n = (o : ℕ) → o < first → AreTogether (slot_at xs o) (slot_at xs n) → ⊥

-- the run of the last of so many slots: while they stand in one of the two orders, none of its resource and period is before it
pub record IsRun (xs : List Slot) (run : Run) (n : ℕ) : Type 0 where
  pub whole : run.by_resource ≡ false → run.by_period ≡ false → run.first ≡ 0
  pub by_resource : run.by_resource ≡ true → (o : ℕ) → o + 1 < n → IsBefore (slot_at xs o).resource (slot_at xs o).period (slot_at xs (n - 1)).resource (slot_at xs (n - 1)).period ⊎ AreTogether (slot_at xs o) (slot_at xs (n - 1))
  pub by_period : run.by_period ≡ true → (o : ℕ) → o + 1 < n → IsBefore (slot_at xs o).period (slot_at xs o).resource (slot_at xs (n - 1)).period (slot_at xs (n - 1)).resource ⊎ AreTogether (slot_at xs o) (slot_at xs (n - 1))
  pub first : 1 ≤ n → NoneBefore xs run.first (n - 1)
  pub fresh : n ≡ 0 → run.first ≡ 0

-- the first resource, period and item without a slot
abbrev pub IsFirstAbsent : Problem → Plan → List Slot → SlotBroken → Type 0
IsFirstAbsent m p xs (broken.Absent k t i) = IsFirst (resource_count m) m.periods (HasAll m p xs) k t × IsFirstLack m p xs k t i
IsFirstAbsent m p xs b = ⊥
