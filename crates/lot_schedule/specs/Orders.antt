-- The order of a schedule, and the sum of ends that none goes below.
use Rattle.std.specs.Prelude.{◌≡◌, ◌⊎◌, ℕ, ◌<◌, ◌≤◌, Bool, ◌==◌, ◌&&◌, List, length, if◌then◌else◌}
use Rattle.std.specs.List.{sum_by}
use Rattle.lot_sizing.specs.Problem.{Problem, resource_count}
use Rattle.lot_sizing.specs.Plan.{Each, Plan}
use Rattle.lot_schedule.specs.Slots.{AreTogether, IsSchedule, slot_at, slot_length}
use Rattle.lot_schedule.specs.declared.slot.Slot.{Slot}

-- by resource, then by period, then by start
abbrev pub ComesBefore : Slot → Slot → Type 0
ComesBefore a b = (a.resource < b.resource) ⊎ ((a.resource ≡ b.resource) × ((a.period < b.period) ⊎ ((a.period ≡ b.period) × (a.start < b.start))))

abbrev pub IsInOrder : List Slot → Type 0
IsInOrder xs = (n o : ℕ) → n < o → o < length xs → ComesBefore (slot_at xs n) (slot_at xs o)

-- of equal lengths on a resource in a period, the lesser item is first
abbrev pub TiesAreByItem : Problem → Plan → List Slot → Type 0
TiesAreByItem m p xs = (n o : ℕ) → n < o → o < length xs → AreTogether (slot_at xs n) (slot_at xs o) → slot_length m p (slot_at xs n) ≡ slot_length m p (slot_at xs o) → (slot_at xs n).item < (slot_at xs o).item

-- whether a slot is of this resource and period
abbrev pub is_at : ℕ → ℕ → Slot → Bool
is_at k t s = (s.resource == k) && (s.period == t)

-- the sum of the ends of a resource's slots in a period
abbrev pub sum_of_ends : List Slot → ℕ → ℕ → ℕ
sum_of_ends xs k t = sum_by (λ s. if is_at k t s then s.end else 0) xs

-- for each resource and period, no schedule of the plan has a smaller sum of ends
abbrev pub HasLeastEnds : Problem → Plan → List Slot → Type 0
HasLeastEnds m p xs = (ys : List Slot) → IsSchedule m p ys → Each (resource_count m) m.periods (λ k t. sum_of_ends xs k t ≤ sum_of_ends ys k t)
