-- What the records of a schedule file mean.
use Rattle.std.specs.Prelude.{◌≡◌, ℕ, ◌+◌, ◌^◌, ◌<◌, List, [], ◌∷◌, length, map, codes, decimal}
use Rattle.lot_sizing.specs.Problem.{Problem, item_at, resource_at}
use Rattle.csv_records.specs.Records.{BeginsWith, Record, record_at}
use Rattle.lot_schedule.specs.Slots.{Exists, slot_at}
use Rattle.lot_schedule.specs.declared.slot.Slot.{Slot}

-- the first record
abbrev pub header : Record
header = codes "resource" ∷ codes "period" ∷ codes "item" ∷ codes "start" ∷ codes "end" ∷ []

abbrev pub HasHeader : List Record → Type 0
HasHeader rs = BeginsWith rs header

-- the row of a slot
abbrev pub row_of : Problem → Slot → Record
row_of m s = (resource_at m s.resource).name ∷ decimal s.period ∷ (item_at m s.item).name ∷ decimal s.start ∷ decimal s.end ∷ []

-- both times of a slot fit 64 bits
pub record TimesFit (s : Slot) : Type 0 where
  pub start : s.start < 2 ^ 64
  pub end : s.end < 2 ^ 64

-- the record is the row of this slot, whose resource, period and item exist and whose times fit 64 bits
pub record IsRowOf (m : Problem) (s : Slot) (r : Record) : Type 0 where
  pub exists : Exists m s
  pub start : s.start < 2 ^ 64
  pub end : s.end < 2 ^ 64
  pub row : r ≡ row_of m s

-- it is the row of a slot
abbrev pub IsRow : Problem → Record → Type 0
IsRow m r = (s : Slot) × IsRowOf m s r

-- the records are the header and the rows of these slots, in order, and no others
pub record AreRowsOf (m : Problem) (rs : List Record) (xs : List Slot) : Type 0 where
  pub header : HasHeader rs
  pub count : length rs ≡ length xs + 1
  pub each : (n : ℕ) → n < length xs → IsRowOf m (slot_at xs n) (record_at rs (n + 1))

-- all records of a schedule
abbrev pub schedule_records : Problem → List Slot → List Record
schedule_records m xs = header ∷ map (row_of m) xs
