use Rattle.std.proofs.Common.{◌<◌, ◌∷◌, ℕ, map, take}
use Rattle.csv_records.specs.Written.{HasWritten}
use Rattle.lot_schedule.specs.Slots.{slot_at}
use Rattle.lot_schedule.specs.Records.{TimesFit, header, row_of}
use Rattle.lot_schedule.proofs.writing.write_schedule.Given as goal

-- the header and the rows of the slots so far are written
abbrev pub invariant-loop-slot : goal.invariant-loop-slot
invariant-loop-slot l = record {
  rows : HasWritten l.writer (header ∷ map (row_of l.instance) (take l.slot-index l.slots));
  times : (n : ℕ) → n < l.slot-index → TimesFit (slot_at l.slots n);
}
