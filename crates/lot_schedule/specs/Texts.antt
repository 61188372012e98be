-- The text of a schedule file, and of what is wrong with one.
use Rattle.std.specs.Prelude.{ℕ, ◌*◌, List, ◌++◌, codes, decimal}
use Rattle.std.specs.List.{flat_map}
use Rattle.lot_sizing.specs.Problem.{Problem, item_at, resource_at}
use Rattle.lot_sizing.specs.declared.limits.TheConstants.{MAX_ITEMS, MAX_PERIODS, MAX_RESOURCES}
use Rattle.lot_schedule.specs.declared.slot.Slot.{Slot}
use Rattle.lot_schedule.specs.declared.broken.SlotBroken.{SlotBroken}
use Rattle.lot_schedule.specs.declared.broken.SlotBroken.TheVariants as broken
use Rattle.lot_schedule.specs.declared.fault.SlotFault.{SlotFault}
use Rattle.lot_schedule.specs.declared.fault.SlotFault.TheVariants as fault

-- the line of a slot
abbrev pub slot_text : Problem → Slot → List ℕ
slot_text m s = (resource_at m s.resource).name ++ (codes "," ++ (decimal s.period ++ (codes "," ++ ((item_at m s.item).name ++ (codes "," ++ (decimal s.start ++ (codes "," ++ (decimal s.end ++ codes "\n"))))))))

-- a schedule has at most so many slots: one for each item on each resource in each period
abbrev pub most_slots : ℕ
most_slots = MAX_ITEMS * MAX_PERIODS * MAX_RESOURCES

-- a schedule file: the header, and a line for each slot (CSV as in RFC 4180, with line feeds)
abbrev pub schedule_text : Problem → List Slot → List ℕ
schedule_text m xs = codes "resource,period,item,start,end\n" ++ flat_map (slot_text m) xs

abbrev pub slot_fault_text : SlotFault → List ℕ
slot_fault_text fault.Header = codes "slot header"
slot_fault_text (fault.Row n) = codes "slot row " ++ decimal n
slot_fault_text fault.Memory = codes "out of memory"

abbrev pub slot_broken_text : SlotBroken → List ℕ
slot_broken_text (broken.Extra n) = codes "rejected slot 1 row " ++ decimal n
slot_broken_text (broken.Length n) = codes "rejected slot 2 row " ++ decimal n
slot_broken_text (broken.Past n) = codes "rejected slot 3 row " ++ decimal n
slot_broken_text (broken.Overlap n) = codes "rejected slot 4 row " ++ decimal n
slot_broken_text (broken.Absent k t i) = codes "rejected slot 5 resource " ++ (decimal k ++ (codes " period " ++ (decimal t ++ (codes " item " ++ decimal i))))
