-- What records mean and what is found of slots is one thing, and schedules go by quantities and setups.
use Rattle.std.specs.Prelude.{◌≡◌, ◌≢◌, ◌⊎◌, List}
use Rattle.lot_sizing.specs.Problem.{IsWithinLimits, Problem}
use Rattle.lot_sizing.specs.Plan.{Plan}
use Rattle.lot_sizing.specs.Least.{HasChoice}
use Rattle.lot_model.specs.Valid.{HaveOwnNames, HaveOwnResourceNames}
use Rattle.csv_records.specs.Records.{Record}
use Rattle.lot_schedule.specs.Slots.{AllExist, IsSchedule}
use Rattle.lot_schedule.specs.Records.{AreRowsOf}
use Rattle.lot_schedule.specs.Faults.{IsSlotBroken, IsSlotFault}
use Rattle.lot_schedule.specs.declared.slot.Slot.{Slot}
use Rattle.lot_schedule.specs.declared.broken.SlotBroken.{SlotBroken}
use Rattle.lot_schedule.specs.declared.fault.SlotFault.{SlotFault}
use Rattle.lot_schedule.specs.declared.fault.SlotFault.TheVariants.{Memory}

-- a problem within the limits, whose items and resources are known by their names, as those of an instance are
pub record AreNamed (m : Problem) : Type 0 where
  pub limits : IsWithinLimits m
  pub names : HaveOwnNames m
  pub resource_names : HaveOwnResourceNames m

-- one list of slots, or one fault where memory isn't the cause
pub record MeanOneThing (m : Problem) (rs : List Record) : Type 0 where
  pub one_list : (xs ys : List Slot) → AreRowsOf m rs xs → AreRowsOf m rs ys → xs ≡ ys
  pub list_or_fault : (xs : List Slot) (f : SlotFault) → AreRowsOf m rs xs → IsSlotFault m rs f → f ≡ Memory
  pub one_fault : (f g : SlotFault) → f ≢ Memory → g ≢ Memory → IsSlotFault m rs f → IsSlotFault m rs g → f ≡ g

abbrev pub RecordsMeanOneThing : Type 0
RecordsMeanOneThing = (m : Problem) (rs : List Record) → AreNamed m → MeanOneThing m rs

-- a schedule, or one fault
pub record AreOneThing (m : Problem) (p : Plan) (xs : List Slot) : Type 0 where
  pub schedule_or_broken : (b : SlotBroken) → IsSchedule m p xs → IsSlotBroken m p xs b → ⊥
  pub one_broken : (a b : SlotBroken) → IsSlotBroken m p xs a → IsSlotBroken m p xs b → a ≡ b

abbrev pub SlotsAreOneThing : Type 0
SlotsAreOneThing = (m : Problem) (p : Plan) (xs : List Slot) → AreOneThing m p xs

-- records are the rows of slots, or have a fault that isn't out of memory
abbrev pub RecordsMeanSlots : Type 0
RecordsMeanSlots = (m : Problem) (rs : List Record) → ((xs : List Slot) × AreRowsOf m rs xs) ⊎ ((f : SlotFault) × (f ≢ Memory) × IsSlotFault m rs f)

-- slots whose resources, periods and items exist are a schedule, or they aren't and something is wrong with them first
abbrev pub SlotsAreJudged : Type 0
SlotsAreJudged = (m : Problem) (p : Plan) (xs : List Slot) → AllExist m xs → IsSchedule m p xs ⊎ ((IsSchedule m p xs → ⊥) × (b : SlotBroken) × IsSlotBroken m p xs b)

-- a schedule of a plan is one of each plan with the same quantities and setups
abbrev pub SamePlansSameSchedules : Type 0
SamePlansSameSchedules = (m : Problem) (p q : Plan) (xs : List Slot) → HasChoice m q.make q.setup p → IsSchedule m p xs → IsSchedule m q xs
