-- Schedules go by the quantities and setups of a plan.
use Rattle.std.proofs.Common.{◌≡◌, ◌≤◌, ◌*◌, ℕ, ap, arith}
use Rattle.lot_sizing.specs.Problem.{Problem, item_count, setup_time, unit_time}
use Rattle.lot_sizing.specs.Plan.{Plan}
use Rattle.lot_sizing.specs.Least.{HasChoice}
use Rattle.lot_schedule.specs.Slots.{IsSlot, length_of, slot_length}
use Rattle.lot_schedule.specs.Laws.{SamePlansSameSchedules}
use Rattle.lot_schedule.specs.declared.slot.Slot.{Slot}

-- lots of the same quantities and setups last as long
length_same : (m : Problem) (p q : Plan) → HasChoice m q.make q.setup p → (k t i : ℕ) → 1 ≤ t → t ≤ m.periods → 1 ≤ i → i ≤ item_count m → length_of m p k t i ≡ length_of m q k t i
length_same m p q same k t i t_low t_high low high =
    omega (arith, ap (λ n. unit_time m i k * n) (same.make i t low high t_low t_high), ap (λ n. setup_time m i k * n) (same.setup i t low high t_low t_high))

slot_same : (m : Problem) (p q : Plan) (s : Slot) → HasChoice m q.make q.setup p → IsSlot m p s → IsSlot m q s
slot_same m p q s same is =
    let e : slot_length m p s ≡ slot_length m q s = length_same m p q same s.resource s.period s.item is.exists.period_low is.exists.period_high is.exists.item_low is.exists.item_high in
    record { exists = is.exists; takes = omega (arith, e, is.takes); lasts = omega (arith, e, is.lasts); within = is.within }

pub schedule_same : SamePlansSameSchedules
schedule_same m p q xs same all = record {
  slots = λ n there. slot_same m p q _ same (all.slots n there);
  once = all.once;
  apart = all.apart;
  all = λ k t low high t_low t_high i i_low i_high takes. all.all k t low high t_low t_high i i_low i_high (omega (arith, takes, length_same m p q same k t i t_low t_high i_low i_high));
}
