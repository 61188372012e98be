-- How long the text of a schedule is at most.
use Rattle.std.proofs.Common.{◌≡◌, ◌≤◌, ◌<◌, ◌+◌, ◌*◌, ℕ, suc, List, [], ◌∷◌, ◌++◌, decimal, length, arith}
use Rattle.std.specs.Prelude.{codes}
use Rattle.std.specs.List.{flat_map}
use Rattle.std.proofs.lemmas.List.{length-append}
use Rattle.lot_sizing.specs.Problem.{IsWithinLimits, Problem, item_at, resource_at}
use Rattle.lot_sizing.specs.declared.limits.TheConstants.{MAX_NAME}
use Rattle.csv_records.proofs.Names.{name_short}
use Rattle.csv_records.proofs.Numbers.{number_short}
use Rattle.plan_file.specs.declared.limits.TheConstants.{MAX_FILE}
use Rattle.lot_schedule.specs.Slots.{AllExist, Exists, slot_at}
use Rattle.lot_schedule.specs.Texts.{most_slots, schedule_text, slot_text}
use Rattle.lot_schedule.specs.Records.{TimesFit}
use Rattle.lot_schedule.specs.declared.slot.Slot.{Slot}
use Rattle.lot_schedule.proofs.Readback.{AllTimesFit}

-- two names, three numbers, four commas and a line feed
abbrev longest_line : ℕ
longest_line = 2 * MAX_NAME + 3 * 20 + 5

fields_size : (a b c d e : List ℕ) → length (a ++ (codes "," ++ (b ++ (codes "," ++ (c ++ (codes "," ++ (d ++ (codes "," ++ (e ++ codes "\n"))))))))) ≡ length a + length b + length c + length d + length e + 5
fields_size a b c d e = simp length-append (omega arith)

line_short : (m : Problem) (s : Slot) → IsWithinLimits m → Exists m s → TimesFit s → length (slot_text m s) ≤ longest_line
line_short m s limits exists fit =
    let resource = (limits.each_resource s.resource exists.resource_low exists.resource_high).name in
    let item = (limits.each_item s.item exists.item_low exists.item_high).name in
    omega (arith, fields_size (resource_at m s.resource).name (decimal s.period) (item_at m s.item).name (decimal s.start) (decimal s.end), name_short (resource_at m s.resource).name resource, name_short (item_at m s.item).name item, number_short s.period (omega (arith, exists.period_high, limits.periods)), number_short s.start fit.start, number_short s.end fit.end)

lines_short : (m : Problem) (xs : List Slot) → ((n : ℕ) → n < length xs → length (slot_text m (slot_at xs n)) ≤ longest_line) → length (flat_map (slot_text m) xs) ≤ longest_line * length xs
lines_short m [] each = omega arith
lines_short m (x ∷ xs) each = omega (arith, length-append (slot_text m x) (flat_map (slot_text m) xs), each 0 (omega arith), lines_short m xs (λ n less. each (suc n) (omega (arith, less))))

pub text_short : (m : Problem) (xs : List Slot) → IsWithinLimits m → AllExist m xs → AllTimesFit xs → length xs ≤ most_slots → length (schedule_text m xs) ≤ MAX_FILE
text_short m xs limits exist fit few =
    omega (arith, length-append (codes "resource,period,item,start,end\n") (flat_map (slot_text m) xs), lines_short m xs (λ n less. line_short m (slot_at xs n) limits (exist n less) (fit n less)), few)
