-- Slots that are written are read again.
use Rattle.std.proofs.Common.{◌≡◌, ◌≢◌, ◌≤◌, ◌<◌, ◌+◌, ◌∙◌, ℕ, suc, List, [], ◌∷◌, ◌++◌, map, length, refl, ap, sym, subst, arith, take}
use Rattle.std.specs.Prelude.{codes}
use Rattle.std.specs.List.{All, flat_map}
use Rattle.std.proofs.lemmas.List.{get_or-map, length-map, map-append, take_all, take_more}
use Rattle.std.proofs.lemmas.List.Elements.{All-cons, All-nil, All-weaker}
use Rattle.csv.specs.Reading.{strip_bom}
use Rattle.lot_sizing.specs.Problem.{IsWithinLimits, Problem, item_at, resource_at}
use Rattle.csv_records.specs.Records.{Record, record_at, records_of}
use Rattle.csv_records.specs.Written.{IsPlainRecord, line_of, records_text}
use Rattle.csv_records.proofs.Names.{plain_name}
use Rattle.csv_records.proofs.Plain.{plain_number, rows_are_lines}
use Rattle.csv_records.proofs.ReadBack.{written_read}
use Rattle.lot_schedule.specs.Slots.{AllExist, Exists, no_slot, slot_at}
use Rattle.lot_schedule.specs.Records.{AreRowsOf, TimesFit, header, row_of, schedule_records}
use Rattle.lot_schedule.specs.Texts.{schedule_text, slot_text}
use Rattle.lot_schedule.specs.declared.slot.Slot.{Slot}

abbrev pub AllTimesFit : List Slot → Type 0
AllTimesFit xs = (n : ℕ) → n < length xs → TimesFit (slot_at xs n)

-- one row more
pub rows_next : (m : Problem) (xs : List Slot) (i : ℕ) → i < length xs → (header ∷ map (row_of m) (take i xs)) ++ (row_of m (slot_at xs i) ∷ []) ≡ header ∷ map (row_of m) (take (i + 1) xs)
rows_next m xs i less = ap (λ (rs : List Record). header ∷ rs) (sym (map-append (row_of m) (take i xs) (slot_at xs i ∷ [])) ∙ ap (map (row_of m)) (sym (take_more xs i no_slot less)))

-- all rows
pub rows_all : (m : Problem) (xs : List Slot) (i : ℕ) → length xs ≤ i → header ∷ map (row_of m) (take i xs) ≡ schedule_records m xs
rows_all m xs i all = ap (λ ys. header ∷ map (row_of m) ys) (take_all i xs all)

-- ---- the text of the rows
lines_are : (m : Problem) (xs : List Slot) → flat_map line_of (map (row_of m) xs) ≡ flat_map (slot_text m) xs
lines_are m [] = refl
lines_are m (x ∷ xs) = ap (λ t. slot_text m x ++ t) (lines_are m xs)

-- no field needs quotes
row_plain : (m : Problem) (s : Slot) → IsWithinLimits m → Exists m s → TimesFit s → IsPlainRecord (row_of m s)
row_plain m s limits exists fit =
    let resource = plain_name (resource_at m s.resource).name (limits.each_resource s.resource exists.resource_low exists.resource_high).name in
    let item = plain_name (item_at m s.item).name (limits.each_item s.item exists.item_low exists.item_high).name in
    record {
      some = λ e. cc e;
      shown = λ e. cc e;
      plain = rw (resource, plain_number s.period (omega (arith, exists.period_high, limits.periods)), item, plain_number s.start (omega (arith, fit.start)), plain_number s.end (omega (arith, fit.end))) refl;
    }

rows_plain : (m : Problem) (xs : List Slot) → IsWithinLimits m → AllExist m xs → AllTimesFit xs → All IsPlainRecord (map (row_of m) xs)
rows_plain m [] limits exist fit = All-nil IsPlainRecord
rows_plain m (x ∷ xs) limits exist fit = All-cons IsPlainRecord (row_of m x) (map (row_of m) xs) (row_plain m x limits (exist 0 (omega arith)) (fit 0 (omega arith))) (rows_plain m xs limits (λ n less. exist (suc n) (omega (arith, less))) (λ n less. fit (suc n) (omega (arith, less))))

header_plain : IsPlainRecord header
header_plain = record { some = λ e. cc e; shown = λ e. cc e; plain = refl }

rows_are_of : (m : Problem) (xs : List Slot) → AllExist m xs → AllTimesFit xs → AreRowsOf m (schedule_records m xs) xs
rows_are_of m xs exist fit = record {
  header = record { there = omega arith; header = refl };
  count = omega (arith, length-map xs (row_of m));
  each = λ n less. record {
    exists = exist n less;
    start = (fit n less).start;
    end = (fit n less).end;
    row =
        let e : n + 1 ≡ suc n = omega arith in
        ap (record_at (schedule_records m xs)) e ∙ get_or-map (row_of m) xs n no_slot [] less;
  };
}

module _ (m : Problem) (xs : List Slot) (limits : IsWithinLimits m) (exist : AllExist m xs) (fit : AllTimesFit xs) where
  all_plain : All IsPlainRecord (schedule_records m xs)
  all_plain = All-cons IsPlainRecord header (map (row_of m) xs) header_plain (rows_plain m xs limits exist fit)

  -- the text of a schedule
  pub text_is : records_text (schedule_records m xs) ≡ schedule_text m xs
  text_is = rows_are_lines (schedule_records m xs) all_plain ∙ ap (λ t. codes "resource,period,item,start,end\n" ++ t) (lines_are m xs)

  no_mark : strip_bom (schedule_text m xs) ≡ schedule_text m xs
  unfolding strip_bom
  no_mark = refl

  records_are : records_of (schedule_text m xs) ≡ schedule_records m xs
  records_are = ap records_of (sym text_is) ∙ written_read (schedule_records m xs) (All-weaker IsPlainRecord (λ r. r ≢ []) (λ r plain. plain.some) (schedule_records m xs) all_plain) (ap strip_bom text_is ∙ no_mark ∙ sym text_is)

  pub text_read : AreRowsOf m (records_of (schedule_text m xs)) xs
  text_read = subst (λ rs. AreRowsOf m rs xs) (sym records_are) (rows_are_of m xs exist fit)
