-- Records mean slots, or a fault that isn't out of memory.
use Rattle.std.proofs.Common.{◌≡◌, ◌≢◌, ◌≤◌, ◌<◌, ◌+◌, ◌-◌, ◌^◌, ◌⊎◌, ⊎_elim, inl, inr, ℕ, zero, suc, refl, subst, arith, List, [], ◌∷◌, ◌++◌, length, decimal}
use Rattle.std.specs.Str.{bytes_eq}
use Rattle.std.proofs.lemmas.Bool.{cases_Bool, cases_eq, cases_lt}
use Rattle.std.proofs.lemmas.Slice.Eq.{bytes_eq-Decides}
use Rattle.lot_sizing.specs.Problem.{Problem, item_at, item_count, resource_at, resource_count}
use Rattle.csv_records.specs.Records.{Record, are_fields, field, record_at}
use Rattle.csv_records.proofs.SameFields.{are_fields-Decides}
use Rattle.lot_schedule.specs.Slots.{AllExist}
use Rattle.lot_schedule.specs.Records.{AreRowsOf, HasHeader, IsRow, header}
use Rattle.lot_schedule.specs.Faults.{IsFirstBadRow}
use Rattle.lot_schedule.specs.Laws.{RecordsMeanSlots}
use Rattle.lot_schedule.specs.declared.slot.Slot.{Slot}
use Rattle.lot_schedule.specs.declared.fault.SlotFault.TheVariants.{Header, Row}
use Rattle.lot_schedule.proofs.Fields.{has_fields, no_end, no_item, no_period, no_resource, no_start, row_is}
use Rattle.lot_schedule.proofs.Rowed.{AreReadTo, first_bad, read_all, read_more}
use Rattle.lot_schedule.proofs.Searching.{some_below, some_to}

-- slots whose rows there are exist
pub rows_exist : (m : Problem) (rs : List Record) (xs : List Slot) → AreRowsOf m rs xs → AllExist m xs
rows_exist m rs xs rows n less = (rows.each n less).exists

text_or_not : (x y : List ℕ) → (x ≡ y) ⊎ (x ≢ y)
text_or_not x y =
    ⊎_elim
    (λ yes. inl ((bytes_eq-Decides x y).0 yes))
    (λ no. inr (λ same. let yes = (bytes_eq-Decides x y).1 same in cc (no, yes)))
    (cases_Bool (bytes_eq x y))

-- a text is one of so many, or none of them
one_or_none : (text : ℕ → List ℕ) (x : List ℕ) (n : ℕ) → ((k : ℕ) × (1 ≤ k) × (k ≤ n) × (x ≡ text k)) ⊎ ((k : ℕ) → 1 ≤ k → k ≤ n → x ≢ text k)
one_or_none text x n = some_to (λ k. x ≡ text k) (λ k. text_or_not x (text k)) n

time_or_not : (x : List ℕ) → ((n : ℕ) × (n < 2 ^ 64) × (x ≡ decimal n)) ⊎ ((n : ℕ) → n < 2 ^ 64 → x ≢ decimal n)
time_or_not x = some_below (λ n. x ≡ decimal n) (λ n. text_or_not x (decimal n)) (2 ^ 64)

row_or_not : (m : Problem) (r : Record) → IsRow m r ⊎ (IsRow m r → ⊥)
row_or_not m r =
    ⊎_elim
    (λ size. ⊎_elim
    (λ k. ⊎_elim
    (λ t. ⊎_elim
    (λ i. ⊎_elim
    (λ start. ⊎_elim
    (λ end.
    let s : Slot = record { resource = k.0; period = t.0; item = i.0; start = start.0; end = end.0 } in
    inl (
      s,
      record {
        exists = record { resource_low = k.1; resource_high = k.2; period_low = t.1; period_high = t.2; item_low = i.1; item_high = i.2 };
        start = start.1;
        end = end.1;
        row = row_is m s r (record { size = size; resource = k.3; period = t.3; item = i.3; start = start.2; end = end.2 });
      },
    ))
    (λ none. inr (no_end m r (field r 5) refl none))
    (time_or_not (field r 5)))
    (λ none. inr (no_start m r (field r 4) refl none))
    (time_or_not (field r 4)))
    (λ none. inr (no_item m r (field r 3) refl none))
    (one_or_none (λ i. (item_at m i).name) (field r 3) (item_count m)))
    (λ none. inr (no_period m r (field r 2) refl none))
    (one_or_none (λ t. decimal t) (field r 2) m.periods))
    (λ none. inr (no_resource m r (field r 1) refl none))
    (one_or_none (λ k. (resource_at m k).name) (field r 1) (resource_count m)))
    (λ no. inr (λ is. no (has_fields m is.0 r is.1.row).size))
    (cases_eq (length r) 5)

header_or_not : (rs : List Record) → HasHeader rs ⊎ (HasHeader rs → ⊥)
header_or_not rs =
    ⊎_elim
    (λ there. ⊎_elim
    (λ yes. inl (record { there = there; header = (are_fields-Decides (record_at rs 0) header).0 yes }))
    (λ no. inr (λ has. let yes = (are_fields-Decides (record_at rs 0) header).1 has.header in cc (no, yes)))
    (cases_Bool (are_fields (record_at rs 0) header)))
    (λ none. inr (λ has. omega (arith, has.there, none)))
    (cases_lt 0 (length rs))

-- slots are read up to a record, or an earlier one is the first that is no row
read_to : (m : Problem) (rs : List Record) (n : ℕ) → n + 1 ≤ length rs → ((xs : List Slot) × AreReadTo m rs xs (n + 1)) ⊎ ((k : ℕ) × IsFirstBadRow m rs k)
read_to m rs zero there = inl ([], record { count = refl; each = λ n less. absurd (omega (arith, less)) })
read_to m rs (suc n) there =
    ⊎_elim
    (λ so_far. ⊎_elim
    (λ row.
    let e : n + 1 + 1 ≡ suc n + 1 = omega arith in
    inl (so_far.0 ++ row.0 ∷ [], subst (AreReadTo m rs (so_far.0 ++ row.0 ∷ [])) e (read_more m rs so_far.0 (n + 1) row.0 so_far.1 row.1)))
    (λ no. inr (n + 1, first_bad m rs so_far.0 (n + 1) so_far.1 (omega (arith, there)) no))
    (row_or_not m (record_at rs (n + 1))))
    (λ bad. inr bad)
    (read_to m rs n (omega (arith, there)))

pub slots_or_fault : RecordsMeanSlots
slots_or_fault m rs =
    ⊎_elim
    (λ header.
    let some : 0 < length rs = header.there in
    ⊎_elim
    (λ read. inl (read.0, read_all m rs read.0 (length rs - 1 + 1) header read.1 (omega (arith, some))))
    (λ bad. inr (Row bad.0, (λ e. cc e), (header, bad.1)))
    (read_to m rs (length rs - 1) (omega (arith, some))))
    (λ no. inr (Header, (λ e. cc e), no))
    (header_or_not rs)
