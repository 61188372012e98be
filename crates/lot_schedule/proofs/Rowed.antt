-- Records that are read as slots, row by row.
use Rattle.std.proofs.Common.{◌≡◌, ◌<◌, ◌+◌, ◌-◌, ⊎_elim, ℕ, List, [], ◌∷◌, ◌++◌, length, sym, subst, arith}
use Rattle.std.proofs.lemmas.Bool.{cases_lt}
use Rattle.std.proofs.lemmas.List.{get_or_append_left, get_or_push, length_push}
use Rattle.lot_sizing.specs.Problem.{Problem}
use Rattle.csv_records.specs.Records.{Record, record_at}
use Rattle.lot_schedule.specs.Slots.{no_slot, slot_at}
use Rattle.lot_schedule.specs.Records.{AreRowsOf, HasHeader, IsRow, IsRowOf}
use Rattle.lot_schedule.specs.Faults.{IsFirstBadRow}
use Rattle.lot_schedule.specs.declared.slot.Slot.{Slot}

-- the slots are those of the records after the header, as far as these were read
pub record AreReadTo (m : Problem) (rs : List Record) (xs : List Slot) (place : ℕ) : Type 0 where
  pub count : length xs + 1 ≡ place
  pub each : (n : ℕ) → n < length xs → IsRowOf m (slot_at xs n) (record_at rs (n + 1))

pub read_more : (m : Problem) (rs : List Record) (xs : List Slot) (place : ℕ) (s : Slot) → AreReadTo m rs xs place → IsRowOf m s (record_at rs place) → AreReadTo m rs (xs ++ s ∷ []) (place + 1)
read_more m rs xs place s so_far is = record {
  count = omega (arith, so_far.count, length_push xs s);
  each = λ n less.
      ⊎_elim
      (λ left. subst (λ x. IsRowOf m x (record_at rs (n + 1))) (sym (get_or_append_left xs (s ∷ []) no_slot n left)) (so_far.each n left))
      (λ right.
      let e : length xs ≡ n = omega (arith, less, right, length_push xs s) in
      let at : place ≡ n + 1 = omega (arith, e, so_far.count) in
      subst (λ x. IsRowOf m x (record_at rs (n + 1))) (sym (get_or_push xs s no_slot n e)) (subst (λ k. IsRowOf m s (record_at rs k)) at is))
      (cases_lt n (length xs));
}

pub read_all : (m : Problem) (rs : List Record) (xs : List Slot) (place : ℕ) → HasHeader rs → AreReadTo m rs xs place → place ≡ length rs → AreRowsOf m rs xs
read_all m rs xs place header so_far end = record { header = header; count = omega (arith, so_far.count, end); each = so_far.each }

pub first_bad : (m : Problem) (rs : List Record) (xs : List Slot) (place : ℕ) → AreReadTo m rs xs place → place < length rs → (IsRow m (record_at rs place) → ⊥) → IsFirstBadRow m rs place
first_bad m rs xs place so_far there bad = record {
  low = omega (arith, so_far.count);
  there = there;
  bad = bad;
  before = λ o low less.
      let e : o - 1 + 1 ≡ o = omega (arith, low) in
      (slot_at xs (o - 1), subst (λ k. IsRowOf m (slot_at xs (o - 1)) (record_at rs k)) e (so_far.each (o - 1) (omega (arith, less, low, so_far.count))));
}
