-- Where the record of an item and a period stands.
use Rattle.std.proofs.Common.{◌≡◌, ◌≤◌, ◌<◌, ◌+◌, ◌-◌, ◌*◌, ◌∙◌, ℕ, List, map, length, slice_index_or, sym, ap, subst, arith, IsTrue, false}
use Rattle.std.proofs.lemmas.List.{length-map}
use Rattle.csv.specs.Records.{Row, fields_of}
use Rattle.lot_sizing.specs.Problem.{Problem}
use Rattle.lot_sizing.specs.Plan.{Plan}
use Rattle.csv_records.specs.Records.{BeginsWith, IsNumber, Record, field, record_at}
use Rattle.csv_records.proofs.Rows.{record_is}
use Rattle.csv_records.proofs.SameFields.{are_fields-Decides}
use Rattle.plan_file.specs.Records.{AreNumbersOf, HasHeader, IsGood, header, is_row, number_of}
use Rattle.plan_file.specs.Numbers.{ArePut, HasNumbersIn, IsPutFrom}
use Rattle.plan_file.specs.declared.reading.Numbers.{Numbers}

-- the record of an item and a period, and its number
pub record IsHere (m : Problem) (rs : List Record) (i t n : ℕ) (r : Record) : Type 0 where
  pub number : n ≡ number_of m i t
  pub there : number_of m i t < length rs
  pub same : record_at rs (number_of m i t) ≡ r

pub here : (m : Problem) (rows : List Row) (i t periods n : ℕ) (row : Row) → periods ≡ m.periods → n ≡ (i - 1) * periods + t → 1 ≤ t → n < length rows → row ≡ slice_index_or rows n row → IsHere m (map fields_of rows) i t n (fields_of row)
here m rows i t periods n row size is low high found =
    let number : n ≡ number_of m i t = omega (arith, is, low, ap (λ k. (i - 1) * k) size) in
    record {
      number = number;
      there = omega (arith, number, high, length-map rows fields_of);
      same = ap (record_at (map fields_of rows)) (sym number) ∙ record_is rows n row high found;
    }

pub not_row : (m : Problem) (i t : ℕ) (r : Record) → is_row m i t r ≡ false → IsTrue (is_row m i t r) → ⊥
not_row m i t r isnt is = cc (subst IsTrue isnt is)

-- a record that is read into a plan
pub put_from : (m : Problem) (rs : List Record) (i t n : ℕ) (r : Record) (p q : Plan) (x : Numbers) → IsHere m rs i t n r → IsTrue (is_row m i t r) → HasNumbersIn r x → ArePut m p q i t x → IsPutFrom m rs p q i t
put_from m rs i t n r p q x at row numbers put =
    let read : IsGood m rs i t × AreNumbersOf (record_at rs (number_of m i t)) q i t = (
      record { there = at.there; row = subst (λ a. IsTrue (is_row m i t a)) (sym at.same) row; numbers = λ c low high. subst (λ a. IsNumber (field a c)) (sym at.same) (numbers.all c low high) },
      subst (λ a. AreNumbersOf a q i t) (sym at.same) (record {
        make = put.here.make ∙ numbers.is_make;
        setup = put.here.setup ∙ numbers.is_setup;
        stock = put.here.stock ∙ numbers.is_stock;
        backlog = put.here.backlog ∙ numbers.is_backlog;
      }),
    ) in
    record { read = read; others = put.others }

-- the first record is the header
pub has_header : (rs : List Record) → BeginsWith rs header → HasHeader rs
has_header rs begins = record { there = begins.there; header = (are_fields-Decides (record_at rs 0) header).1 begins.header }

pub begins_with : (rs : List Record) → HasHeader rs → BeginsWith rs header
begins_with rs has = record { there = has.there; header = (are_fields-Decides (record_at rs 0) header).0 has.header }
