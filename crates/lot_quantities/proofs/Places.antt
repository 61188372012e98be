-- The record of an item and a period, read into grids.
use Rattle.std.proofs.Common.{◌≡◌, ◌∙◌, ℕ, List, sym, ap, subst, IsTrue, false}
use Rattle.lot_sizing.specs.Problem.{Problem}
use Rattle.plan_rules.specs.Cells.{table_of}
use Rattle.csv_records.specs.Records.{Record}
use Rattle.plan_file.proofs.Places.{IsHere}
use Rattle.lot_quantities.specs.Tables.{AreNumbersOf, HasNumbers, is_row, setup_in}
use Rattle.lot_quantities.specs.Numbers.{HasLot, IsPut, IsPutFrom, IsReadInto}
use Rattle.lot_quantities.specs.declared.columns.Columns.{Columns}
use Rattle.lot_quantities.specs.declared.quantities.Quantities.{Quantities}
use Rattle.lot_quantities.specs.declared.rows.Lot.{Lot}

pub not_row : (m : Problem) (k : Columns) (i t : ℕ) (r : Record) → is_row m k i t r ≡ false → IsTrue (is_row m k i t r) → ⊥
not_row m k i t r isnt is = cc (subst IsTrue isnt is)

pub put_from : (m : Problem) (rs : List Record) (k : Columns) (i t n : ℕ) (r : Record) (p q : Quantities) (x : Lot) → IsHere m rs i t n r → IsTrue (is_row m k i t r) → HasLot r k.make k.setup x → IsPut m p q i t x → IsPutFrom m rs k p q i t
put_from m rs k i t n r p q x at row lot put =
    let read : IsReadInto m rs k q i t = (
      record { there = at.there; row = subst (λ a. IsTrue (is_row m k i t a)) (sym at.same) row; numbers = subst (λ a. HasNumbers a k.make k.setup) (sym at.same) lot.all },
      subst (λ a. AreNumbersOf a k (table_of q.make) (table_of q.setup) i t) (sym at.same) (record {
        make = put.here.make ∙ lot.is_make;
        setup = put.here.setup ∙ lot.is_setup ∙ ap (λ y. setup_in r y k.setup) (sym put.here.make);
      }),
    ) in
    record { read = read; others = put.others }
