-- Price rows hold, and their columns are those of the problem.
use Rattle.std.specs.Prelude.{ℕ, List}
use Rattle.echelon.specs.declared.net.EchelonItem.{EchelonItem}
use Rattle.lin_rows.specs.Rows.{HoldsIn}
use Rattle.echelon_rows.specs.Rows.{echelon_in}
use Rattle.echelon_rows.specs.Plans.{AtPlansOf}
use Rattle.facility_form.specs.PriceRow.{price_row}

-- at each plan of an echelon each price row holds, whatever the prices are
abbrev pub PriceRowsHold : Type 0
PriceRowsHold = (e : EchelonItem) → AtPlansOf e (λ p. (price unit hold back : List ℕ) → HoldsIn p (price_row (echelon_in e) price unit hold back))
