-- The row that the fields of a `Row` stand for.
use Rattle.lin_rows.specs.Rows.{AreTerms, LinRow}
use Rattle.lin_rows.specs.declared.row.Row.TheInside.{Inside}

abbrev pub row_in : Inside → LinRow
row_in a = record { terms = a.terms.items; right = a.right; equal = a.equal }

abbrev pub IsRowInside : Inside → Type 0
IsRowInside a = AreTerms 0 a.terms.items
