-- What the fields of a plain tableau stand for.
use Rattle.std.specs.Prelude.{◌≡◌, ◌≤◌, ◌*◌, length}
use Rattle.tableau.specs.declared.plain.tableau.Tableau.TheInside as tableau
use Rattle.tableau.specs.Dictionary.{Dictionary}

abbrev pub dictionary_in : tableau.Inside → Dictionary
dictionary_in a = record { basic = a.basic.items; nonbasic = a.nonbasic.items; cells = a.cells.items }

-- the cells are those of all rows and columns, the cost's and the constants' among them
abbrev pub IsShapedInside : tableau.Inside → Type 0
IsShapedInside a = (length a.cells.items ≡ length a.basic.items * length a.nonbasic.items) × (1 ≤ length a.basic.items) × (1 ≤ length a.nonbasic.items)
