-- The rows of a linear program from named rows: a row of at least its right side stands there once, and an equal row twice, first as it is and then with all signs changed.
use Rattle.std.specs.Prelude.{ℕ, zero, suc, Bool, true, false, ℤ, neg_ℤ, List, [], ◌∷◌, ◌++◌, map, if◌then◌else◌}
use Rattle.lot_sizing.specs.Problem.{Problem}
use Rattle.lin_rows.specs.declared.row.Term.{Term}
use Rattle.lin_rows.specs.declared.base.RowName.{RowName}
use Rattle.lin_rows.specs.Base.{is_some_term}
use Rattle.lin_rows.specs.Columns.{number_of}
use Rattle.lin_rows.specs.Rows.{LinRow}
use Rattle.cert_lines.specs.declared.parts.Part.{Part}
use Rattle.tableau.specs.declared.program.LpTerm.{LpTerm}
use Rattle.tableau.specs.Program.{Inequality}
use Rattle.lp_relaxation.specs.declared.program.Side.{Side}

abbrev pub side : RowName → Bool → Side
side name turned = record { name = name; turned = turned }

-- the sides of a row
abbrev pub sides_of : RowName → Bool → List Side
sides_of name true = side name false ∷ (side name true ∷ [])
sides_of name false = side name false ∷ []

-- those of named rows, in order
abbrev pub all_sides : (RowName → LinRow) → List RowName → List Side
all_sides row [] = []
all_sides row (name ∷ names) = sides_of name (row name).equal ++ all_sides row names

-- a number with its sign changed, or as it is
abbrev pub turn : Bool → ℤ → ℤ
turn true z = neg_ℤ z
turn false z = z

-- a term by the number of its column
abbrev pub lp_term : Problem → Bool → Term → LpTerm
lp_term m turned a = record { column = number_of m a.column; times = turn turned a.times }

-- a row over columns by their numbers, with its signs changed or as it is
abbrev pub turned_row : Problem → Bool → LinRow → Inequality
turned_row m turned r = record { terms = map (lp_term m turned) r.terms; right = turn turned r.right }

abbrev pub side_inequality : Problem → (RowName → LinRow) → Side → Inequality
side_inequality m row s = turned_row m s.turned (row s.name)

-- the rows of a program from sides of named rows
abbrev pub program_rows : Problem → (RowName → LinRow) → List Side → List Inequality
program_rows m row sides = map (side_inequality m row) sides

-- multipliers of the sides as multipliers of their rows
abbrev pub side_rows : (RowName → LinRow) → List Side → List LinRow
side_rows row [] = []
side_rows row (s ∷ sides) = row s.name ∷ side_rows row sides

abbrev pub side_times : List Side → (ℕ → ℤ) → List ℤ
side_times [] z = []
side_times (s ∷ sides) z = turn s.turned (z zero) ∷ side_times sides (λ k. z (suc k))

-- the part of a side, where it is taken at all
abbrev pub part_of : Side → ℤ → List Part
part_of s z = if is_some_term z then record { row = s.name; times = turn s.turned z } ∷ [] else []

-- the parts of a leaf from multipliers of the sides
abbrev pub parts_of : List Side → (ℕ → ℤ) → List Part
parts_of [] z = []
parts_of (s ∷ sides) z = part_of s (z zero) ++ parts_of sides (λ k. z (suc k))
