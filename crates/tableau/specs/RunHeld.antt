-- What the fields of a run stand for.
use Rattle.std.specs.Prelude.{◌≤◌, ℕ, Option, None, Some, length}
use Rattle.tableau.specs.declared.run.Run.TheInside as run
use Rattle.tableau.specs.Dictionary.{Dictionary, width}
use Rattle.tableau.specs.Stepwise.{State, at, passed}

abbrev pub state_of : Dictionary → Option (ℕ × ℕ) → State
state_of d None = at d
state_of d (Some place) = passed place.0 place.1

abbrev pub state_in : run.Inside → State
state_in a = state_of a.tableau a.refused

-- both lists have an entry for each column
abbrev pub HasRoomInside : run.Inside → Type 0
HasRoomInside a = (width a.tableau ≤ length a.columns.items) × (width a.tableau ≤ length a.copies.items)
