-- The parts that the lists of a leaf stand for.
use Rattle.std.specs.Prelude.{◌≡◌, ℕ, ◌+◌, ℤ, List, [], ◌∷◌, ◌++◌, length}
use Rattle.std.specs.List.{All, flat_map}
use Rattle.lin_rows.specs.declared.base.RowName.{RowName}
use Rattle.lin_rows.specs.declared.base.RowName.TheVariants.{Balance, Link, Capacity, Top, Least, Late}
use Rattle.cert_lines.specs.declared.parts.ListKind.{ListKind}
use Rattle.cert_lines.specs.declared.parts.ListKind.TheVariants as kind
use Rattle.cert_lines.specs.declared.parts.Part.{Part}
use Rattle.cert_lines.specs.Shapes.{ListShape}
use Rattle.cert_meaning.specs.Named.{Named}
use Rattle.cert_meaning.specs.Parts.{AreParts}

-- the row of a kind that an item, or a resource, has in a period
abbrev pub list_row : ListKind → (index t : ℕ) → RowName
list_row kind.Balance index t = Balance index t
list_row kind.Link index t = Link index t
list_row kind.Capacity index t = Capacity index t
list_row kind.Top index t = Top index t
list_row kind.Least index t = Least index t
list_row kind.Late index t = Late index t

-- a multiple of the row of each period, from one on
abbrev pub parts_from : ListKind → (index t : ℕ) → List ℤ → List Part
parts_from kind index t [] = []
parts_from kind index t (z ∷ times) = record { row = list_row kind index t; times = z } ∷ parts_from kind index (t + 1) times

-- from the first period on
abbrev pub parts_of_list : ListShape → List Part
parts_of_list a = parts_from a.kind a.index 1 a.times

-- parts, and those of lists after them
abbrev pub all_parts : List Part → List ListShape → List Part
all_parts parts lists = parts ++ flat_map parts_of_list lists

-- a list has an entry for each period
abbrev pub HasEach : Named → ListShape → Type 0
HasEach n a = length a.times ≡ n.problem.periods

-- parts and those of lists are parts, and each list has an entry for each period
pub record AreListed (n : Named) (parts : List Part) (lists : List ListShape) : Type 0 where
  pub parts_exist : AreParts n (all_parts parts lists)
  pub each : All (HasEach n) lists
