-- The steps to what is said of the relaxation on a path.
use Rattle.std.specs.Prelude.{◌≡◌, ◌⊎◌, ℕ, ℤ, List, [], length}
use Rattle.rational.specs.Rational.{ℚ}
use Rattle.lot_sizing.specs.Problem.{Problem}
use Rattle.lin_rows.specs.declared.bound.Bound.{Bound}
use Rattle.lin_rows.specs.Columns.{column_count}
use Rattle.cert_lines.specs.Shapes.{LeafShape, leaf_shape}
use Rattle.tableau.specs.declared.outcome.Outcome.{Outcome}
use Rattle.tableau.specs.Denominators.{PassWhole}
use Rattle.tableau.specs.Leaves.{AreOfLeaf}
use Rattle.tableau.specs.Meaning.{AreBest, AreEmpty}
use Rattle.tableau.specs.Outcomes.{IsOutcome, number_at}
use Rattle.tableau.specs.Program.{IsProgram, Program, column_count as width_of, row_count}
use Rattle.cert_trees.specs.Ranges.{WithTotals}
use Rattle.cert_meaning.specs.declared.says.LeafSays.{LeafSays}
use Rattle.cert_meaning.specs.declared.says.LeafSays.TheVariants as leaf
use Rattle.cert_checker.specs.declared.fault.Why.{Why}
use Rattle.cert_checker.specs.Leaves.{IsLeafFault, LeafIsSmall, LeafSaysThis, WithNames}
use Rattle.lp_relaxation.specs.declared.program.Side.{Side}
use Rattle.lp_relaxation.specs.declared.rounds.RoundProgram.{RoundProgram}
use Rattle.lp_relaxation.specs.declared.leaf.TheConstants.{LEAF_LINE}
use Rattle.lp_relaxation.specs.Leaves.{AreWhole, Making, farkas, linear}
use Rattle.lp_relaxation.specs.Says.{IsProgramOf, sides_named}
use Rattle.lp_relaxation.specs.Sides.{parts_of}
use Rattle.lp_relaxation.specs.declared.limits.TheConstants.{MAX_PIVOTS}
use Rattle.lp_bounds.specs.declared.says.Exempt.TheVariants.{Pivots, Cell, Leaf}
use Rattle.lp_bounds.specs.declared.says.PathSays.{PathSays}
use Rattle.lp_bounds.specs.declared.says.PathSays.TheVariants.{AtLeast, NoPoint, Exempt as ExemptFor}
use Rattle.lp_bounds.specs.Path.{HasMultipliers, IsExempt, IsMetAt, SaysAtLeast, SaysNone, on_path, path_names}

-- ---- the program
-- all base rows and so many bounds of the path, and the side that each row of the program is
pub record IsMadeOf (m : Problem) (total : ℕ → ℕ) (path : List Bound) (bounds : ℕ) (p : Program) (list : List Side) : Type 0 where
  pub program : IsProgramOf (on_path m total path) (path_names m bounds) p
  pub sides_are : list ≡ sides_named (on_path m total path) (path_names m bounds)

-- whatever the largest totals are
pub record IsReadyTo (m : Problem) (path : List Bound) (bounds : ℕ) (round : RoundProgram) : Type 0 where
  pub made : WithTotals m (λ total. IsMadeOf m total path bounds round.lp round.sides.items)
  pub fits : IsProgram round.lp
  pub width : width_of round.lp ≡ column_count m

-- with all bounds
abbrev pub IsReady : Problem → List Bound → RoundProgram → Type 0
IsReady m path round = IsReadyTo m path (length path) round

-- ---- how its run ends
-- at a least point, with these multipliers
pub record EndsLeast (p : Program) (ys : List ℚ) : Type 0 where
  pub end : Outcome
  pub run : IsOutcome p MAX_PIVOTS end
  pub has : HasMultipliers end ys
  pub size : length ys ≡ row_count p
  pub point : ℕ → ℚ
  pub value : ℚ
  pub best : AreBest p point (number_at ys) value

-- with multipliers that leave no point
pub record EndsEmpty (p : Program) (ys : List ℚ) : Type 0 where
  pub end : Outcome
  pub run : IsOutcome p MAX_PIVOTS end
  pub has : HasMultipliers end ys
  pub size : length ys ≡ row_count p
  pub empty : AreEmpty p (number_at ys)

-- ---- the leaf
-- what a leaf says without cuts, with small sums
pub record SaysSmall (m : Problem) (path : List Bound) (leaf : LeafShape) (says : LeafSays) : Type 0 where
  pub said : LeafSaysThis m [] path leaf says
  pub small : LeafIsSmall m [] path leaf

-- or it is refused
abbrev pub IsRefused : Problem → List Bound → LeafShape → Type 0
IsRefused m path leaf = (at : ℕ) × (w : Why) × WithNames m [] path (λ n ranges. IsLeafFault n ranges leaf LEAF_LINE at w)

-- the leaf that whole multipliers make says something
pub record IsLeafOf (m : Problem) (path : List Bound) (sides : List Side) (ys : List ℚ) (make : Making) (shape : LeafShape) (says : LeafSays) : Type 0 where
  pub den : ℕ
  pub numerators : ℕ → ℤ
  pub are : AreWhole ys den numerators
  pub shape_is : shape ≡ make den (parts_of sides numerators)
  pub said : SaysSmall m path shape says

-- or there are none that are small, or it is refused
abbrev pub HasNoLeaf : Problem → List Bound → List Side → List ℚ → Making → Type 0
HasNoLeaf m path sides ys make =
    PassWhole ys ⊎ ((den : ℕ) × (z : ℕ → ℤ) × AreOfLeaf (length ys) (number_at ys) den z × IsRefused m path (make den (parts_of sides z)))

abbrev pub IsLinearFound : Problem → List Bound → List Side → List ℚ → PathSays → Type 0
IsLinearFound m path sides ys (AtLeast a bound) = IsLeafOf m path sides ys linear (leaf_shape a) (leaf.AtLeast bound)
IsLinearFound m path sides ys (NoPoint a) = ⊥
IsLinearFound m path sides ys (ExemptFor Pivots) = ⊥
IsLinearFound m path sides ys (ExemptFor (Cell pivot row column)) = ⊥
IsLinearFound m path sides ys (ExemptFor Leaf) = HasNoLeaf m path sides ys linear

abbrev pub IsFarkasFound : Problem → List Bound → List Side → List ℚ → PathSays → Type 0
IsFarkasFound m path sides ys (AtLeast a bound) = ⊥
IsFarkasFound m path sides ys (NoPoint a) = IsLeafOf m path sides ys farkas (leaf_shape a) leaf.NoPlan
IsFarkasFound m path sides ys (ExemptFor Pivots) = ⊥
IsFarkasFound m path sides ys (ExemptFor (Cell pivot row column)) = ⊥
IsFarkasFound m path sides ys (ExemptFor Leaf) = HasNoLeaf m path sides ys farkas

-- ---- what is said
abbrev pub IsSaid : Problem → List Bound → PathSays → Type 0
IsSaid m path (AtLeast a bound) = SaysAtLeast m path (leaf_shape a) bound × IsMetAt m path bound
IsSaid m path (NoPoint a) = SaysNone m path (leaf_shape a)
IsSaid m path (ExemptFor cause) = IsExempt m path cause
