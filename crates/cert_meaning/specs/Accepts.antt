-- When a certificate is accepted, whether its sums stay small, and when its claim is true.
use Rattle.std.specs.Prelude.{◌≡◌, ℕ, ◌≤◌, List, [], ◌∷◌, ◌++◌, ℤ, Option, Some, ⊤}
use Rattle.lot_sizing.specs.Problem.{Problem}
use Rattle.lot_sizing.specs.Plan.{Plan, IsFeasible, cost}
use Rattle.lot_sizing.specs.Best.{IsBest, IsFloor, IsImpossible}
use Rattle.lin_rows.specs.declared.bound.Bound.{Bound}
use Rattle.lin_rows.specs.Rows.{LinRow}
use Rattle.reduced_leaf.specs.Leaf.{IsSmallSum}
use Rattle.item_groups.specs.declared.group.Group.{Group}
use Rattle.cert_lines.specs.declared.parts.Claim.{Claim}
use Rattle.cert_lines.specs.declared.parts.Claim.TheVariants.{Optimal, Infeasible, Bound as BoundOf}
use Rattle.cert_lines.specs.declared.parts.Part.{Part}
use Rattle.cert_lines.specs.Shapes.{CutShape, LsCut, PriceCut, BlockCut, RoundCut, LeafShape, LinearLeaf, FarkasLeaf, PointLeaf, ReducedLeaf}
use Rattle.certificate.specs.Shapes.{Shape}
use Rattle.cert_trees.specs.Ranges.{IsWithin, Ranges}
use Rattle.cert_trees.specs.Trees.{EachLeaf, IsSplitTree}
use Rattle.cert_meaning.specs.declared.says.LeafSays.{LeafSays}
use Rattle.cert_meaning.specs.declared.says.LeafSays.TheVariants.{NoPlan, AtLeast}
use Rattle.cert_meaning.specs.Named.{Named, names}
use Rattle.cert_meaning.specs.Parts.{AreSmall, rows_of, times_of}
use Rattle.cert_meaning.specs.Lists.{all_parts}
use Rattle.cert_meaning.specs.Says.{IsSumOf, Says}
use Rattle.cert_meaning.specs.CutRows.{AreCutRows}

-- what a leaf says is enough for the claim: that no plan lies in it, or, but for an infeasible problem, that none costs less than is claimed
abbrev pub IsEnough : Claim → LeafSays → Type 0
IsEnough (Optimal c) NoPlan = ⊤
IsEnough (Optimal c) (AtLeast n) = c ≤ n
IsEnough Infeasible NoPlan = ⊤
IsEnough Infeasible (AtLeast n) = ⊥
IsEnough (BoundOf c) NoPlan = ⊤
IsEnough (BoundOf c) (AtLeast n) = c ≤ n

-- a leaf, reached by this path, says enough
abbrev pub SaysEnough : Problem → (ℕ → ℕ) → List LinRow → Ranges → Claim → List Bound → LeafShape → Type 0
SaysEnough m total rows ranges claim path leaf =
    (says : LeafSays) × Says (names m total rows path) ranges leaf says × IsEnough claim says

-- the plan that goes with the claim: of an optimal cost a feasible plan within the ranges that costs as much
abbrev pub GoesWith : Problem → Ranges → Claim → Option Plan → Type 0
GoesWith m ranges (Optimal c) given =
    (p : Plan) × (given ≡ Some p) × IsFeasible m p × IsWithin m ranges p × (cost m p ≡ c)
GoesWith m ranges Infeasible given = ⊤
GoesWith m ranges (BoundOf c) given = ⊤

-- a certificate is accepted, over ranges of quantities and setups, with the plan that was given or without one
pub record IsAccepted (m : Problem) (total : ℕ → ℕ) (weight : ℕ → ℕ → ℕ) (ranges : Ranges) (c : Shape) (given : Option Plan) : Type 0 where
  pub rows : List LinRow
  pub cuts : AreCutRows m total weight [] c.cuts rows
  pub tree : IsSplitTree m ranges [] c.tree
  pub leaves : EachLeaf (SaysEnough m total rows ranges c.claim) [] c.tree
  pub plan : GoesWith m ranges c.claim given

-- the sums of a rounding cut stay small
abbrev pub IsSmallCut : Problem → (ℕ → ℕ) → List LinRow → CutShape → Type 0
IsSmallCut m total earlier (LsCut item last chosen) = ⊤
IsSmallCut m total earlier (PriceCut item a) = ⊤
IsSmallCut m total earlier (BlockCut item a) = ⊤
IsSmallCut m total earlier (RoundCut divisor parts) = AreSmall (names m total earlier []) parts

-- of all cuts, whose rows these are
abbrev pub AreSmallCuts : Problem → (ℕ → ℕ) → List LinRow → List CutShape → List LinRow → Type 0
AreSmallCuts m total earlier [] [] = ⊤
AreSmallCuts m total earlier [] (r ∷ rows) = ⊥
AreSmallCuts m total earlier (c ∷ cuts) [] = ⊥
AreSmallCuts m total earlier (c ∷ cuts) (r ∷ rows) =
    IsSmallCut m total earlier c × AreSmallCuts m total (earlier ++ (r ∷ [])) cuts rows

-- the sums of parts stay small, and so does what their right sides and the numbers of groups add to
abbrev pub IsSmallWith : Named → ℕ → List Part → List Group → Type 0
IsSmallWith n den parts groups =
    AreSmall n parts × ((sum : ℤ) → IsSumOf n den parts groups sum → IsSmallSum (rows_of n parts) (times_of parts) sum)

-- the sums of a leaf stay small
abbrev pub IsSmallLeaf : Named → LeafShape → Type 0
IsSmallLeaf n (LinearLeaf den parts) = AreSmall n parts
IsSmallLeaf n (FarkasLeaf parts) = AreSmall n parts
IsSmallLeaf n PointLeaf = ⊤
IsSmallLeaf n (ReducedLeaf den parts lists groups) = IsSmallWith n den (all_parts parts lists) groups

-- every sum of absolute values, in the rounding cuts and in the leaves, stays below 2^127, and so does each sum with the numbers of groups; these are the rows of the cuts
pub record Fits (m : Problem) (total : ℕ → ℕ) (rows : List LinRow) (c : Shape) : Type 0 where
  pub cuts : AreSmallCuts m total [] c.cuts rows
  pub leaves : EachLeaf (λ path leaf. IsSmallLeaf (names m total rows path) leaf) [] c.tree

-- of the plans within ranges: every feasible one costs at least this, none is feasible, or this one is and none costs less
abbrev pub IsFloorWithin : Problem → Ranges → ℕ → Type 0
IsFloorWithin m ranges bound = (p : Plan) → IsFeasible m p → IsWithin m ranges p → bound ≤ cost m p

abbrev pub IsImpossibleWithin : Problem → Ranges → Type 0
IsImpossibleWithin m ranges = (p : Plan) → IsFeasible m p → IsWithin m ranges p → ⊥

pub record IsBestWithin (m : Problem) (ranges : Ranges) (p : Plan) : Type 0 where
  pub feasible : IsFeasible m p
  pub within : IsWithin m ranges p
  pub least : IsFloorWithin m ranges (cost m p)

-- a claim is true of the plans within ranges
abbrev pub IsTrueWithin : Problem → Ranges → Claim → Option Plan → Type 0
IsTrueWithin m ranges (Optimal c) given =
    (p : Plan) × (given ≡ Some p) × IsBestWithin m ranges p × (cost m p ≡ c)
IsTrueWithin m ranges Infeasible given = IsImpossibleWithin m ranges
IsTrueWithin m ranges (BoundOf c) given = IsFloorWithin m ranges c

-- a claim is true of all plans: the given plan is best and costs what is claimed; no plan is feasible; every feasible plan costs at least what is claimed
abbrev pub IsTrueOf : Problem → Claim → Option Plan → Type 0
IsTrueOf m (Optimal c) given = (p : Plan) × (given ≡ Some p) × IsBest m p × (cost m p ≡ c)
IsTrueOf m Infeasible given = IsImpossible m
IsTrueOf m (BoundOf c) given = IsFloor m c
