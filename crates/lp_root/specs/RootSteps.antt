-- What the steps of the root's rounds come to.
use Rattle.std.specs.Prelude.{◌≡◌, ◌⊎◌, ℕ, ◌+◌, ◌-◌, ◌*◌, ◌≤◌, Bool, true, false, ℤ, List, [], ◌∷◌, ◌++◌, length, map, Option, Some, None, IsNone, IsSomeAnd, ⊤}
use Rattle.rational.specs.Rational.{ℚ}
use Rattle.lot_sizing.specs.Problem.{Problem, item_count}
use Rattle.lot_sizing.specs.Bill.{AreWeights, bill_of}
use Rattle.echelon.specs.declared.net.EchelonItem.{EchelonItem}
use Rattle.lin_rows.specs.Columns.{column_count}
use Rattle.lin_rows.specs.Rows.{LinRow}
use Rattle.echelon_rows.specs.Rows.{echelon_in}
use Rattle.ls_cuts.specs.Points.{Fractions}
use Rattle.ls_cuts.specs.Steps.{SomePasses}
use Rattle.cert_lines.specs.declared.limits.TheConstants.{MAX_CUTS}
use Rattle.cert_lines.specs.Shapes.{CutShape, LeafShape, cut_shape, leaf_shape}
use Rattle.tableau.specs.Denominators.{PassWhole}
use Rattle.tableau.specs.Program.{IsProgram, column_count as width_of}
use Rattle.cert_trees.specs.Ranges.{WithTotals}
use Rattle.cert_meaning.specs.declared.says.LeafSays.TheVariants.{NoPlan, AtLeast}
use Rattle.cert_checker.specs.declared.fault.Why.{Why}
use Rattle.cert_checker.specs.Cuts.{HasItsColumns, HoldsAlways, IsRowOfCut}
use Rattle.cert_checker.specs.Leaves.{IsLeafFault, WithNames}
use Rattle.lp_relaxation.specs.Relaxation.{WithFigures}
use Rattle.lp_relaxation.specs.declared.program.Side.{Side}
use Rattle.lp_relaxation.specs.declared.rounds.RoundProgram.{RoundProgram}
use Rattle.lp_relaxation.specs.declared.leaf.TheConstants.{LEAF_LINE}
use Rattle.lp_relaxation.specs.Laws.{HasSmallNumbers}
use Rattle.lp_relaxation.specs.Leaves.{AreWhole, Making}
use Rattle.lp_relaxation.specs.Rounds.{IsLs, IsRound}
use Rattle.lp_relaxation.specs.Sides.{parts_of}
use Rattle.lp_root.specs.declared.at_root.TheConstants.{MAX_ROUNDS}
use Rattle.cert_lines.specs.declared.parts.Leaf.{Leaf}
use Rattle.search_result.specs.declared.found.PassedAt.TheVariants as passed
use Rattle.search_result.specs.declared.found.RootSays.{RootSays}
use Rattle.search_result.specs.declared.found.RootSays.TheVariants as root
use Rattle.lp_root.specs.declared.round.Rounds.{Rounds}
use Rattle.lp_root.specs.declared.round_leaf.Verdict.{Verdict}
use Rattle.lp_root.specs.declared.separation.LastPeriod.{LastPeriod}
use Rattle.lp_root.specs.declared.separation.RootCuts.{RootCuts}
use Rattle.lp_root.specs.Root.{HasLeafLines, RoundsSay, SaysSmall}
use Rattle.lp_root.specs.Rounds.{AreCutsAfter, AreCutsAt, AreCutsFound, AreCutsOf, AreJoined, PassesAt, PassesFirst}

-- ---- cuts with their rows
-- an (l,S) cut with its row, as the programs of rounds take it
pub record IsRootCut (m : Problem) (c : CutShape) (r : LinRow) : Type 0 where
  pub ls : IsLs c
  pub row : (earlier : List LinRow) → IsRowOfCut m earlier c r
  pub columns : HasItsColumns m r
  pub holds : HoldsAlways m r
  pub small : HasSmallNumbers r
  pub unequal : r.equal ≡ false

abbrev pub AreRootCuts : Problem → List CutShape → List LinRow → Type 0
AreRootCuts m [] [] = ⊤
AreRootCuts m [] (r ∷ rows) = ⊥
AreRootCuts m (c ∷ cuts) [] = ⊥
AreRootCuts m (c ∷ cuts) (r ∷ rows) = IsRootCut m c r × AreRootCuts m cuts rows

abbrev pub shapes : RootCuts → List CutShape
shapes list = map cut_shape list.cuts.items

-- some are put after others, each with its row
pub record Puts (m : Problem) (P : List CutShape → Type 0) (old new : RootCuts) : Type 0 where
  pub cuts : List CutShape
  pub rows : List LinRow
  pub cuts_are : shapes new ≡ shapes old ++ cuts
  pub rows_are : new.rows.items ≡ old.rows.items ++ rows
  pub root_cuts : AreRootCuts m cuts rows
  pub are : P cuts

-- ---- separation
abbrev pub WithWeights : Problem → ((ℕ → ℕ → ℕ) → Type 0) → Type 0
WithWeights m P = (weight : ℕ → ℕ → ℕ) → AreWeights (bill_of m) weight → P weight

-- the cuts that separation finds of an echelon for an l are put; or some step doesn't fit, and none is
abbrev pub PutsAt : Problem → EchelonItem → Fractions → ℕ → Bool → RootCuts → RootCuts → Type 0
PutsAt m e read l true old new = Puts m (AreCutsAt e read l) old new
PutsAt m e read l false old new = SomePasses (echelon_in e) read l × Puts m (λ cuts. cuts ≡ []) old new

-- those for all l are put; or those for the l's before one at which some step doesn't fit
abbrev pub PutsEchelon : Problem → EchelonItem → Fractions → Option ℕ → RootCuts → RootCuts → Type 0
PutsEchelon m e read None old new = Puts m (AreJoined m.periods (AreCutsAt e read)) old new
PutsEchelon m e read (Some l) old new = (1 ≤ l) × (l ≤ m.periods) × SomePasses (echelon_in e) read l × Puts m (AreJoined (l - 1) (AreCutsAt e read)) old new

-- those of an item are put, whatever the weights are
abbrev pub PutsItem : Problem → Fractions → ℕ → Option ℕ → RootCuts → RootCuts → Type 0
PutsItem m read i None old new = Puts m (λ cuts. WithWeights m (λ weight. AreCutsOf m weight read i cuts)) old new
PutsItem m read i (Some l) old new = Puts m (λ cuts. WithWeights m (λ weight. PassesAt m weight read i l cuts)) old new

-- and those of all items
abbrev pub PutsAll : Problem → Fractions → Option LastPeriod → RootCuts → RootCuts → Type 0
PutsAll m read None old new = Puts m (λ cuts. WithWeights m (λ weight. AreCutsFound m weight read cuts)) old new
PutsAll m read (Some end) old new = Puts m (λ cuts. WithWeights m (λ weight. PassesFirst m weight read end.item end.l cuts)) old new

-- ---- leaves
-- a leaf is refused on its line
abbrev pub IsRefused : Problem → List LinRow → LeafShape → Type 0
IsRefused m rows leaf = (at : ℕ) × (w : Why) × WithNames m rows [] (λ n ranges. IsLeafFault n ranges leaf LEAF_LINE at w)

-- what the leaf says is said, or the leaf is refused
abbrev pub IsJudged : Problem → List LinRow → LeafShape → ℕ → RootSays → Option Leaf → Type 0
IsJudged m rows shape round root.Uncoupled leaf = ⊥
IsJudged m rows shape round (root.Skipped cells) leaf = ⊥
IsJudged m rows shape round (root.Closed c) leaf = SaysSmall m rows shape (AtLeast c) × IsSomeAnd leaf (λ a. leaf_shape a ≡ shape)
IsJudged m rows shape round root.Empty leaf = SaysSmall m rows shape NoPlan × IsSomeAnd leaf (λ a. leaf_shape a ≡ shape)
IsJudged m rows shape round (root.Stopped at) leaf = ⊥
IsJudged m rows shape round (root.Passed at place) leaf = (at ≡ round) × (place ≡ passed.Leaf) × IsRefused m rows shape × IsNone leaf

-- the multipliers have no small whole ones, or the leaf of these is judged
abbrev pub IsLeafOf : Problem → List LinRow → List Side → List ℚ → Making → ℕ → Verdict → Type 0
IsLeafOf m rows sides ys make round v =
    (PassWhole ys × (v.says ≡ root.Passed round passed.Leaf) × IsNone v.leaf)
    ⊎ ((den : ℕ) × (z : ℕ → ℤ) × AreWhole ys den z × IsJudged m rows (make den (parts_of sides z)) round v.says v.leaf)

-- ---- rounds
-- a program of a round, whatever the largest totals are
pub record IsReady (m : Problem) (rows : List LinRow) (program : RoundProgram) : Type 0 where
  pub round : WithTotals m (λ total. IsRound m total rows program.lp program.sides.items)
  pub fits : IsProgram program.lp
  pub width : width_of program.lp ≡ column_count m

-- the cuts of so many rounds with their rows, and the program of the next one
pub record AreRounds (m : Problem) (n : ℕ) (state : Rounds) : Type 0 where
  pub cuts : AreRootCuts m (shapes state.list) state.list.rows.items
  pub after : WithFigures m (λ total weight. AreCutsAfter m total weight n (shapes state.list))
  pub ready : IsReady m state.list.rows.items state.program

-- what is said in the end, over the cuts of the rounds and their rows; a leaf over no more cuts than a certificate has is writable
pub record EndsRounds (m : Problem) (v : Verdict) (cuts : List CutShape) (rows : List LinRow) : Type 0 where
  pub cuts_are : AreRootCuts m cuts rows
  pub few : length cuts ≤ MAX_ROUNDS * (item_count m * m.periods)
  pub said : RoundsSay m v.says cuts rows v.leaf
  pub leaf_lines : length rows ≤ MAX_CUTS → HasLeafLines m v.leaf

-- with this cut more, whose number is one more than that of the last, a program is that of the next round
abbrev pub GrowsRound : Problem → ℕ → LinRow → RoundProgram → RoundProgram → Type 0
GrowsRound m number r old new =
    (total : ℕ → ℕ) (rows : List LinRow) → IsRound m total rows old.lp old.sides.items → number ≡ length rows + 1
    → IsRound m total (rows ++ (r ∷ [])) new.lp new.sides.items
