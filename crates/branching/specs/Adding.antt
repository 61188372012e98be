-- What is added to what a search knows: cuts with their rows, and leaves that the checker has judged.
use Rattle.std.specs.Prelude.{◌≡◌, ◌<◌, ◌^◌, ℕ, false, List, IfSome, ⊤}
use Rattle.lot_sizing.specs.Problem.{Problem}
use Rattle.lin_rows.specs.declared.bound.Bound.{Bound}
use Rattle.lin_rows.specs.Rows.{LinRow}
use Rattle.cert_lines.specs.Shapes.{BlockCut, CutShape, LeafShape, LsCut, PriceCut, RoundCut, leaf_shape}
use Rattle.cert_trees.specs.Ranges.{WithTotals}
use Rattle.cert_meaning.specs.Accepts.{IsSmallCut}
use Rattle.cert_checker.specs.Cuts.{HasItsColumns, IsRowOfCut}
use Rattle.leaf_growth.specs.Growth.{IsOfRows, LeafSaysSmall}
use Rattle.leaf_growth.specs.Written.{LeafHasLines}
use Rattle.tree_search.specs.declared.proposal.Proposal.{Proposal}
use Rattle.branching.specs.Leaves.{said}

-- ---- cuts
abbrev pub IsBlockCut : CutShape → Type 0
IsBlockCut (LsCut item last chosen) = ⊥
IsBlockCut (PriceCut item lists) = ⊥
IsBlockCut (BlockCut item lists) = ⊤
IsBlockCut (RoundCut divisor parts) = ⊥

-- the row of a cut after these rows; its sums are small, and the problem has its columns
pub record IsNextRow (m : Problem) (rows : List LinRow) (cut : CutShape) (row : LinRow) : Type 0 where
  pub is_row : IsRowOfCut m rows cut row
  pub small : WithTotals m (λ total. IsSmallCut m total rows cut)
  pub columns_exist : HasItsColumns m row

-- ---- leaves
-- a leaf that takes rows by their names, and has its lines in texts of a version
pub record IsTested (version : ℕ) (leaf : LeafShape) : Type 0 where
  pub of_rows : IsOfRows leaf
  pub lines : LeafHasLines version leaf

-- a leaf that takes rows by their names says what the proposal says, its sums and the amount are small, and it can be written
pub record IsJudged (m : Problem) (version : ℕ) (rows : List LinRow) (path : List Bound) (p : Proposal) : Type 0 where
  pub says : LeafSaysSmall m rows path (leaf_shape p.leaf) (said p.says)
  pub lines : LeafHasLines version (leaf_shape p.leaf)
  pub small : IfSome p.says (λ amount. amount < 2 ^ 127)
  pub of_rows : IsOfRows (leaf_shape p.leaf)
  pub unexamined : p.examined ≡ false
