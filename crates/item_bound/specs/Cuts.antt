-- Cuts with their rows, wherever they stand in a certificate, and the leaf that takes each of them once.
use Rattle.std.specs.Prelude.{◌≡◌, ℕ, zero, suc, ◌<◌, ◌≤◌, ◌++◌, pos, List, [], ◌∷◌, length, slice_index_or}
use Rattle.lot_sizing.specs.Problem.{Problem}
use Rattle.lot_sizing.specs.declared.limits.TheConstants.{MAX_ITEMS}
use Rattle.lin_rows.specs.declared.base.RowName.TheVariants.{Cut}
use Rattle.lin_rows.specs.declared.bound.Bound.{Bound}
use Rattle.lin_rows.specs.Rows.{LinRow}
use Rattle.cert_lines.specs.declared.parts.Part.{Part}
use Rattle.cert_lines.specs.Shapes.{CutShape, LeafShape, LinearLeaf}
use Rattle.certificate.specs.Values.{AreLines, all_cut_values, cut_values}
use Rattle.cert_meaning.specs.declared.says.LeafSays.TheVariants.{AtLeast}
use Rattle.cert_meaning.specs.Accepts.{AreSmallCuts, IsSmallCut}
use Rattle.cert_meaning.specs.CutRows.{AreCutRows}
use Rattle.cert_checker.specs.Cuts.{IsRowOfCut, OfProblem}
use Rattle.cert_checker.specs.Leaves.{LeafIsSmall, LeafSaysThis}

-- after any rows the cut has this row, and its sums are small; it has a line in texts of every version
pub record IsCutAnywhere (m : Problem) (cut : CutShape) (row : LinRow) : Type 0 where
  pub row_is : (earlier : List LinRow) → IsRowOfCut m earlier cut row
  pub small : (total : ℕ → ℕ) (earlier : List LinRow) → IsSmallCut m total earlier cut
  pub lines : (version : ℕ) → AreLines version (cut_values cut)

-- as many rows as cuts, no more than there are items; each cut has its row after any rows, and so have all of them in their order
pub record AreCutsAnywhere (m : Problem) (cuts : List CutShape) (rows : List LinRow) : Type 0 where
  pub as_many : length rows ≡ length cuts
  pub few : length cuts ≤ MAX_ITEMS
  pub each : (k : ℕ) (c : CutShape) (r : LinRow) → k < length cuts → IsCutAnywhere m (slice_index_or cuts k c) (slice_index_or rows k r)
  pub rows_are : (earlier : List LinRow) → OfProblem m (λ total weight. AreCutRows m total weight earlier cuts rows)
  pub small : (total : ℕ → ℕ) (earlier : List LinRow) → AreSmallCuts m total earlier cuts rows
  pub lines : (version : ℕ) → AreLines version (all_cut_values cuts)

-- so many cuts from this one on, each taken once
abbrev pub once_from : ℕ → ℕ → List Part
once_from k zero = []
once_from k (suc n) = record { row = Cut k; times = pos 1 } ∷ once_from (suc k) n

-- the leaf by linear duality that takes each of so many cuts once, which stand after so many other cuts
abbrev pub leaf_from : ℕ → ℕ → LeafShape
leaf_from before count = LinearLeaf (pos 1) (once_from (suc before) count)

-- wherever the rows stand among those of other cuts, and whatever the path is, the leaf that takes each of them once says this amount, and its sums are small
abbrev pub SayAnywhere : Problem → List LinRow → ℕ → Type 0
SayAnywhere m rows amount =
    (before after : List LinRow) (path : List Bound)
    → LeafSaysThis m (before ++ rows ++ after) path (leaf_from (length before) (length rows)) (AtLeast amount)
    × LeafIsSmall m (before ++ rows ++ after) path (leaf_from (length before) (length rows))
