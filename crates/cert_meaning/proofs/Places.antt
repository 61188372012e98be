-- The rows of cuts, place by place.
use Rattle.std.proofs.Common.{◌≡◌, ◌<◌, ℕ, zero, suc, refl, sym, ap, subst, arith, List, [], ◌∷◌, ◌++◌, append-nil, append_assoc, length, slice_index_or, take}
use Rattle.lot_sizing.specs.Problem.{Problem}
use Rattle.lin_rows.specs.Rows.{LinRow}
use Rattle.cert_lines.specs.Shapes.{CutShape}
use Rattle.cert_meaning.specs.CutRows.{AreCutRows, IsCutRow}
use Rattle.cert_meaning.specs.Accepts.{AreSmallCuts, IsSmallCut}

module _ (m : Problem) (total : ℕ → ℕ) (weight : ℕ → ℕ → ℕ) where
  rows_more : (earlier : List LinRow) (cuts : List CutShape) (rows : List LinRow) (c : CutShape) (r : LinRow) → AreCutRows m total weight earlier cuts rows → IsCutRow m total weight (earlier ++ rows) c r → AreCutRows m total weight earlier (cuts ++ (c ∷ [])) (rows ++ (r ∷ []))
  rows_more earlier [] [] c r are is = (subst (λ e. IsCutRow m total weight e c r) (append-nil earlier) is, tt)
  rows_more earlier [] (s ∷ rows) c r are is = absurd are
  rows_more earlier (d ∷ cuts) [] c r are is = absurd are
  rows_more earlier (d ∷ cuts) (s ∷ rows) c r are is =
      (are.0, rows_more (earlier ++ (s ∷ [])) cuts rows c r are.1 (subst (λ e. IsCutRow m total weight e c r) (sym (append_assoc earlier (s ∷ []) rows)) is))

  pub as_many : (earlier : List LinRow) (cuts : List CutShape) (rows : List LinRow) → AreCutRows m total weight earlier cuts rows → length rows ≡ length cuts
  as_many earlier [] [] are = refl
  as_many earlier [] (s ∷ rows) are = absurd are
  as_many earlier (d ∷ cuts) [] are = absurd are
  as_many earlier (d ∷ cuts) (s ∷ rows) are = ap suc (as_many (earlier ++ (s ∷ [])) cuts rows are.1)

  row_at : (earlier : List LinRow) (cuts : List CutShape) (rows : List LinRow) (k : ℕ) (c : CutShape) (r : LinRow) → AreCutRows m total weight earlier cuts rows → k < length cuts → IsCutRow m total weight (earlier ++ take k rows) (slice_index_or cuts k c) (slice_index_or rows k r)
  row_at earlier [] rows k c r are less = absurd (omega (arith, less))
  row_at earlier (d ∷ cuts) [] k c r are less = absurd are
  row_at earlier (d ∷ cuts) (s ∷ rows) zero c r are less = subst (λ e. IsCutRow m total weight e d s) (sym (append-nil earlier)) are.0
  row_at earlier (d ∷ cuts) (s ∷ rows) (suc k) c r are less =
      subst (λ e. IsCutRow m total weight e (slice_index_or cuts k c) (slice_index_or rows k r)) (append_assoc earlier (s ∷ []) (take k rows))
      (row_at (earlier ++ (s ∷ [])) cuts rows k c r are.1 (omega (arith, less)))

  front : (earlier : List LinRow) (cuts : List CutShape) (rows : List LinRow) (k : ℕ) → AreCutRows m total weight earlier cuts rows → AreCutRows m total weight earlier (take k cuts) (take k rows)
  front earlier [] [] k are = none k
    where
      none : (k : ℕ) → AreCutRows m total weight earlier (take k []) (take k [])
      none zero = tt
      none (suc k) = tt
  front earlier [] (s ∷ rows) k are = absurd are
  front earlier (d ∷ cuts) [] k are = absurd are
  front earlier (d ∷ cuts) (s ∷ rows) zero are = tt
  front earlier (d ∷ cuts) (s ∷ rows) (suc k) are = (are.0, front (earlier ++ (s ∷ [])) cuts rows k are.1)

  -- from none on
  pub one_more : (cuts : List CutShape) (rows : List LinRow) (c : CutShape) (r : LinRow) → AreCutRows m total weight [] cuts rows → IsCutRow m total weight rows c r → AreCutRows m total weight [] (cuts ++ (c ∷ [])) (rows ++ (r ∷ []))
  one_more cuts rows c r are is = rows_more [] cuts rows c r are is

  pub each_row : (cuts : List CutShape) (rows : List LinRow) (k : ℕ) (c : CutShape) (r : LinRow) → AreCutRows m total weight [] cuts rows → k < length cuts → IsCutRow m total weight (take k rows) (slice_index_or cuts k c) (slice_index_or rows k r)
  each_row cuts rows k c r are less = row_at [] cuts rows k c r are less

  pub first_rows : (cuts : List CutShape) (rows : List LinRow) (k : ℕ) → AreCutRows m total weight [] cuts rows → AreCutRows m total weight [] (take k cuts) (take k rows)
  first_rows cuts rows k are = front [] cuts rows k are

-- whether their sums are small
module _ (m : Problem) (total : ℕ → ℕ) where
  small_more : (earlier : List LinRow) (cuts : List CutShape) (rows : List LinRow) (c : CutShape) (r : LinRow) → AreSmallCuts m total earlier cuts rows → IsSmallCut m total (earlier ++ rows) c → AreSmallCuts m total earlier (cuts ++ (c ∷ [])) (rows ++ (r ∷ []))
  small_more earlier [] [] c r are is = (subst (λ e. IsSmallCut m total e c) (append-nil earlier) is, tt)
  small_more earlier [] (s ∷ rows) c r are is = absurd are
  small_more earlier (d ∷ cuts) [] c r are is = absurd are
  small_more earlier (d ∷ cuts) (s ∷ rows) c r are is =
      (are.0, small_more (earlier ++ (s ∷ [])) cuts rows c r are.1 (subst (λ e. IsSmallCut m total e c) (sym (append_assoc earlier (s ∷ []) rows)) is))

  pub one_more_small : (cuts : List CutShape) (rows : List LinRow) (c : CutShape) (r : LinRow) → AreSmallCuts m total [] cuts rows → IsSmallCut m total rows c → AreSmallCuts m total [] (cuts ++ (c ∷ [])) (rows ++ (r ∷ []))
  one_more_small cuts rows c r are is = small_more [] cuts rows c r are is
