-- Reduced costs in lists.
use Rattle.std.proofs.Common.{◌≡◌, ◌+◌, ◌-◌, ⊎_elim, ℕ, sym, subst, arith, List, [], ◌∷◌, ◌++◌}
use Rattle.std.proofs.lemmas.Bool.{cases_lt}
use Rattle.std.proofs.lemmas.List.{length_push, get_or_append_left, get_or_push}
use Rattle.lot_sizing.specs.Plan.{Table}
use Rattle.reduced_groups.specs.Levels.{HasSeries}
use Rattle.reduced_leaf.specs.Found.{HaveSeries}

-- a row more
pub rows_next : (n k periods : ℕ) (f : Table) (row : List ℕ) (rows : List (List ℕ)) → k ≡ n + 1 → HaveSeries n periods f rows → HasSeries periods (f k) row → HaveSeries k periods f (rows ++ row ∷ [])
rows_next n k periods f row rows next have has = record {
  size = omega (arith, length_push rows row, have.size, next);
  each = λ i low high. ⊎_elim
      (λ before. subst (HasSeries periods (f i)) (sym (get_or_append_left rows (row ∷ []) [] (i - 1) (omega (arith, before, low, have.size, next)))) (have.each i low (omega (arith, before, next))))
      (λ after.
      let e : i ≡ k = omega (arith, after, high) in
      subst (HasSeries periods (f i)) (sym (get_or_push rows row [] (i - 1) (omega (arith, e, low, have.size, next)))) (subst (λ j. HasSeries periods (f j) row) (sym e) has))
      (cases_lt i k);
}
