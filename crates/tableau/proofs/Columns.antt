-- The columns of a row that aren't 0.
use Rattle.std.proofs.Common.{◌≡◌, ◌≢◌, ◌≤◌, ◌<◌, ◌+◌, ◌∙◌, ⊎_elim, ℕ, zero, suc, refl, sym, ap, subst, arith, List, length, slice_index_or, take, get_or-set_other}
use Rattle.std.proofs.lemmas.Bool.{cases_eq, cases_lt}
use Rattle.std.proofs.lemmas.List.{get_or-set_same, get_or-take}
use Rattle.std.specs.Prelude.{slice_set, Option, Some, None}
use Rattle.rational.specs.Rational.{ℚ, ◌*ℚ◌, ◌-ℚ◌, ◌≤ℚ◌}
use Rattle.rational.proofs.Rationals as Q
use Rattle.frac128.specs.Limits.{Fits}
use Rattle.tableau.specs.Program.{zero_ℚ}
use Rattle.tableau.specs.Dictionary.{Dictionary, cell, height, width}
use Rattle.tableau.specs.Run.{IsCandidate}
use Rattle.tableau.specs.Steps.{AreColumns, AreListed, CellFits, IsBetter, IsSet, IsSkip, RatiosFitTo, from_place}
use Rattle.tableau.proofs.Cells.{best_next, divided_next, divided_skip, fit_next, reduced_zero, row_next, row_skip, times_zero}
use Rattle.tableau.proofs.Loops.{AreRowsTo, IsBestOrNone, IsDividedTo, IsRowTo}

-- ---- the list
skip_none : (d : Dictionary) (k t : ℕ) → IsSkip d k t t
skip_none d k t = record { low = omega arith; zero = λ v low less high. absurd (omega (arith, low, less)) }

skip_more : (d : Dictionary) (k a b : ℕ) → IsSkip d k a b → cell d k b ≡ zero_ℚ → IsSkip d k a (b + 1)
skip_more d k a b skip none = record {
  low = omega (arith, skip.low);
  zero = λ u low less high. ⊎_elim (λ same. ap (cell d k) same ∙ none) (λ other. skip.zero u low (omega (arith, less, other)) high) (cases_eq u b);
}

from_next : (list : List ℕ) (j : ℕ) → from_place list (j + 1) ≡ slice_index_or list j 0 + 1
from_next list j = let e : suc j ≡ j + 1 = omega arith in subst (λ n. from_place list n ≡ slice_index_or list j 0 + 1) e refl

-- a list that has the same first numbers goes on at the same places
from_same : (xs ys : List ℕ) (count j : ℕ) → ((i : ℕ) → i < count → slice_index_or ys i 0 ≡ slice_index_or xs i 0) → j ≤ count → from_place ys j ≡ from_place xs j
from_same xs ys count zero same few = refl
from_same xs ys count (suc j) same few = ap (λ n. n + 1) (same j (omega (arith, few)))

pub listed_first : (d : Dictionary) (k : ℕ) (list : List ℕ) → AreListed d k list 0 0
listed_first d k list = record {
  few = omega arith;
  below = λ j less. absurd (omega (arith, less));
  between = λ j less. absurd (omega (arith, less));
  last = skip_none d k 0;
}

pub listed_skip : (d : Dictionary) (k : ℕ) (list : List ℕ) (count to : ℕ) → AreListed d k list count to → cell d k to ≡ zero_ℚ → AreListed d k list count (to + 1)
listed_skip d k list count to so_far none = record {
  few = omega (arith, so_far.few);
  below = λ j less. omega (arith, so_far.below j less);
  between = so_far.between;
  last = skip_more d k (from_place list count) to so_far.last none;
}

pub listed_more : (d : Dictionary) (k : ℕ) (list : List ℕ) (count to : ℕ) → count < length list → AreListed d k list count to → AreListed d k (slice_set list count to) (count + 1) (to + 1)
listed_more d k list count to room so_far = record {
  few = omega (arith, so_far.few);
  below = λ j less. ⊎_elim (λ same. omega (arith, ap (λ i. slice_index_or new i 0) same, here)) (λ other. omega (arith, before j (omega (arith, less, other)), so_far.below j (omega (arith, less, other)))) (cases_eq j count);
  between = λ j less. ⊎_elim
      (λ same. subst (λ i. IsSkip d k (from_place new i) (slice_index_or new i 0)) (sym same) (subst (IsSkip d k (from_place new count)) (sym here) (subst (λ a. IsSkip d k a to) (sym (from_same list new count count before (omega arith))) so_far.last)))
      (λ other. let low : j < count = omega (arith, less, other) in subst (λ a. IsSkip d k a (slice_index_or new j 0)) (sym (from_same list new count j before (omega (arith, low)))) (subst (IsSkip d k (from_place list j)) (sym (before j low)) (so_far.between j low)))
      (cases_eq j count);
  last = subst (λ a. IsSkip d k a (to + 1)) (sym (from_next new count ∙ ap (λ n. n + 1) here)) (skip_none d k (to + 1));
}
  where
    new : List ℕ
    new = slice_set list count to

    here : slice_index_or new count 0 ≡ to
    here = get_or-set_same list count to 0 room

    before : (i : ℕ) → i < count → slice_index_or new i 0 ≡ slice_index_or list i 0
    before i less = get_or-set_other list count i to 0 (λ e. omega (arith, e, less))

-- the first so many of the list are the columns
pub listed_all : (d : Dictionary) (k : ℕ) (list : List ℕ) (count : ℕ) → length (take count list) ≡ count → AreListed d k list count (width d) → AreColumns d k (take count list)
listed_all d k list count size so_far = subst (λ n. AreListed d k (take count list) n (width d)) (sym size) (record {
  few = so_far.few;
  below = λ j less. omega (arith, same j less, so_far.below j less);
  between = λ j less. subst (λ a. IsSkip d k a (slice_index_or (take count list) j 0)) (sym (from_same list (take count list) count j same (omega (arith, less)))) (subst (IsSkip d k (from_place list j)) (sym (same j less)) (so_far.between j less));
  last = subst (λ a. IsSkip d k a (width d)) (sym (from_same list (take count list) count count same (omega arith))) so_far.last;
})
  where
    same : (i : ℕ) → i < count → slice_index_or (take count list) i 0 ≡ slice_index_or list i 0
    same i less = get_or-take count list i 0 less

-- updates of other rows keep the columns of the pivot row
pub columns_kept : (d e : Dictionary) (k j to : ℕ) (list : List ℕ) → AreRowsTo d k j to e → AreColumns d k list → AreColumns e k list
columns_kept d e k j to list rows columns = record {
  few = omega (arith, columns.few, same);
  below = λ i less. omega (arith, columns.below i less, same);
  between = λ i less. kept (from_place list i) (slice_index_or list i 0) (columns.between i less);
  last = subst (IsSkip e k (from_place list (length list))) (sym same) (kept (from_place list (length list)) (width d) columns.last);
}
  where
    same : width e ≡ width d
    same = ap length rows.names.nonbasics

    kept : (a b : ℕ) → IsSkip d k a b → IsSkip e k a b
    kept a b skip = record { low = skip.low; zero = λ u low less high. rows.pivot_row u (omega (arith, high, same)) ∙ skip.zero u low less (omega (arith, high, same)) }

-- ---- a row that is updated
-- columns whose cell in the pivot row is 0 stay
pub row_gap : (d e : Dictionary) (k j i a b : ℕ) (factor : ℚ) → IsRowTo d k j i factor a e → IsSkip d k a b → IsRowTo d k j i factor b e
row_gap d e k j i a b factor so_far skip = record {
  names = so_far.names;
  others = so_far.others;
  before = λ u less high not_pivot. ⊎_elim (λ seen. so_far.before u seen high not_pivot) (λ low. so_far.after u low high ∙ reduced_zero (cell d i u) factor (cell d k u) (skip.zero u low less high)) (cases_lt u a);
  fits = λ u less high not_pivot. ⊎_elim (λ seen. so_far.fits u seen high not_pivot) (λ low. record { product = λ some. absurd (some (skip.zero u low less high)); difference = λ some. absurd (some (skip.zero u low less high)) }) (cases_lt u a);
  after = λ u low high. so_far.after u (omega (arith, low, skip.low)) high;
}

module _ (d e : Dictionary) (k j i index : ℕ) (factor : ℚ) (list : List ℕ) (columns : AreColumns d k list) (so_far : IsRowTo d k j i factor (from_place list index) e) where
  -- up to the column of a place
  pub row_here : index < length list → IsRowTo d k j i factor (slice_index_or list index 0) e
  row_here less = row_gap d e k j i (from_place list index) (slice_index_or list index 0) factor so_far (columns.between index less)

  pub row_more : (f : Dictionary) → index < length list → k < height d → i < height d → i ≢ k → slice_index_or list index 0 ≢ j → IsSet e i (slice_index_or list index 0) (cell e i (slice_index_or list index 0) -ℚ factor *ℚ cell e k (slice_index_or list index 0)) f → CellFits e k i (slice_index_or list index 0) factor → IsRowTo d k j i factor (from_place list (index + 1)) f
  row_more f less k_high i_high apart other set fits = subst (λ to. IsRowTo d k j i factor to f) (sym (from_next list index)) (row_next d e f k j i (slice_index_or list index 0) factor k_high i_high (columns.below index less) apart other (row_here less) set fits)

  pub row_pivot : index < length list → slice_index_or list index 0 ≡ j → IsRowTo d k j i factor (from_place list (index + 1)) e
  row_pivot less is = subst (λ to. IsRowTo d k j i factor to e) (sym (from_next list index)) (row_skip d e k j i (slice_index_or list index 0) factor is (row_here less))

  pub row_all : index ≡ length list → IsRowTo d k j i factor (width d) e
  row_all end = row_gap d e k j i (from_place list index) (width d) factor so_far (subst (λ n. IsSkip d k (from_place list n) (width d)) (sym end) columns.last)

-- ---- the pivot row
divided_gap : (d e : Dictionary) (k j a b : ℕ) (factor : ℚ) → IsDividedTo d k j factor a e → IsSkip d k a b → IsDividedTo d k j factor b e
divided_gap d e k j a b factor so_far skip = record {
  names = so_far.names;
  others = so_far.others;
  cells = λ u less high not_pivot. ⊎_elim (λ seen. so_far.cells u seen high not_pivot) (λ low. so_far.after u low high ∙ times_zero (cell d k u) factor (skip.zero u low less high)) (cases_lt u a);
  fits = λ u less high not_pivot some. ⊎_elim (λ seen. so_far.fits u seen high not_pivot some) (λ low. absurd (some (skip.zero u low less high))) (cases_lt u a);
  after = λ u low high. so_far.after u (omega (arith, low, skip.low)) high;
}

module _ (d e : Dictionary) (k j index : ℕ) (factor : ℚ) (list : List ℕ) (columns : AreColumns d k list) (so_far : IsDividedTo d k j factor (from_place list index) e) where
  pub divided_here : index < length list → IsDividedTo d k j factor (slice_index_or list index 0) e
  divided_here less = divided_gap d e k j (from_place list index) (slice_index_or list index 0) factor so_far (columns.between index less)

  pub divided_more : (f : Dictionary) → index < length list → k < height d → slice_index_or list index 0 ≢ j → IsSet e k (slice_index_or list index 0) (cell e k (slice_index_or list index 0) *ℚ factor) f → (cell e k (slice_index_or list index 0) ≢ zero_ℚ → Fits (cell e k (slice_index_or list index 0) *ℚ factor)) → IsDividedTo d k j factor (from_place list (index + 1)) f
  divided_more f less k_high other set fits = subst (λ to. IsDividedTo d k j factor to f) (sym (from_next list index)) (divided_next d e f k j (slice_index_or list index 0) factor k_high (columns.below index less) other (divided_here less) set fits)

  pub divided_pivot : index < length list → slice_index_or list index 0 ≡ j → IsDividedTo d k j factor (from_place list (index + 1)) e
  divided_pivot less is = subst (λ to. IsDividedTo d k j factor to e) (sym (from_next list index)) (divided_skip d e k j (slice_index_or list index 0) factor is (divided_here less))

  pub divided_all : index ≡ length list → IsDividedTo d k j factor (width d) e
  divided_all end = divided_gap d e k j (from_place list index) (width d) factor so_far (subst (λ n. IsSkip d k (from_place list n) (width d)) (sym end) columns.last)

-- ---- the entering column
no_candidate : (d : Dictionary) (k a b t : ℕ) → IsSkip d k a b → a ≤ t → t < b → IsCandidate d k t → ⊥
no_candidate d k a b t skip low less candidate = candidate.positive (subst (λ x. x ≤ℚ zero_ℚ) (sym (skip.zero t low less candidate.high)) (Q.le_refl zero_ℚ))

best_gap : (d : Dictionary) (k a b : ℕ) (best : Option (ℕ × ℚ)) → IsBestOrNone d k a best → IsSkip d k a b → IsBestOrNone d k b best
best_gap d k a b None before skip = λ t less candidate. ⊎_elim (λ seen. before t seen candidate) (λ low. no_candidate d k a b t skip low less candidate) (cases_lt t a)
best_gap d k a b (Some (j, y)) old skip = record {
  candidate = old.candidate;
  ratio = old.ratio;
  least = λ t less candidate. ⊎_elim (λ seen. old.least t seen candidate) (λ low. absurd (no_candidate d k a b t skip low less candidate)) (cases_lt t a);
  ties = λ t less candidate. ⊎_elim (λ seen. old.ties t seen candidate) (λ low. absurd (no_candidate d k a b t skip low less candidate)) (cases_lt t a);
}

fit_gap : (d : Dictionary) (k a b : ℕ) → RatiosFitTo d k a → IsSkip d k a b → RatiosFitTo d k b
fit_gap d k a b so_far skip t less candidate = ⊎_elim (λ seen. so_far t seen candidate) (λ low. absurd (no_candidate d k a b t skip low less candidate)) (cases_lt t a)

module _ (d : Dictionary) (k index : ℕ) (list : List ℕ) (columns : AreColumns d k list) where
  pub best_more : (best next : Option (ℕ × ℚ)) → index < length list → IsBestOrNone d k (from_place list index) best → IsBetter d k best (slice_index_or list index 0) next → IsBestOrNone d k (from_place list (index + 1)) next
  best_more best next less so_far step = subst (λ to. IsBestOrNone d k to next) (sym (from_next list index)) (best_next d k (slice_index_or list index 0) best next (best_gap d k (from_place list index) (slice_index_or list index 0) best so_far (columns.between index less)) step)

  pub fit_more : (best next : Option (ℕ × ℚ)) → index < length list → RatiosFitTo d k (from_place list index) → IsBetter d k best (slice_index_or list index 0) next → RatiosFitTo d k (from_place list (index + 1))
  fit_more best next less so_far step = subst (RatiosFitTo d k) (sym (from_next list index)) (fit_next d k (slice_index_or list index 0) best next (fit_gap d k (from_place list index) (slice_index_or list index 0) so_far (columns.between index less)) step)

  pub best_all : (best : Option (ℕ × ℚ)) → index ≡ length list → IsBestOrNone d k (from_place list index) best → IsBestOrNone d k (width d) best
  best_all best end so_far = best_gap d k (from_place list index) (width d) best so_far (subst (λ n. IsSkip d k (from_place list n) (width d)) (sym end) columns.last)

  pub fit_all : index ≡ length list → RatiosFitTo d k (from_place list index) → RatiosFitTo d k (width d)
  fit_all end so_far = fit_gap d k (from_place list index) (width d) so_far (subst (λ n. IsSkip d k (from_place list n) (width d)) (sym end) columns.last)
