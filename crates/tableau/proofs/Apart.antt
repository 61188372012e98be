-- Dictionaries whose constants stand apart, and the marks of their cells.
use Rattle.std.proofs.Common.{◌≡◌, ◌≢◌, ◌⊎◌, ◌<◌, ◌+◌, ◌-◌, ◌*◌, ◌/◌, ◌%◌, ◌∙◌, ⊎_elim, ℕ, zero, suc, refl, sym, ap, subst, arith, inl, inr, List, length, slice_index_or, get_or-set_other, ◌^◌}
use Rattle.std.specs.Prelude.{bit_or, slice_set}
use Rattle.std.proofs.lemmas.Bool.{cases_eq}
use Rattle.std.proofs.lemmas.List.{get_or-set_same, get_or_default, length-set}
use Rattle.std.proofs.lemmas.Nat.{div-mul-add, mod-mul-add, mul-add-lt, same_from_place}
use Rattle.std.proofs.lemmas.Nat.Bits.{bit_at_set_other, bit_at_set_same}
use Rattle.std.specs.Int.{bit_at, w64}
use mir.Val.{bits}
use Rattle.rational.specs.Rational.{ℚ}
use Rattle.tableau.specs.Program.{Program, column_count, row_count, zero_ℚ}
use Rattle.tableau.specs.Dictionary.{Dictionary, cell, height, width}
use Rattle.tableau.specs.Held.{IsClear, cell_of, cells_of, dictionary_of, values_of}
use Rattle.tableau.specs.Starts.{AreVariables, IsBlank}
use Rattle.tableau.specs.Steps.{IsSet}

values_at : (n k : ℕ) (f : ℕ → ℚ) → k < n → slice_index_or (values_of n f) k zero_ℚ ≡ f k
unfolding values_of
values_at zero k f less = absurd (omega (arith, less))
values_at (suc n) zero f less = refl
values_at (suc n) (suc k) f less = values_at n k (λ j. f (suc j)) (omega (arith, less))

turned : (a b : ℕ) → a * b ≡ b * a
turned a b = omega arith

pub cell_is : (b n : List ℕ) (cs xs : List ℚ) (i t : ℕ) → i < length b → t < length n → cell (dictionary_of b n cs xs) i t ≡ cell_of cs xs (length n) i t
cell_is b n cs xs i t i_high t_high =
    let w = length n in
    values_at (length b * w) (i * w + t) (λ k. cell_of cs xs w (k / w) (k % w)) (omega (arith, mul-add-lt i w t (length b) i_high t_high, turned (length b) w))
    ∙ ap (λ j. cell_of cs xs w j ((i * w + t) % w)) (div-mul-add i w t t_high)
    ∙ ap (cell_of cs xs w i) (mod-mul-add i w t t_high)

pub constant_is : (cs xs : List ℚ) (w i t : ℕ) → t ≡ 0 → cell_of cs xs w i t ≡ slice_index_or cs i zero_ℚ
constant_is cs xs w i t e = grind (arith, e)

pub other_is : (cs xs : List ℚ) (w i t : ℕ) → t ≢ 0 → cell_of cs xs w i t ≡ slice_index_or xs (i * (w - 1) + (t - 1)) zero_ℚ
other_is cs xs w i t e = grind (arith, e)

-- the place of a cell that isn't a constant
pub place_high : (h w i t : ℕ) → i < h → t < w → t ≢ 0 → i * (w - 1) + (t - 1) < h * (w - 1)
place_high h w i t i_high t_high some = omega (arith, mul-add-lt i (w - 1) (t - 1) h i_high (omega (arith, t_high, some)), turned h (w - 1))

-- ---- one cell is another
pub record IsReplaced (cs xs ds ys : List ℚ) (w i t : ℕ) (x : ℚ) : Type 0 where
  pub here : cell_of ds ys w i t ≡ x
  pub others : (h u : ℕ) → u < w → (h ≢ i) ⊎ (u ≢ t) → cell_of ds ys w h u ≡ cell_of cs xs w h u

pub replaced_constant : (cs xs : List ℚ) (w i t : ℕ) (x : ℚ) → t ≡ 0 → i < length cs → IsReplaced cs xs (slice_set cs i x) xs w i t x
replaced_constant cs xs w i t x first high = record {
  here = constant_is (slice_set cs i x) xs w i t first ∙ get_or-set_same cs i x zero_ℚ high;
  others = λ h u u_high apart. ⊎_elim
      (λ is. constant_is (slice_set cs i x) xs w h u is ∙ get_or-set_other cs i h x zero_ℚ (⊎_elim (λ row. row) (λ column. absurd (column (is ∙ sym first))) apart) ∙ sym (constant_is cs xs w h u is))
      (λ some. other_is (slice_set cs i x) xs w h u some ∙ sym (other_is cs xs w h u some))
      (cases_eq u 0);
}

pub replaced_cell : (cs xs : List ℚ) (w i t : ℕ) (x : ℚ) → t ≢ 0 → t < w → i * (w - 1) + (t - 1) < length xs → IsReplaced cs xs cs (slice_set xs (i * (w - 1) + (t - 1)) x) w i t x
replaced_cell cs xs w i t x later t_high high =
    let place = i * (w - 1) + (t - 1) in
    record {
      here = other_is cs (slice_set xs place x) w i t later ∙ get_or-set_same xs place x zero_ℚ high;
      others = λ h u u_high apart. ⊎_elim
          (λ is. constant_is cs (slice_set xs place x) w h u is ∙ sym (constant_is cs xs w h u is))
          (λ some.
          other_is cs (slice_set xs place x) w h u some
          ∙ get_or-set_other xs place (h * (w - 1) + (u - 1)) x zero_ℚ (λ same.
          let both = same_from_place h (u - 1) i (t - 1) (w - 1) (omega (arith, u_high, some)) (omega (arith, t_high, later)) same in
          ⊎_elim (λ row. row both.0) (λ column. column (omega (arith, both.1, some, later))) apart)
          ∙ sym (other_is cs xs w h u some))
          (cases_eq u 0);
    }

pub set_is : (b n : List ℕ) (cs xs ds ys : List ℚ) (i t : ℕ) (x : ℚ) → i < length b → t < length n → IsReplaced cs xs ds ys (length n) i t x → IsSet (dictionary_of b n cs xs) i t x (dictionary_of b n ds ys)
set_is b n cs xs ds ys i t x i_high t_high replaced = record {
  names = record { basics = refl; nonbasics = refl };
  here = cell_is b n ds ys i t i_high t_high ∙ replaced.here;
  others = λ h u h_high u_high apart. cell_is b n ds ys h u h_high u_high ∙ replaced.others h u u_high apart ∙ sym (cell_is b n cs xs h u h_high u_high);
}

-- ---- the marks
abbrev pub AreMarked : List ℕ → List ℚ → List ℚ → ℕ → ℕ → Type 0
AreMarked marks cs xs h w = (i t : ℕ) → i < h → t < w → IsClear marks (i * w + t) → cell_of cs xs w i t ≡ zero_ℚ

pub marks_kept : (old new : List ℕ) (cs xs ds ys : List ℚ) (h w i t : ℕ) (x : ℚ) → AreMarked old cs xs h w → ((place : ℕ) → IsClear new place → IsClear old place) → (IsClear new (i * w + t) → ⊥) → IsReplaced cs xs ds ys w i t x → AreMarked new ds ys h w
marks_kept old new cs xs ds ys h w i t x marked kept here replaced g u g_high u_high clear =
    ⊎_elim
    (λ row. ⊎_elim
    (λ column. absurd (here (subst (λ v. IsClear new (i * w + v)) column (subst (λ k. IsClear new (k * w + u)) row clear))))
    (λ apart. replaced.others g u u_high (inr apart) ∙ marked g u g_high u_high (kept (g * w + u) clear))
    (cases_eq u t))
    (λ apart. replaced.others g u u_high (inl apart) ∙ marked g u g_high u_high (kept (g * w + u) clear))
    (cases_eq g i)

-- ---- names that change places
pub cells_same : (b n c m : List ℕ) (cs xs : List ℚ) → length c ≡ length b → length m ≡ length n → cells_of cs xs (length c) (length m) ≡ cells_of cs xs (length b) (length n)
cells_same b n c m cs xs rows columns = ap (λ h. cells_of cs xs h (length m)) rows ∙ ap (cells_of cs xs (length b)) columns

-- ---- what is read
module _ (b n : List ℕ) (cs xs : List ℚ) (d : Dictionary) (i t : ℕ) (view : dictionary_of b n cs xs ≡ d) (i_high : i < height d) (t_high : t < width d) where
  row_high : i < length b
  row_high = subst (λ e. i < height e) (sym view) i_high

  column_high : t < length n
  column_high = subst (λ e. t < width e) (sym view) t_high

  held : cell_of cs xs (length n) i t ≡ cell d i t
  held = sym (cell_is b n cs xs i t row_high column_high) ∙ ap (λ e. cell e i t) view

  pub constant_held : (x : ℚ) → t ≡ 0 → length cs ≡ length b → x ≡ slice_index_or cs i x → x ≡ cell d i t
  constant_held x first size is = is ∙ get_or_default cs i x zero_ℚ (omega (arith, row_high, size)) ∙ sym (constant_is cs xs (length n) i t first) ∙ held

  pub other_held : (x : ℚ) (w : ℕ) → t ≢ 0 → w ≡ length n → length xs ≡ length b * (length n - 1) → x ≡ slice_index_or xs (i * (w - 1) + (t - 1)) x → x ≡ cell d i t
  other_held x w some same size is =
      is
      ∙ ap (λ v. slice_index_or xs (i * (v - 1) + (t - 1)) x) same
      ∙ get_or_default xs (i * (length n - 1) + (t - 1)) x zero_ℚ (omega (arith, place_high (length b) (length n) i t row_high column_high some, size))
      ∙ sym (other_is cs xs (length n) i t some) ∙ held

  -- the place of its mark
  pub mark_is : (place : ℕ) → place ≡ i * width d + t → place ≡ i * length n + t
  mark_is place is = is ∙ ap (λ e. i * width e + t) (sym view)

  pub zero_held : (marks : List ℕ) (place : ℕ) → place ≡ i * width d + t → AreMarked marks cs xs (length b) (length n) → IsClear marks place → cell d i t ≡ zero_ℚ
  zero_held marks place is marked clear = sym held ∙ marked i t row_high column_high (subst (IsClear marks) (mark_is place is) clear)

  pub marked_held : (old new : List ℕ) (ds ys : List ℚ) (x : ℚ) (place : ℕ) → place ≡ i * width d + t → AreMarked old cs xs (length b) (length n) → ((other : ℕ) → IsClear new other → IsClear old other) → (IsClear new place → ⊥) → IsReplaced cs xs ds ys (length n) i t x → AreMarked new ds ys (length b) (length n)
  marked_held old new ds ys x place is marked kept here replaced = marks_kept old new cs xs ds ys (length b) (length n) i t x marked kept (λ clear. here (subst (IsClear new) (sym (mark_is place is)) clear)) replaced

  pub set_held : (ds ys : List ℚ) (x : ℚ) → IsReplaced cs xs ds ys (length n) i t x → IsSet d i t x (dictionary_of b n ds ys)
  set_held ds ys x replaced = subst (λ e. IsSet e i t x (dictionary_of b n ds ys)) view (set_is b n cs xs ds ys i t x row_high column_high replaced)

  pub constant_set : (x : ℚ) → t ≡ 0 → length cs ≡ length b → IsReplaced cs xs (slice_set cs i x) xs (length n) i t x
  constant_set x first size = replaced_constant cs xs (length n) i t x first (omega (arith, row_high, size))

  pub other_set : (x : ℚ) (w : ℕ) → t ≢ 0 → w ≡ length n → length xs ≡ length b * (length n - 1) → IsReplaced cs xs cs (slice_set xs (i * (w - 1) + (t - 1)) x) (length n) i t x
  other_set x w some same size = subst (λ v. IsReplaced cs xs cs (slice_set xs (i * (v - 1) + (t - 1)) x) (length n) i t x) (sym same) (replaced_cell cs xs (length n) i t x some column_high (omega (arith, place_high (length b) (length n) i t row_high column_high some, size)))

-- where all stored numbers are 0, so are the cells
pub cell_blank : (cs xs : List ℚ) (w i t : ℕ) → ((k : ℕ) → slice_index_or cs k zero_ℚ ≡ zero_ℚ) → ((k : ℕ) → slice_index_or xs k zero_ℚ ≡ zero_ℚ) → cell_of cs xs w i t ≡ zero_ℚ
cell_blank cs xs w i t constants cells = ⊎_elim (λ is. constant_is cs xs w i t is ∙ constants i) (λ some. other_is cs xs w i t some ∙ cells (i * (w - 1) + (t - 1))) (cases_eq t 0)

pub is_blank : (p : Program) (b n : List ℕ) (cs xs : List ℚ) (columns rows v : ℕ) → columns ≡ column_count p → rows ≡ row_count p → AreVariables columns (rows + 1) b → AreVariables 0 (columns + 1) n → v ≡ columns + 1 + rows → ((k : ℕ) → slice_index_or cs k zero_ℚ ≡ zero_ℚ) → ((k : ℕ) → slice_index_or xs k zero_ℚ ≡ zero_ℚ) → IsBlank p (dictionary_of (slice_set b 0 v) n cs xs)
is_blank p b n cs xs columns rows v columns_is rows_is basic nonbasic v_is constants cells = record {
  rows = omega (arith, length-set b 0 v, basic.size, rows_is);
  columns = omega (arith, nonbasic.size, columns_is);
  first = omega (arith, get_or-set_same b 0 v 0 (omega (arith, basic.size)), v_is, columns_is, rows_is);
  slacks = λ k less. omega (arith, get_or-set_other b 0 (k + 1) v 0 (λ e. omega (arith, e)), basic.each (k + 1) (omega (arith, less, rows_is)), columns_is);
  names = λ t less. omega (arith, nonbasic.each t (omega (arith, less, nonbasic.size)));
  zero = λ i t i_high t_high. cell_is (slice_set b 0 v) n cs xs i t i_high t_high ∙ cell_blank cs xs (length n) i t constants cells;
}

-- ---- one mark more
module _ (marks : List ℕ) (place : ℕ) (room : place / 64 < length marks) where
  abbrev word : ℕ
  word = bit_or (slice_index_or marks (place / 64) 0) (1 * 2 ^ (place % 64) % 18446744073709551616)

  within : place % 64 < bits w64
  within = omega arith

  here_is : slice_index_or (slice_set marks (place / 64) word) (place / 64) 0 ≡ word
  here_is = get_or-set_same marks (place / 64) word 0 room

  pub mark_here : IsClear (slice_set marks (place / 64) word) place → ⊥
  mark_here clear = omega (arith, sym (ap (λ m. bit_at m (place % 64)) here_is) ∙ clear, bit_at_set_same w64 (slice_index_or marks (place / 64) 0) (place % 64) within)

  pub mark_kept : (other : ℕ) → IsClear (slice_set marks (place / 64) word) other → IsClear marks other
  mark_kept other clear = ⊎_elim
      (λ same. ⊎_elim
      (λ bit. absurd (mark_here (subst (λ i. bit_at (slice_index_or (slice_set marks (place / 64) word) i 0) (place % 64) ≡ 0) same (subst (λ k. bit_at (slice_index_or (slice_set marks (place / 64) word) (other / 64) 0) k ≡ 0) bit clear))))
      (λ bit. ap (λ i. bit_at (slice_index_or marks i 0) (other % 64)) same ∙ sym (bit_at_set_other w64 (slice_index_or marks (place / 64) 0) (place % 64) within (other % 64) bit) ∙ sym (ap (λ m. bit_at m (other % 64)) (ap (λ i. slice_index_or (slice_set marks (place / 64) word) i 0) same ∙ here_is)) ∙ clear)
      (cases_eq (other % 64) (place % 64)))
      (λ apart. ap (λ m. bit_at m (other % 64)) (sym (get_or-set_other marks (place / 64) (other / 64) word 0 apart)) ∙ clear)
      (cases_eq (other / 64) (place / 64))
