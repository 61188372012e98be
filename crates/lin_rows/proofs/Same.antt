-- The largest totals of a problem are one, and so is the row of each name.
use Rattle.std.proofs.Common.{◌≡◌, ℕ, refl, ap, Bool, List, [], ◌∷◌}
use Rattle.std.specs.Prelude.{ℤ, pos, negsuc}
use Rattle.lot_sizing.specs.Problem.{EachItem, Problem, item_at}
use Rattle.lin_rows.specs.declared.row.Term.{Term}
use Rattle.lin_rows.specs.declared.base.RowName.{RowName}
use Rattle.lin_rows.specs.declared.base.RowName.TheVariants.{Balance, Link, Capacity, EndMin, EndMax, Top, Least, Late, Path, Cut}
use Rattle.lin_rows.specs.declared.column.Column.TheVariants.{X, Y}
use Rattle.lin_rows.specs.Base.{HasRow, all_terms, is_equality, right_side, row_of, some_terms, term, within_bound}
use Rattle.lin_rows.specs.Rows.{LinRow}

same_terms : (m : Problem) (a b : ℕ → ℕ) (name : RowName) → EachItem m (λ i. a i ≡ b i) → HasRow m name → all_terms m a name ≡ all_terms m b name
same_terms m a b (Balance i t) same h = refl
same_terms m a b (Link i t) same h = ap (λ n. term (X i t) (negsuc 0) ∷ (term (Y i t) (pos (within_bound n (item_at m i).max_lot)) ∷ [])) (same i h.0 h.1)
same_terms m a b (Capacity k t) same h = refl
same_terms m a b (EndMin i) same h = refl
same_terms m a b (EndMax i) same h = refl
same_terms m a b (Top i t) same h = refl
same_terms m a b (Least i t) same h = refl
same_terms m a b (Late i t) same h = refl
same_terms m a b (Path n) same h = refl
same_terms m a b (Cut n) same h = refl

abbrev row_by : List Term → ℤ → Bool → LinRow
row_by terms right equal = record { terms = some_terms terms; right = right; equal = equal }

pub one_row : (m : Problem) (a b : ℕ → ℕ) (name : RowName) → EachItem m (λ i. a i ≡ b i) → HasRow m name → row_of m a name ≡ row_of m b name
one_row m a b name same h = ap (λ ts. row_by ts (right_side m name) (is_equality name)) (same_terms m a b name same h)
