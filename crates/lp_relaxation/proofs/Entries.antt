-- What the program's rows say of a point.
use Rattle.std.proofs.Common.{◌≡◌, ◌≤◌, ◌<◌, ◌+◌, ◌-◌, ◌∙◌, ℕ, zero, suc, refl, sym, ap, subst, arith, Bool, true, false, List, [], ◌∷◌, ◌++◌, length, slice_index_or}
use Rattle.std.specs.Prelude.{if◌then◌else◌, ◌==◌, map, ℤ, pos, ◌+ℤ◌, ◌*ℤ◌, ◌≤ℤ◌, ⊤}
use Rattle.std.specs.List.{All}
use Rattle.std.proofs.lemmas.List.Elements.{All-head, All-tail}
use Rattle.algebra.proofs.Integers.{mul_comm, mul_neg}
use Rattle.algebra.proofs.Order.{linear}
use Rattle.algebra.proofs.Ordered.{mul_le}
use Rattle.algebra.proofs.Rings.{con, ◌⊕◌, ◌⊗◌, ◌⊜◌, ring1, ring3, ring4}
use Rattle.algebra.proofs.Sums.{sum-add, sum-only, sum-same, sum-zero}
use Rattle.rational.specs.Rational.{ℚ, whole, ◌+ℚ◌, ◌*ℚ◌, ◌≤ℚ◌}
use Rattle.rational.proofs.Rationals.{rational_ring, rational_ordered, whole-add, whole-mul}
use Rattle.rational.proofs.Facts.{whole-le, le-whole}
use Rattle.lot_sizing.specs.Problem.{Problem}
use Rattle.lin_rows.specs.declared.column.Column.{Column}
use Rattle.lin_rows.specs.declared.row.Term.{Term}
use Rattle.lin_rows.specs.declared.base.RowName.{RowName}
use Rattle.lin_rows.specs.Columns.{IsColumn, number_of}
use Rattle.lin_rows.specs.Rows.{IsHeld, LinPoint, LinRow, sum_at}
use Rattle.tableau.specs.Program.{Inequality, empty_row, sum_ℚ, times_of, zero_ℚ}
use Rattle.lin_rows.specs.Combining.{AllHold, AreOfProblem}
use Rattle.lp_relaxation.specs.Sides.{all_sides, side_inequality, lp_term, sides_of, turn, turned_row}
use Rattle.lp_relaxation.specs.Says.{HasFractions}
use Rattle.lp_relaxation.proofs.Numbering.{Exists, turn_add, turn_times, turn_zero}

-- the columns of the problem are among the first n
abbrev pub AreAmong : Problem → ℕ → Type 0
AreAmong m n = (c : Column) → IsColumn m c → (1 ≤ number_of m c) × (number_of m c ≤ n)

if_same : (a b : ℕ) (x y : ℤ) → a ≡ b → (if a == b then x else y) ≡ x
if_same a b x y e = grind (arith, e)

if_other : (a b : ℕ) (x y : ℤ) → (a ≡ b → ⊥) → (if a == b then x else y) ≡ y
if_other a b x y e = grind (arith, e)

module _ (m : Problem) (n : ℕ) (among : AreAmong m n) (x : ℕ → ℚ) (b : Bool) where
  -- what the program takes of the columns
  abbrev taken : List Term → ℚ
  taken ts = sum_ℚ n (λ c. whole (times_of (map (lp_term m b) ts) (c + 1)) *ℚ x c)

  none_taken : taken [] ≡ zero_ℚ
  none_taken = sum-zero rational_ring n (λ c. whole (pos 0) *ℚ x c) (λ c less. ring1 rational_ring (λ a. con (pos 0) ⊗ a ⊜ con (pos 0)) refl (x c))

  -- one term takes its column alone
  one_term : (a : Term) → IsColumn m a.column → sum_ℚ n (λ c. whole (if number_of m a.column == c + 1 then turn b a.times else pos 0) *ℚ x c) ≡ whole (turn b a.times) *ℚ x (number_of m a.column - 1)
  one_term a is =
      let k = number_of m a.column - 1 in
      let place = among a.column is in
      let same : number_of m a.column ≡ k + 1 = omega (arith, place.0) in
      sum-only rational_ring n k (λ c. whole (if number_of m a.column == c + 1 then turn b a.times else pos 0) *ℚ x c) (omega (arith, place.0, place.1)) (λ c less apart. ap (λ z. whole z *ℚ x c) (if_other (number_of m a.column) (c + 1) (turn b a.times) (pos 0) (λ e. apart (omega (arith, e, same)))) ∙ ring1 rational_ring (λ a. con (pos 0) ⊗ a ⊜ con (pos 0)) refl (x c))
      ∙ ap (λ z. whole z *ℚ x k) (if_same (number_of m a.column) (k + 1) (turn b a.times) (pos 0) same)

  more_taken : (a : Term) (ts : List Term) → IsColumn m a.column → taken (a ∷ ts) ≡ whole (turn b a.times) *ℚ x (number_of m a.column - 1) +ℚ taken ts
  more_taken a ts is =
      let first = λ (c : ℕ). if number_of m a.column == c + 1 then turn b a.times else pos 0 in
      let rest = λ (c : ℕ). times_of (map (lp_term m b) ts) (c + 1) in
      sum-same rational_ring n (λ c. whole (first c +ℤ rest c) *ℚ x c) (λ c. whole (first c) *ℚ x c +ℚ whole (rest c) *ℚ x c) (λ c less. ap (λ z. z *ℚ x c) (whole-add (first c) (rest c)) ∙ ring3 rational_ring (λ a b c. (a ⊕ b) ⊗ c ⊜ a ⊗ c ⊕ b ⊗ c) refl (whole (first c)) (whole (rest c)) (x c))
      ∙ sum-add rational_ring n (λ c. whole (first c) *ℚ x c) (λ c. whole (rest c) *ℚ x c)
      ∙ ap (λ z. z +ℚ taken ts) (one_term a is)

  -- a row of the program at a point
  pub row_at_point : (q : LinPoint) → HasFractions m x q → (ts : List Term) → All (Exists m) ts → whole (pos q.den) *ℚ taken ts ≡ whole (turn b (sum_at q.values ts))
  row_at_point q point [] each = ap (λ z. whole (pos q.den) *ℚ z) none_taken ∙ ring1 rational_ring (λ a. a ⊗ con (pos 0) ⊜ con (pos 0)) refl (whole (pos q.den)) ∙ ap whole (sym (turn_zero b))
  row_at_point q point (a ∷ ts) each =
      let is = All-head (Exists m) a ts each in
      let v = pos (q.values a.column) in
      let k = number_of m a.column - 1 in
      let d = whole (pos q.den) in
      ap (λ z. d *ℚ z) (more_taken a ts is)
      ∙ ring4 rational_ring (λ d t x s. d ⊗ (t ⊗ x ⊕ s) ⊜ t ⊗ (d ⊗ x) ⊕ d ⊗ s) refl d (whole (turn b a.times)) (x k) (taken ts)
      ∙ ap (λ z. whole (turn b a.times) *ℚ z +ℚ d *ℚ taken ts) (sym (point a.column is))
      ∙ ap (λ z. whole (turn b a.times) *ℚ whole v +ℚ z) (row_at_point q point ts (All-tail (Exists m) a ts each))
      ∙ ap (λ z. z +ℚ whole (turn b (sum_at q.values ts))) (sym (whole-mul (turn b a.times) v) ∙ ap whole (turn_times b a.times v))
      ∙ sym (whole-add (turn b (a.times *ℤ v)) (turn b (sum_at q.values ts)))
      ∙ ap whole (sym (turn_add b (a.times *ℤ v) (sum_at q.values ts)))

-- ---- rows that are met
abbrev pub Fits : ℕ → (ℕ → ℚ) → Inequality → Type 0
Fits n x i = whole i.right ≤ℚ sum_ℚ n (λ c. whole (times_of i.terms (c + 1)) *ℚ x c)

abbrev pub EachFits : ℕ → (ℕ → ℚ) → List Inequality → Type 0
EachFits n x [] = ⊤
EachFits n x (i ∷ rows) = Fits n x i × EachFits n x rows

pub each_fits : (n : ℕ) (x : ℕ → ℚ) (rows : List Inequality) → ((k : ℕ) → k < length rows → Fits n x (slice_index_or rows k empty_row)) → EachFits n x rows
each_fits n x [] all = tt
each_fits n x (i ∷ rows) all = (all zero (omega arith), each_fits n x rows (λ k less. all (suc k) (omega (arith, less))))

module _ (m : Problem) (n : ℕ) (among : AreAmong m n) (x : ℕ → ℚ) (q : LinPoint) (point : HasFractions m x q) where
  -- a side that the fractions meet
  side_met : (b : Bool) (r : LinRow) → All (Exists m) r.terms → Fits n x (turned_row m b r) → (pos q.den *ℤ turn b r.right) ≤ℤ turn b (sum_at q.values r.terms)
  side_met b r each fits =
      le-whole (pos q.den *ℤ turn b r.right) (turn b (sum_at q.values r.terms))
      (subst (λ z. z ≤ℚ whole (turn b (sum_at q.values r.terms))) (sym (whole-mul (pos q.den) (turn b r.right)))
      (subst (λ z. whole (pos q.den) *ℚ whole (turn b r.right) ≤ℚ z) (row_at_point m n among x b q point r.terms each)
      (mul_le rational_ordered (whole (pos q.den)) (whole (turn b r.right)) _ (whole-le (pos 0) (pos q.den) (omega (arith, linear))) fits)))

  -- both sides of an equal row, or the one of another
  row_met : (row : RowName → LinRow) (name : RowName) (e : Bool) (rest : List Inequality) → All (Exists m) (row name).terms → EachFits n x (map (side_inequality m row) (sides_of name e) ++ rest) → IsHeld e (sum_at q.values (row name).terms) ((row name).right *ℤ pos q.den) × EachFits n x rest
  row_met row name true rest each fits =
      let r = row name in
      let below = side_met false r each fits.0 in
      let above = side_met true r each fits.1.0 in
      (omega (arith, linear, below, above, mul_neg (pos q.den) r.right, mul_comm (pos q.den) r.right), fits.1.1)
  row_met row name false rest each fits =
      let r = row name in
      (omega (arith, linear, side_met false r each fits.0, mul_comm (pos q.den) r.right), fits.1)

  map_append : (row : RowName → LinRow) (name : RowName) (e : Bool) (names : List RowName) → map (side_inequality m row) (sides_of name e ++ all_sides row names) ≡ map (side_inequality m row) (sides_of name e) ++ map (side_inequality m row) (all_sides row names)
  map_append row name true names = refl
  map_append row name false names = refl

  pub rows_met : (row : RowName → LinRow) (names : List RowName) → AreOfProblem m (map row names) → EachFits n x (map (side_inequality m row) (all_sides row names)) → AllHold q (map row names)
  rows_met row [] each fits = tt
  rows_met row (name ∷ names) each fits =
      let both = row_met row name (row name).equal (map (side_inequality m row) (all_sides row names)) each.0 (subst (EachFits n x) (map_append row name (row name).equal names) fits) in
      (both.0, rows_met row names each.1 both.1)
