-- The values of a point stand at the numbers of the columns.
use Rattle.std.proofs.Common.{◌≡◌, ◌≤◌, ◌<◌, ◌+◌, ◌-◌, ◌*◌, ◌∙◌, ◌⊎◌, ⊎_elim, inl, inr, ℕ, zero, suc, refl, sym, ap, arith, Bool, true, false, List, [], ◌∷◌, length, slice_index_or, slice_set}
use Rattle.std.specs.Prelude.{if◌then◌else◌, ◌&&◌, nat_lt, is_some, IsSome, Option, ◌==◌, Some, None, pos}
use Rattle.std.proofs.lemmas.Bool.{cases_eq}
use Rattle.std.proofs.lemmas.List.{get_or-set_other, get_or-set_same, get_or_past}
use Rattle.rational.specs.Rational.{ℚ, whole}
use Rattle.lot_sizing.specs.Sums.{sum_to}
use Rattle.lot_sizing.specs.Problem.{Problem, item_at, item_count}
use Rattle.lot_sizing.proofs.Sums.{sum_to_at}
use Rattle.lin_rows.specs.declared.column.Column.{Column}
use Rattle.lin_rows.specs.declared.column.Column.TheVariants.{X, Y, S, R}
use Rattle.lin_rows.specs.Columns.{IsColumn, cell_count, cell_number, number_of, owes, owing_count}
use Rattle.lin_rows.specs.Points.{IsPointOf, Pointed, has_column, number_in, owing_to, read_at}
use Rattle.lin_rows.specs.Sums.{IsColumnWithin, has_column_for}
use Rattle.lin_rows.proofs.Cells.{in_is, is_in}

three_true : (a b c : Bool) → a ≡ true → b ≡ true → c ≡ true → (a && (b && c)) ≡ true
three_true a b c x y z = grind (arith, x, y, z)

true_parts : (a b c : Bool) → (a && (b && c)) ≡ true → (a ≡ true) × (b ≡ true) × (c ≡ true)
true_parts a b c is = (grind (arith, is), grind (arith, is), grind (arith, is))

lt_is : (a b : ℕ) → a < b → nat_lt a b ≡ true
lt_is a b h = grind (arith, h)

is_lt : (a b : ℕ) → nat_lt a b ≡ true → a < b
is_lt a b is = grind (arith, is)

-- an item has a backlog cost exactly where it counts as one
owes_some : (o : Option (List ℕ)) → 1 ≤ (if is_some o then 1 else 0) → IsSome o
owes_some None h = absurd (omega (arith, h))
owes_some (Some x) h = refl

owes_one : (m : Problem) (i : ℕ) → IsSome (item_at m i).backlog_cost → owes m i ≡ 1
owes_one m i some = ap (λ b. if b then 1 else 0) some

-- what numbers the columns of a point is that of the problem
pub record IsShapeOf (m : Problem) (p : Pointed) : Type 0 where
  pub items : p.items ≡ item_count m
  pub periods : p.periods ≡ m.periods
  pub owing : (n : ℕ) → n ≤ item_count m → owing_to p n ≡ sum_to n (owes m)

module _ (m : Problem) (p : Pointed) (shape : IsShapeOf m p) where
  owing_step : (i : ℕ) → 1 ≤ i → i ≤ item_count m → owing_to p i ≡ owing_to p (i - 1) + owes m i
  owing_step i low high = omega (arith, shape.owing i high, shape.owing (i - 1) (omega (arith, high)), sum_to_at i (owes m) low)

  within : (c : Column) → IsColumnWithin (item_count m) m.periods c → has_column_for p.items p.periods c ≡ true
  within c h = in_is p.items p.periods c (h.0, omega (arith, h.1, shape.items), h.2, omega (arith, h.3, shape.periods))

  is_cell : (c : Column) → has_column_for p.items p.periods c ≡ true → IsColumnWithin (item_count m) m.periods c
  is_cell c is = let h = is_in p.items p.periods c is in (h.0, omega (arith, h.1, shape.items), h.2, omega (arith, h.3, shape.periods))

  has_of : (c : Column) → IsColumn m c → has_column p c ≡ true
  has_of (X i t) h = within (X i t) h
  has_of (Y i t) h = within (Y i t) h
  has_of (S i t) h = within (S i t) h
  has_of (R i t) h =
      three_true (has_column_for p.items p.periods (R i t)) (nat_lt t p.periods) (nat_lt (owing_to p (i - 1)) (owing_to p i)) (within (R i t) h.0)
      (lt_is t p.periods (omega (arith, h.1, shape.periods)))
      (lt_is (owing_to p (i - 1)) (owing_to p i) (omega (arith, owing_step i h.0.0 h.0.1, owes_one m i h.2)))

  of_has : (c : Column) → has_column p c ≡ true → IsColumn m c
  of_has (X i t) is = is_cell (X i t) is
  of_has (Y i t) is = is_cell (Y i t) is
  of_has (S i t) is = is_cell (S i t) is
  of_has (R i t) is =
      let (inside, before, more) = true_parts (has_column_for p.items p.periods (R i t)) (nat_lt t p.periods) (nat_lt (owing_to p (i - 1)) (owing_to p i)) is in
      let cell = is_cell (R i t) inside in
      (cell, omega (arith, is_lt t p.periods before, shape.periods), owes_some (item_at m i).backlog_cost (omega (arith, is_lt (owing_to p (i - 1)) (owing_to p i) more, owing_step i cell.0 cell.1)))

  cell_same : (i t : ℕ) → (i - 1) * p.periods + t ≡ cell_number m i t
  cell_same i t = ap (λ n. (i - 1) * n + t) shape.periods

  cells_same : p.items * p.periods ≡ cell_count m
  cells_same = ap (λ n. n * p.periods) shape.items ∙ ap (λ n. item_count m * n) shape.periods

  owing_same : (i : ℕ) → i ≤ item_count m → owing_to p (i - 1) * (p.periods - 1) ≡ owing_count m (i - 1)
  owing_same i high = ap (λ n. n * (p.periods - 1)) (shape.owing (i - 1) (omega (arith, high))) ∙ ap (λ n. sum_to (i - 1) (owes m) * (n - 1)) shape.periods

  same_number : (c : Column) → IsColumn m c → number_in p c ≡ number_of m c
  same_number (X i t) h = cell_same i t
  same_number (Y i t) h = omega (arith, cell_same i t, cells_same)
  same_number (S i t) h = omega (arith, cell_same i t, cells_same)
  same_number (R i t) h = omega (arith, owing_same i h.0.1, cells_same)

  lacks : (b : Bool) → (b ≡ true → ⊥) → b ≡ false
  lacks true wrong = absurd (wrong refl)
  lacks false wrong = refl

  pub is_point : (values : List ℚ) → p.values ≡ values → IsPointOf m values p
  is_point values same =
      let zero : ℚ = whole (pos 0) in
      record {
        value = λ c is.
            ap (λ b. if b then slice_index_or p.values (number_in p c - 1) zero else zero) (has_of c is)
            ∙ ap (λ n. slice_index_or p.values (n - 1) zero) (same_number c is)
            ∙ ap (λ vs. slice_index_or vs (number_of m c - 1) zero) same;
        none = λ c no. ap (λ b. if b then slice_index_or p.values (number_in p c - 1) zero else zero) (lacks (has_column p c) (λ is. no (of_has c is)));
      }

-- ---- how many of the first items have a backlog cost
-- one more item is counted
pub counts_next : (m : Problem) (counts : List ℕ) (i v : ℕ) → 1 ≤ i → i < length counts → v ≡ slice_index_or counts (i - 1) 0 + owes m i → ((n : ℕ) → n < i → slice_index_or counts n 0 ≡ sum_to n (owes m)) → (n : ℕ) → n < i + 1 → slice_index_or (slice_set counts i v) n 0 ≡ sum_to n (owes m)
counts_next m counts i v low less is so_far n high =
    ⊎_elim
    (λ same.
    let here : slice_index_or (slice_set counts i v) i 0 ≡ sum_to i (owes m) = omega (arith, get_or-set_same counts i v 0 less, is, so_far (i - 1) (omega (arith, low)), sum_to_at i (owes m) low) in
    ap (λ k. slice_index_or (slice_set counts i v) k 0) same ∙ here ∙ ap (λ k. sum_to k (owes m)) (sym same))
    (λ before. get_or-set_other counts i n v 0 (λ e. omega (arith, e, before)) ∙ so_far n before)
    (same_or_before n i (omega (arith, high)))
  where
    same_or_before : (n i : ℕ) → n ≤ i → (n ≡ i) ⊎ (n < i)
    same_or_before n i h = grind (arith, h)

-- no entry is above the number of items that have been counted
pub counts_small : (counts : List ℕ) (i v : ℕ) → 1 ≤ i → i < length counts → v ≤ i → ((n : ℕ) → slice_index_or counts n 0 ≤ i - 1) → (n : ℕ) → slice_index_or (slice_set counts i v) n 0 ≤ i + 1 - 1
counts_small counts i v low less small so_far n =
    ⊎_elim
    (λ same. omega (arith, ap (λ k. slice_index_or (slice_set counts i v) k 0) same, get_or-set_same counts i v 0 less, small))
    (λ other. omega (arith, get_or-set_other counts i n v 0 other, so_far n))
    (cases_eq n i)

-- none is counted at first
abbrev pub are_zero : List ℕ → Bool
are_zero [] = true
are_zero (x ∷ xs) = (x == 0) && are_zero xs

zero_first : (x : ℕ) (rest : Bool) → ((x == 0) && rest) ≡ true → (x ≡ 0) × (rest ≡ true)
zero_first x rest is = (grind (arith, is), grind (arith, is))

pub counts_none : (xs : List ℕ) (n : ℕ) → are_zero xs ≡ true → slice_index_or xs n 0 ≡ 0
counts_none [] n is = get_or_past [] n 0 (omega arith)
counts_none (x ∷ xs) zero is = (zero_first x (are_zero xs) is).0
counts_none (x ∷ xs) (suc n) is = counts_none xs n (zero_first x (are_zero xs) is).1

pub none_counted : (m : Problem) (n found : ℕ) → n < 1 → found ≡ 0 → found ≡ sum_to n (owes m)
none_counted m n found low is = let e : n ≡ 0 = omega (arith, low) in is ∙ sym (ap (λ k. sum_to k (owes m)) e)
