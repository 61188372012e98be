-- Where the totals of columns stand: at places of their own.
use Rattle.std.proofs.Common.{◌≡◌, ◌≤◌, ◌<◌, ◌+◌, ◌-◌, ◌*◌, ◌∙◌, ◌⊎◌, ⊎_elim, inl, inr, ℕ, refl, sym, ap, arith, Bool, true, false, List, length, slice_index_or, slice_set}
use Rattle.std.specs.Prelude.{◌&&◌, ◌==◌, nat_le, if◌then◌else◌, ℤ, ◌*ℤ◌}
use Rattle.std.proofs.lemmas.Bool.{cases_lt}
use Rattle.std.proofs.lemmas.List.{get_or-set_same, get_or-set_other, get_or_default}
use Rattle.std.proofs.Math.Nat.{mul-le-mul_right}
use Rattle.lin_rows.specs.declared.column.Column.{Column}
use Rattle.lin_rows.specs.declared.column.Column.TheVariants.{X, Y, S, R}
use Rattle.lin_rows.specs.declared.total.Total.{Total}
use Rattle.lin_rows.specs.declared.row.Term.{Term}
use Rattle.lin_rows.specs.Sums.{AddsTerm, IsColumnWithin, Summed, cell_of, has_column_for, item_of, kind_of, no_total, period_of, same_column, total_in, total_of, with_more}

pub kind_small : (c : Column) → kind_of c ≤ 3
kind_small (X i t) = omega arith
kind_small (Y i t) = omega arith
kind_small (S i t) = omega arith
kind_small (R i t) = omega arith

pub cell_small : (items periods : ℕ) (c : Column) → IsColumnWithin items periods c → cell_of items periods c < 4 * items * periods
cell_small items periods c h =
    let k = kind_of c in
    let row = k * items + (item_of c - 1) in
    let kinds : k * items ≤ 3 * items = mul-le-mul_right items (kind_small c) in
    let rows : row + 1 ≤ 4 * items = omega (arith, kinds, h.0, h.1) in
    let all : (row + 1) * periods ≤ 4 * items * periods = mul-le-mul_right periods rows in
    omega (arith, all, h.2, h.3)

-- a place has one row and one column
one_place : (n a b x y : ℕ) → x < n → y < n → a * n + x ≡ b * n + y → (a ≡ b) × (x ≡ y)
one_place n a b x y x_small y_small same =
    ⊎_elim
    (λ less. absurd (omega (arith, mul-le-mul_right n (next a b less), same, x_small, y_small)))
    (λ no. ⊎_elim
    (λ less. absurd (omega (arith, mul-le-mul_right n (next b a less), same, x_small, y_small)))
    (λ no2. let e : a ≡ b = omega (arith, no, no2) in (e, omega (arith, same, ap (λ k. k * n) e)))
    (cases_lt b a))
    (cases_lt a b)
  where
    next : (a b : ℕ) → a < b → a + 1 ≤ b
    next a b h = omega (arith, h)

-- columns with the same place are the same
all_same : (k l i j t s : ℕ) → k ≡ l → i ≡ j → t ≡ s → ((k == l) && ((i == j) && (t == s))) ≡ true
all_same k l i j t s a b c = grind (arith, a, b, c)

pub one_column : (items periods : ℕ) (c d : Column) → IsColumnWithin items periods c → IsColumnWithin items periods d → cell_of items periods c ≡ cell_of items periods d → same_column c d ≡ true
one_column items periods c d in_c in_d same =
    let (rows, times) = one_place periods (kind_of c * items + (item_of c - 1)) (kind_of d * items + (item_of d - 1)) (period_of c - 1) (period_of d - 1) (omega (arith, in_c.2, in_c.3)) (omega (arith, in_d.2, in_d.3)) same in
    let (kinds, numbers) = one_place items (kind_of c) (kind_of d) (item_of c - 1) (item_of d - 1) (omega (arith, in_c.0, in_c.1)) (omega (arith, in_d.0, in_d.1)) rows in
    all_same (kind_of c) (kind_of d) (item_of c) (item_of d) (period_of c) (period_of d) kinds (omega (arith, numbers, in_c.0, in_d.0)) (omega (arith, times, in_c.2, in_d.2))

pub same_self : (c : Column) → same_column c c ≡ true
same_self c = all_same (kind_of c) (kind_of c) (item_of c) (item_of c) (period_of c) (period_of c) refl refl refl

parts_same : (k l i j t s : ℕ) → ((k == l) && ((i == j) && (t == s))) ≡ true → (k ≡ l) × (i ≡ j) × (t ≡ s)
parts_same k l i j t s is = (grind (arith, is), grind (arith, is), grind (arith, is))

pub same_parts : (c d : Column) → same_column c d ≡ true → (kind_of c ≡ kind_of d) × (item_of c ≡ item_of d) × (period_of c ≡ period_of d)
same_parts c d is = parts_same (kind_of c) (kind_of d) (item_of c) (item_of d) (period_of c) (period_of d) is

pub same_within : (items periods : ℕ) (c d : Column) → same_column c d ≡ true → has_column_for items periods c ≡ has_column_for items periods d
same_within items periods c d is = let (k, i, t) = same_parts c d is in rw (i, t) refl

pub same_cell : (items periods : ℕ) (c d : Column) → same_column c d ≡ true → cell_of items periods c ≡ cell_of items periods d
same_cell items periods c d is = let (k, i, t) = same_parts c d is in rw (k, i, t) refl

within_parts : (items periods i t : ℕ) → ((nat_le 1 i && nat_le i items) && (nat_le 1 t && nat_le t periods)) ≡ true → (1 ≤ i) × (i ≤ items) × (1 ≤ t) × (t ≤ periods)
within_parts items periods i t is = (grind (arith, is), grind (arith, is), grind (arith, is), grind (arith, is))

pub is_in : (items periods : ℕ) (c : Column) → has_column_for items periods c ≡ true → IsColumnWithin items periods c
is_in items periods c is = within_parts items periods (item_of c) (period_of c) is

within_whole : (items periods i t : ℕ) → 1 ≤ i → i ≤ items → 1 ≤ t → t ≤ periods → ((nat_le 1 i && nat_le i items) && (nat_le 1 t && nat_le t periods)) ≡ true
within_whole items periods i t a b c d = grind (arith, a, b, c, d)

pub in_is : (items periods : ℕ) (c : Column) → IsColumnWithin items periods c → has_column_for items periods c ≡ true
in_is items periods c h = within_whole items periods (item_of c) (period_of c) h.0 h.1 h.2 h.3

pub true_or_false : (b : Bool) → (b ≡ true) ⊎ (b ≡ false)
true_or_false true = inl refl
true_or_false false = inr refl

pub total_same : (items periods : ℕ) (cells : List Total) (c d : Column) → same_column c d ≡ true → total_in items periods cells d ≡ total_in items periods cells c
total_same items periods cells c d is = rw (same_within items periods c d is, same_cell items periods c d is) refl

pub total_at : (items periods : ℕ) (cells : List Total) (c : Column) → IsColumnWithin items periods c → total_in items periods cells c ≡ slice_index_or cells (cell_of items periods c) no_total
total_at items periods cells c h = rw (in_is items periods c h) refl

-- one total is set
pub total_set : (items periods : ℕ) (cells : List Total) (a c : Column) (v : Total) → length cells ≡ 4 * items * periods → IsColumnWithin items periods a → total_in items periods (slice_set cells (cell_of items periods a) v) c ≡ (if same_column a c then v else total_in items periods cells c)
total_set items periods cells a c v size h =
    ⊎_elim
    (λ same. rw same (total_same items periods (slice_set cells (cell_of items periods a) v) a c same ∙ total_at items periods (slice_set cells (cell_of items periods a) v) a h ∙ get_or-set_same cells (cell_of items periods a) v no_total (omega (arith, cell_small items periods a h, size))))
    (λ apart. rw apart (⊎_elim
    (λ inside. total_at items periods (slice_set cells (cell_of items periods a) v) c (is_in items periods c inside) ∙ get_or-set_other cells (cell_of items periods a) (cell_of items periods c) v no_total (λ same. cc (sym apart ∙ one_column items periods a c h (is_in items periods c inside) (sym same))) ∙ sym (total_at items periods cells c (is_in items periods c inside)))
    (λ outside. rw outside refl)
    (true_or_false (has_column_for items periods c))))
    (true_or_false (same_column a c))

-- a place among the totals
pub place_small : (s : Summed) (n : ℕ) (cells : List Total) (c : Column) (place : ℕ) → length cells ≡ 4 * s.items * s.periods → IsColumnWithin s.items s.periods c → place ≡ cell_of s.items s.periods c → n ≡ length cells → place < n
place_small s n cells c place size h is count = omega (arith, is, cell_small s.items s.periods c h, size, count)

-- the total that is read there
pub read_total : (s : Summed) (c : Column) (place : ℕ) (got : Total) → length s.cells ≡ 4 * s.items * s.periods → IsColumnWithin s.items s.periods c → place ≡ cell_of s.items s.periods c → got ≡ slice_index_or s.cells place got → got ≡ total_of s c
read_total s c place got size h is read =
    read ∙ get_or_default s.cells place got no_total (place_small s (length s.cells) s.cells c place size h is refl) ∙ ap (λ n. slice_index_or s.cells n no_total) is ∙ sym (total_at s.items s.periods s.cells c h)

abbrev with_cells : Summed → List Total → Summed
with_cells s cells = record { items = s.items; periods = s.periods; cells = cells; right = s.right }

-- the total of a term's column is set to that with its multiple
pub adds_term : (s : Summed) (a : Term) (times : ℤ) (place : ℕ) (v : Total) → length s.cells ≡ 4 * s.items * s.periods → IsColumnWithin s.items s.periods a.column → place ≡ cell_of s.items s.periods a.column → v ≡ with_more (total_of s a.column) (times *ℤ a.times) → AddsTerm s (with_cells s (slice_set s.cells place v)) a times
adds_term s a times place v size h is value c =
    ap (λ n. total_in s.items s.periods (slice_set s.cells n v) c) is ∙ total_set s.items s.periods s.cells a.column c v size h
    ∙ ⊎_elim
    (λ same. rw same (value ∙ ap (λ t. with_more t (times *ℤ a.times)) (sym (total_same s.items s.periods s.cells a.column c same))))
    (λ apart. rw apart refl)
    (true_or_false (same_column a.column c))
