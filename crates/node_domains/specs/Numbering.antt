-- Quantities and setups have places of their own, and other columns have none.
use Rattle.std.proofs.Common.{◌≡◌, ◌≤◌, ◌<◌, ◌+◌, ◌-◌, ◌∙◌, ℕ, refl, sym, ap, arith, Bool, true, false}
use Rattle.std.specs.Prelude.{if◌then◌else◌, ◌&&◌, nat_le}
use Rattle.std.proofs.lemmas.Bool.Decides.{nat_tests}
use Rattle.std.proofs.lemmas.Nat.{mul-add-lt, same_from_place}
use Rattle.lot_sizing.specs.Problem.{Problem, item_count}
use Rattle.lin_rows.specs.declared.column.Column.{Column}
use Rattle.lin_rows.specs.declared.column.Column.TheVariants.{X, Y, S, R}
use Rattle.lin_rows.specs.Columns.{IsCell, cell_count}
use Rattle.cert_trees.specs.Ranges.{IsChoice}
use Rattle.node_domains.specs.Nodes.{cell_place, choice_count, choice_place, is_cell}

le_true : (a b : ℕ) → a ≤ b → nat_le a b ≡ true
le_true a b less = grind (arith, nat_tests, less)

le_from : (a b : ℕ) → nat_le a b ≡ true → a ≤ b
le_from a b is = grind (arith, nat_tests, is)

all_true : (a b c d : Bool) → a ≡ true → b ≡ true → c ≡ true → d ≡ true → (a && (b && (c && d))) ≡ true
all_true true true true true p q r s = refl
all_true false b c d p q r s = cc
all_true true false c d p q r s = cc
all_true true true false d p q r s = cc
all_true true true true false p q r s = cc

all_from : (a b c d : Bool) → (a && (b && (c && d))) ≡ true → (a ≡ true) × (b ≡ true) × (c ≡ true) × (d ≡ true)
all_from true true true true is = (refl, refl, refl, refl)
all_from false b c d is = cc
all_from true false c d is = cc
all_from true true false d is = cc
all_from true true true false is = cc

pub cell_true : (m : Problem) (i t : ℕ) → IsCell m i t → is_cell m i t ≡ true
cell_true m i t is =
    all_true (nat_le 1 i) (nat_le i (item_count m)) (nat_le 1 t) (nat_le t m.periods) (le_true 1 i is.0) (le_true i (item_count m) is.1) (le_true 1 t is.2) (le_true t m.periods is.3)

cell_from : (m : Problem) (i t : ℕ) → is_cell m i t ≡ true → IsCell m i t
cell_from m i t is =
    let all = all_from (nat_le 1 i) (nat_le i (item_count m)) (nat_le 1 t) (nat_le t m.periods) is in
    (le_from 1 i all.0, le_from i (item_count m) all.1, le_from 1 t all.2, le_from t m.periods all.3)

-- ---- places
pub place_x : (m : Problem) (i t : ℕ) → IsCell m i t → choice_place m (X i t) ≡ cell_place m i t
place_x m i t is = ap (λ b. if b then cell_place m i t else choice_count m) (cell_true m i t is)

pub place_y : (m : Problem) (i t : ℕ) → IsCell m i t → choice_place m (Y i t) ≡ cell_count m + cell_place m i t
place_y m i t is = ap (λ b. if b then cell_count m + cell_place m i t else choice_count m) (cell_true m i t is)

pub cell_below : (m : Problem) (i t : ℕ) → IsCell m i t → cell_place m i t < cell_count m
cell_below m i t is =
    omega (arith, mul-add-lt (i - 1) m.periods (t - 1) (item_count m) (omega (arith, is.0, is.1)) (omega (arith, is.2, is.3)))

pub place_below : (m : Problem) (c : Column) → IsChoice m c → choice_place m c < choice_count m
place_below m (X i t) is = omega (arith, place_x m i t is, cell_below m i t is)
place_below m (Y i t) is = omega (arith, place_y m i t is, cell_below m i t is)
place_below m (S i t) is = absurd is
place_below m (R i t) is = absurd is

-- only quantities and setups have one
past : (b : Bool) (k n : ℕ) → (if b then k else n) < n → b ≡ true
past true k n less = refl
past false k n less = absurd (omega (arith, less))

pub choice_from : (m : Problem) (c : Column) → choice_place m c < choice_count m → IsChoice m c
choice_from m (X i t) less = cell_from m i t (past (is_cell m i t) (cell_place m i t) (choice_count m) less)
choice_from m (Y i t) less = cell_from m i t (past (is_cell m i t) (cell_count m + cell_place m i t) (choice_count m) less)
choice_from m (S i t) less = absurd (omega (arith, less))
choice_from m (R i t) less = absurd (omega (arith, less))

-- and each its own
cells_one : (m : Problem) (i t j s : ℕ) → IsCell m i t → IsCell m j s → cell_place m i t ≡ cell_place m j s → (i ≡ j) × (t ≡ s)
cells_one m i t j s a b same =
    let both = same_from_place (i - 1) (t - 1) (j - 1) (s - 1) m.periods (omega (arith, a.2, a.3)) (omega (arith, b.2, b.3)) same in
    (omega (arith, both.0, a.0, b.0), omega (arith, both.1, a.2, b.2))

pub places_one : (m : Problem) (c d : Column) → IsChoice m c → IsChoice m d → choice_place m c ≡ choice_place m d → c ≡ d
places_one m (X i t) (X j s) a b same =
    let both = cells_one m i t j s a b (sym (place_x m i t a) ∙ same ∙ place_x m j s b) in
    ap (λ k. X k t) both.0 ∙ ap (λ u. X j u) both.1
places_one m (X i t) (Y j s) a b same = absurd (omega (arith, place_x m i t a, place_y m j s b, same, cell_below m i t a))
places_one m (X i t) (S j s) a b same = absurd b
places_one m (X i t) (R j s) a b same = absurd b
places_one m (Y i t) (X j s) a b same = absurd (omega (arith, place_y m i t a, place_x m j s b, same, cell_below m j s b))
places_one m (Y i t) (Y j s) a b same =
    let both = cells_one m i t j s a b (omega (arith, place_y m i t a, place_y m j s b, same)) in
    ap (λ k. Y k t) both.0 ∙ ap (λ u. Y j u) both.1
places_one m (Y i t) (S j s) a b same = absurd b
places_one m (Y i t) (R j s) a b same = absurd b
places_one m (S i t) d a b same = absurd a
places_one m (R i t) d a b same = absurd a
