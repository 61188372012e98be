-- The order of columns: those with small numbers have places of their own.
use Rattle.std.proofs.Common.{◌≡◌, ◌<◌, ◌+◌, ◌*◌, ◌^◌, ◌∙◌, ℕ, refl, sym, arith, true}
use Rattle.std.specs.Prelude.{◌==◌, ◌&&◌}
use Rattle.lot_sizing.specs.Problem.{Problem, item_count}
use Rattle.lin_rows.specs.declared.column.Column.{Column}
use Rattle.lin_rows.specs.declared.column.Column.TheVariants.{X, Y, S, R}
use Rattle.lin_rows.specs.Columns.{IsColumn, order_of}
use Rattle.lin_rows.specs.Sums.{item_of, kind_of, period_of}
use Rattle.lin_rows.proofs.Below.{one_by_parts}

-- the numbers of a column take 32 bits each
abbrev pub IsSmall : Column → Type 0
IsSmall c = (item_of c < 2 ^ 32) × (period_of c < 2 ^ 32)

pub order_is : (c : Column) → order_of c ≡ kind_of c * 2 ^ 64 + item_of c * 2 ^ 32 + period_of c
order_is (X i t) = refl
order_is (Y i t) = refl
order_is (S i t) = refl
order_is (R i t) = refl

all_same : (k l i j t s : ℕ) → k ≡ l → i ≡ j → t ≡ s → ((k == l) && ((i == j) && (t == s))) ≡ true
all_same k l i j t s a b c = grind (arith, a, b, c)

-- a column has one kind, item and period
pub one_column : (c d : Column) → kind_of c ≡ kind_of d → item_of c ≡ item_of d → period_of c ≡ period_of d → c ≡ d
one_column c d k i t = one_by_parts c d (all_same (kind_of c) (kind_of d) (item_of c) (item_of d) (period_of c) (period_of d) k i t)

one_order : (c d : Column) → IsSmall c → IsSmall d → order_of c ≡ order_of d → (kind_of c ≡ kind_of d) × (item_of c ≡ item_of d) × (period_of c ≡ period_of d)
one_order c d a b same =
    let e : kind_of c * 2 ^ 64 + item_of c * 2 ^ 32 + period_of c ≡ kind_of d * 2 ^ 64 + item_of d * 2 ^ 32 + period_of d = sym (order_is c) ∙ same ∙ order_is d in
    (omega (arith, e, a.0, a.1, b.0, b.1), omega (arith, e, a.0, a.1, b.0, b.1), omega (arith, e, a.0, a.1, b.0, b.1))

pub one_place : (c d : Column) → IsSmall c → IsSmall d → order_of c ≡ order_of d → c ≡ d
one_place c d a b same = let (k, i, t) = one_order c d a b same in one_column c d k i t

pub column_small : (m : Problem) (c : Column) → item_count m < 2 ^ 32 → m.periods < 2 ^ 32 → IsColumn m c → IsSmall c
column_small m (X i t) items periods is = (omega (arith, is.1, items), omega (arith, is.3, periods))
column_small m (Y i t) items periods is = (omega (arith, is.1, items), omega (arith, is.3, periods))
column_small m (S i t) items periods is = (omega (arith, is.1, items), omega (arith, is.3, periods))
column_small m (R i t) items periods is = let cell = is.0 in (omega (arith, cell.1, items), omega (arith, cell.3, periods))
