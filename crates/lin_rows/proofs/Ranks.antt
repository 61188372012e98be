-- The numbers of columns: they rise with the columns' order, and go up to the number of columns.
use Rattle.std.proofs.Common.{◌≡◌, ◌≤◌, ◌<◌, ◌+◌, ◌-◌, ◌*◌, ◌^◌, ⊎_elim, ℕ, ap, arith}
use Rattle.std.specs.Prelude.{IsSome, if◌then◌else◌}
use Rattle.std.proofs.lemmas.Bool.{cases_lt}
use Rattle.std.proofs.Math.Nat.{mul-le-mul_right}
use Rattle.lot_sizing.specs.Sums.{sum_to}
use Rattle.lot_sizing.specs.Problem.{IsWithinLimits, Problem, item_at, item_count}
use Rattle.lot_sizing.proofs.Sums.{sum_to-front, sum_to_at}
use Rattle.lin_rows.specs.declared.column.Column.{Column}
use Rattle.lin_rows.specs.declared.column.Column.TheVariants.{X, Y, S, R}
use Rattle.lin_rows.specs.Columns.{IsCell, IsColumn, cell_count, cell_number, column_count, number_of, order_of, owes, owing_count}

-- an item and a period among all
pub cell_in : (m : Problem) (i t : ℕ) → IsCell m i t → (1 ≤ cell_number m i t) × (cell_number m i t ≤ cell_count m)
cell_in m i t h =
    let next : i - 1 + 1 ≤ item_count m = omega (arith, h.0, h.1) in
    (omega (arith, h.2), omega (arith, mul-le-mul_right m.periods next, h.3))

cell_rise : (m : Problem) (i t j s : ℕ) → IsWithinLimits m → IsCell m i t → IsCell m j s → j * 2 ^ 32 + s < i * 2 ^ 32 + t → cell_number m j s < cell_number m i t
cell_rise m i t j s within h k less =
    ⊎_elim
    (λ before.
    let next : j - 1 + 1 ≤ i - 1 = omega (arith, before, k.0) in
    omega (arith, mul-le-mul_right m.periods next, k.3, h.2))
    (λ no.
    let same : j ≡ i = omega (arith, no, less, h.3, within.periods) in
    omega (arith, ap (λ n. (n - 1) * m.periods) same, ap (λ n. n * 2 ^ 32) same, less))
    (cases_lt j i)

-- an item with a backlog cost counts as one
owes_one : (m : Problem) (i : ℕ) → IsSome (item_at m i).backlog_cost → owes m i ≡ 1
owes_one m i some = ap (λ b. if b then 1 else 0) some

owing_next : (m : Problem) (i : ℕ) → 1 ≤ i → IsSome (item_at m i).backlog_cost → sum_to (i - 1) (owes m) + 1 ≡ sum_to i (owes m)
owing_next m i low some = omega (arith, sum_to_at i (owes m) low, owes_one m i some)

pub owing_in : (m : Problem) (i t : ℕ) → IsColumn m (R i t) → owing_count m (i - 1) + t ≤ owing_count m (item_count m)
owing_in m i t h =
    let next : sum_to (i - 1) (owes m) + 1 ≤ sum_to (item_count m) (owes m) = omega (arith, owing_next m i h.0.0 h.2, sum_to-front i (item_count m) (owes m) h.0.1) in
    omega (arith, mul-le-mul_right (m.periods - 1) next, h.1)

owing_rise : (m : Problem) (i t j s : ℕ) → IsWithinLimits m → IsColumn m (R i t) → IsColumn m (R j s) → j * 2 ^ 32 + s < i * 2 ^ 32 + t → owing_count m (j - 1) + s < owing_count m (i - 1) + t
owing_rise m i t j s within h k less =
    ⊎_elim
    (λ before.
    let next : sum_to (j - 1) (owes m) + 1 ≤ sum_to (i - 1) (owes m) = omega (arith, owing_next m j k.0.0 k.2, sum_to-front j (i - 1) (owes m) (omega (arith, before))) in
    omega (arith, mul-le-mul_right (m.periods - 1) next, k.1, h.0.2))
    (λ no.
    let same : j ≡ i = omega (arith, no, less, h.0.3, within.periods) in
    omega (arith, ap (λ n. owing_count m (n - 1)) same, ap (λ n. n * 2 ^ 32) same, less))
    (cases_lt j i)

pub among : (m : Problem) (c : Column) → IsColumn m c → (1 ≤ number_of m c) × (number_of m c ≤ column_count m)
among m (X i t) h = let n = cell_in m i t h in (n.0, omega (arith, n.1))
among m (Y i t) h = let n = cell_in m i t h in (omega (arith, n.0), omega (arith, n.1))
among m (S i t) h = let n = cell_in m i t h in (omega (arith, n.0), omega (arith, n.1))
among m (R i t) h = (omega (arith, h.0.2), omega (arith, owing_in m i t h))

-- the order is by kind, then by item and period
pub numbers_rise : (m : Problem) (c d : Column) → IsWithinLimits m → IsColumn m c → IsColumn m d → order_of d < order_of c → number_of m d < number_of m c
numbers_rise m (X i t) (X j s) within h k less = cell_rise m i t j s within h k (omega (arith, less))
numbers_rise m (Y i t) (Y j s) within h k less = omega (arith, cell_rise m i t j s within h k (omega (arith, less)))
numbers_rise m (S i t) (S j s) within h k less = omega (arith, cell_rise m i t j s within h k (omega (arith, less)))
numbers_rise m (R i t) (R j s) within h k less = omega (arith, owing_rise m i t j s within h k (omega (arith, less)))
numbers_rise m (Y i t) (X j s) within h k less = omega (arith, (cell_in m j s k).1, (cell_in m i t h).0)
numbers_rise m (S i t) (X j s) within h k less = omega (arith, (cell_in m j s k).1, (cell_in m i t h).0)
numbers_rise m (S i t) (Y j s) within h k less = omega (arith, (cell_in m j s k).1, (cell_in m i t h).0)
numbers_rise m (R i t) (X j s) within h k less = omega (arith, (cell_in m j s k).1, h.0.2)
numbers_rise m (R i t) (Y j s) within h k less = omega (arith, (cell_in m j s k).1, h.0.2)
numbers_rise m (R i t) (S j s) within h k less = omega (arith, (cell_in m j s k).1, h.0.2)
numbers_rise m (X i t) (Y j s) within h k less = absurd (omega (arith, less, h.1, h.3, within.items, within.periods))
numbers_rise m (X i t) (S j s) within h k less = absurd (omega (arith, less, h.1, h.3, within.items, within.periods))
numbers_rise m (X i t) (R j s) within h k less = absurd (omega (arith, less, h.1, h.3, within.items, within.periods))
numbers_rise m (Y i t) (S j s) within h k less = absurd (omega (arith, less, h.1, h.3, within.items, within.periods))
numbers_rise m (Y i t) (R j s) within h k less = absurd (omega (arith, less, h.1, h.3, within.items, within.periods))
numbers_rise m (S i t) (R j s) within h k less = absurd (omega (arith, less, h.1, h.3, within.items, within.periods))
