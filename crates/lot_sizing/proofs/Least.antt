-- The least stocks and backlogs.
use Rattle.std.proofs.Common.{◌≡◌, ◌≤◌, ◌+◌, ◌-◌, ◌*◌, ◌∙◌, ℕ, zero, suc, refl, sym, ap, subst, arith}
use Rattle.std.specs.Prelude.{IfSome}
use Rattle.std.proofs.Math.Nat.{mul-le-mul_left}
use Rattle.lot_sizing.specs.Problem.{Problem, item_at, item_count, demand, per_unit, unit_time, setup_time, unit_cost, setup_cost, hold_cost, backlog_cost}
use Rattle.lot_sizing.specs.Plan.{Plan, Table, EachCell, IsBalanced, IsFeasible, IsLot, arriving, stock_after, backlog_after, used_up, time_used, cost}
use Rattle.lot_sizing.specs.Least.{supply, outflow, least_stock, least_backlog, least_plan, SameCells, HasChoice}
use Rattle.lot_sizing.proofs.Sums.{sum_to-same, sum_to-le}
use Rattle.lot_sizing.proofs.Plans.{stock_after_some, backlog_after_some}
use Rattle.lot_sizing.proofs.Lots.{arriving_same}

-- what was there is what was asked for, up to what is left or owed
pub balance_so_far : (m : Problem) (p : Plan) (i : ℕ) → 1 ≤ i → i ≤ item_count m → EachCell m (IsBalanced m p) → (t : ℕ) → t ≤ m.periods → stock_after m p i t + outflow m p.make i t ≡ supply m p.make i t + backlog_after p i t
balance_so_far m p i low high all zero h = omega arith
balance_so_far m p i low high all (suc t) h =
    let here : IsBalanced m p i (suc t) = all i (suc t) low high (omega arith) h in
    let e : suc t - 1 ≡ t = omega arith in
    omega (arith, here, ap (stock_after m p i) e, ap (backlog_after p i) e, balance_so_far m p i low high all t (omega arith))

pub least_stock_le : (m : Problem) (p : Plan) (i t : ℕ) → 1 ≤ i → i ≤ item_count m → EachCell m (IsBalanced m p) → 1 ≤ t → t ≤ m.periods → least_stock m p.make i t ≤ p.stock i t
least_stock_le m p i t low high all t_low t_high = omega (arith, balance_so_far m p i low high all t t_high, stock_after_some m p i t t_low, backlog_after_some p i t t_low)

pub least_backlog_le : (m : Problem) (p : Plan) (i t : ℕ) → 1 ≤ i → i ≤ item_count m → EachCell m (IsBalanced m p) → 1 ≤ t → t ≤ m.periods → least_backlog m p.make i t ≤ p.backlog i t
least_backlog_le m p i t low high all t_low t_high = omega (arith, balance_so_far m p i low high all t t_high, stock_after_some m p i t t_low, backlog_after_some p i t t_low)

-- where nothing is owed, the stock is the least one
pub least_stock_is : (m : Problem) (p : Plan) (i t : ℕ) → 1 ≤ i → i ≤ item_count m → EachCell m (IsBalanced m p) → 1 ≤ t → t ≤ m.periods → p.backlog i t ≡ 0 → least_stock m p.make i t ≡ p.stock i t
least_stock_is m p i t low high all t_low t_high none = omega (arith, balance_so_far m p i low high all t t_high, stock_after_some m p i t t_low, backlog_after_some p i t t_low)

least_stock_after : (m : Problem) (make setup : Table) (i t : ℕ) → stock_after m (least_plan m make setup) i t ≡ least_stock m make i t
least_stock_after m make setup i zero = omega arith
least_stock_after m make setup i (suc t) = refl

least_backlog_after : (m : Problem) (make setup : Table) (i t : ℕ) → backlog_after (least_plan m make setup) i t ≡ least_backlog m make i t
least_backlog_after m make setup i zero = omega arith
least_backlog_after m make setup i (suc t) = refl

-- the least stocks and backlogs balance
pub least_balanced : (m : Problem) (make setup : Table) (i t : ℕ) → 1 ≤ t → IsBalanced m (least_plan m make setup) i t
least_balanced m make setup i zero h = absurd (omega arith)
least_balanced m make setup i (suc t) h =
    let e : suc t - 1 ≡ t = omega arith in
    let P = least_plan m make setup in
    (omega (arith, ap (stock_after m P i) e, ap (backlog_after P i) e, least_stock_after m make setup i t, least_backlog_after m make setup i t))

-- the sums over other items agree where the quantities do
pub used_up_same : (m : Problem) (a b : Table) (i t : ℕ) → SameCells m a b → 1 ≤ t → t ≤ m.periods → used_up m a i t ≡ used_up m b i t
used_up_same m a b i t same t_low t_high = sum_to-same (item_count m) _ _ (λ j low high. ap (λ n. per_unit m i j * n) (same j t low high t_low t_high))

supply_same : (m : Problem) (a b : Table) (i : ℕ) → SameCells m a b → 1 ≤ i → i ≤ item_count m → (t : ℕ) → t ≤ m.periods → supply m a i t ≡ supply m b i t
supply_same m a b i same low high t h = ap (λ n. (item_at m i).opening + n) (sum_to-same t (arriving m a i) (arriving m b i) (λ u u_low u_high. arriving_same m a b i u same low high (omega arith)))

outflow_same : (m : Problem) (a b : Table) (i : ℕ) → SameCells m a b → (t : ℕ) → t ≤ m.periods → outflow m a i t ≡ outflow m b i t
outflow_same m a b i same t h = sum_to-same t _ _ (λ u u_low u_high. ap (λ n. demand m i u + n) (used_up_same m a b i u same u_low (omega arith)))

-- a feasible plan has at least the least stocks and backlogs of its quantities
pub least_of : (m : Problem) (make setup : Table) (p : Plan) → IsFeasible m p → HasChoice m make setup p → (i t : ℕ) → 1 ≤ i → i ≤ item_count m → 1 ≤ t → t ≤ m.periods → (least_stock m make i t ≤ p.stock i t) × (least_backlog m make i t ≤ p.backlog i t)
least_of m make setup p f choice i t low high t_low t_high =
    let a = supply_same m p.make make i choice.make low high t t_high in
    let b = outflow_same m p.make make i choice.make t t_high in
    (omega (arith, least_stock_le m p i t low high f.balance t_low t_high, a, b), omega (arith, least_backlog_le m p i t low high f.balance t_low t_high, a, b))

-- with the least stocks and backlogs it costs no more
pub least_costs : (m : Problem) (make setup : Table) (p : Plan) → IsFeasible m p → HasChoice m make setup p → cost m (least_plan m make setup) ≤ cost m p
least_costs m make setup p f choice =
    sum_to-le (item_count m) _ _ (λ i low high.
    sum_to-le m.periods _ _ (λ t t_low t_high.
    let least = least_of m make setup p f choice i t low high t_low t_high in
    let x = choice.make i t low high t_low t_high in
    let y = choice.setup i t low high t_low t_high in
    omega (arith, ap (λ n. unit_cost m i t * n) x, ap (λ n. setup_cost m i t * n) y, mul-le-mul_left (hold_cost m i t) least.0, mul-le-mul_left (backlog_cost m i t) least.1)))

-- a lot is within its bounds where the same lot is
pub lot_same : (m : Problem) (p : Plan) (make setup : Table) (i t : ℕ) → p.make i t ≡ make i t → p.setup i t ≡ setup i t → IsLot m p i t → IsLot m (least_plan m make setup) i t
lot_same m p make setup i t x y lot =
    (omega (arith, x, ap (λ n. (item_at m i).min_lot * n) y, lot.0), subst (λ n. IfSome (item_at m i).max_lot (λ most. n ≤ most)) x lot.1)

-- and it is feasible
pub least_feasible : (m : Problem) (make setup : Table) (p : Plan) → 1 ≤ m.periods → IsFeasible m p → HasChoice m make setup p → IsFeasible m (least_plan m make setup)
least_feasible m make setup p some f choice = record {
  balance = λ i t low high t_low t_high. least_balanced m make setup i t t_low;
  setup = λ i t low high t_low t_high. omega (arith, choice.setup i t low high t_low t_high, f.setup i t low high t_low t_high);
  made = λ i t low high t_low t_high h. sym (choice.setup i t low high t_low t_high) ∙ f.made i t low high t_low t_high (omega (arith, choice.make i t low high t_low t_high));
  capacity = λ k t low high t_low t_high.
      let same : time_used m (least_plan m make setup) k t ≡ time_used m p k t =
      sum_to-same (item_count m) _ _ (λ i i_low i_high.
      omega (arith, ap (λ n. unit_time m i k * n) (choice.make i t i_low i_high t_low t_high), ap (λ n. setup_time m i k * n) (choice.setup i t i_low i_high t_low t_high))) in
      omega (arith, f.capacity k t low high t_low t_high);
  end_stock = λ i low high.
      let none = (f.backlog i m.periods low high some (omega arith)).1 refl in
      let is = least_stock_is m p i m.periods low high f.balance some (omega arith) none in
      let a = supply_same m p.make make i choice.make low high m.periods (omega arith) in
      let b = outflow_same m p.make make i choice.make m.periods (omega arith) in
      (omega (arith, is, a, b, (f.end_stock i low high).0), omega (arith, is, a, b, (f.end_stock i low high).1));
  backlog = λ i t low high t_low t_high.
      let least = least_of m make setup p f choice i t low high t_low t_high in
      (λ free. omega (arith, (f.backlog i t low high t_low t_high).0 free, least.1), λ last. omega (arith, (f.backlog i t low high t_low t_high).1 last, least.1));
  lots = λ i t low high t_low t_high. lot_same m p make setup i t (choice.make i t low high t_low t_high) (choice.setup i t low high t_low t_high) (f.lots i t low high t_low t_high);
  horizon = λ i t low high t_low t_high late. sym (choice.make i t low high t_low t_high) ∙ f.horizon i t low high t_low t_high late;
}

-- one period more
pub supply_more : (m : Problem) (make : Table) (i t : ℕ) → 1 ≤ t → supply m make i t ≡ supply m make i (t - 1) + arriving m make i t
supply_more m make i zero h = absurd (omega arith)
supply_more m make i (suc t) h = let e : suc t - 1 ≡ t = omega arith in rw e (omega arith)

pub outflow_more : (m : Problem) (make : Table) (i t : ℕ) → 1 ≤ t → outflow m make i t ≡ outflow m make i (t - 1) + (demand m i t + used_up m make i t)
outflow_more m make i zero h = absurd (omega arith)
outflow_more m make i (suc t) h = let e : suc t - 1 ≡ t = omega arith in rw e refl
