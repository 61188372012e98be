-- What is feasible and what it costs goes by the numbers of the items and periods that there are.
use Rattle.std.proofs.Common.{◌≡◌, ◌≤◌, ◌-◌, ◌*◌, ◌∙◌, ℕ, zero, suc, refl, sym, ap, subst, arith}
use Rattle.std.specs.Prelude.{IfSome}
use Rattle.lot_sizing.specs.Problem.{Problem, item_at, item_count, unit_time, setup_time, unit_cost, setup_cost, hold_cost, backlog_cost}
use Rattle.lot_sizing.specs.Plan.{Plan, IsFeasible, stock_after, backlog_after, time_used, cost}
use Rattle.lot_sizing.specs.Least.{SameCells}
use Rattle.lot_sizing.proofs.Sums.{sum_to-same}
use Rattle.lot_sizing.proofs.Least.{used_up_same}
use Rattle.lot_sizing.proofs.Lots.{arriving_same}

-- the same numbers throughout
pub record SamePlan (m : Problem) (p q : Plan) : Type 0 where
  pub make : SameCells m p.make q.make
  pub setup : SameCells m p.setup q.setup
  pub stock : SameCells m p.stock q.stock
  pub backlog : SameCells m p.backlog q.backlog

stock_after_same : (m : Problem) (p q : Plan) (i : ℕ) → SamePlan m p q → 1 ≤ i → i ≤ item_count m → (t : ℕ) → t ≤ m.periods → stock_after m p i t ≡ stock_after m q i t
stock_after_same m p q i same low high zero h = refl
stock_after_same m p q i same low high (suc t) h = same.stock i (suc t) low high (omega arith) h

backlog_after_same : (m : Problem) (p q : Plan) (i : ℕ) → SamePlan m p q → 1 ≤ i → i ≤ item_count m → (t : ℕ) → t ≤ m.periods → backlog_after p i t ≡ backlog_after q i t
backlog_after_same m p q i same low high zero h = refl
backlog_after_same m p q i same low high (suc t) h = same.backlog i (suc t) low high (omega arith) h

time_used_same : (m : Problem) (p q : Plan) (k t : ℕ) → SamePlan m p q → 1 ≤ t → t ≤ m.periods → time_used m p k t ≡ time_used m q k t
time_used_same m p q k t same t_low t_high =
    sum_to-same (item_count m) _ _ (λ i low high.
    omega (arith, ap (λ n. unit_time m i k * n) (same.make i t low high t_low t_high), ap (λ n. setup_time m i k * n) (same.setup i t low high t_low t_high)))

pub feasible_same : (m : Problem) (p q : Plan) → 1 ≤ m.periods → SamePlan m p q → IsFeasible m p → IsFeasible m q
feasible_same m p q some same f = record {
  balance = λ i t low high t_low t_high.
      omega (
        arith,
        f.balance i t low high t_low t_high,
        used_up_same m p.make q.make i t same.make t_low t_high,
        stock_after_same m p q i same low high (t - 1) (omega arith),
        backlog_after_same m p q i same low high (t - 1) (omega arith),
        arriving_same m p.make q.make i t same.make low high t_high,
        same.stock i t low high t_low t_high,
        same.backlog i t low high t_low t_high,
      );
  setup = λ i t low high t_low t_high. omega (arith, same.setup i t low high t_low t_high, f.setup i t low high t_low t_high);
  made = λ i t low high t_low t_high h. sym (same.setup i t low high t_low t_high) ∙ f.made i t low high t_low t_high (omega (arith, same.make i t low high t_low t_high));
  capacity = λ k t low high t_low t_high. omega (arith, f.capacity k t low high t_low t_high, time_used_same m p q k t same t_low t_high);
  end_stock = λ i low high.
      let e = same.stock i m.periods low high some (omega arith) in
      (omega (arith, e, (f.end_stock i low high).0), omega (arith, e, (f.end_stock i low high).1));
  backlog = λ i t low high t_low t_high.
      let e = same.backlog i t low high t_low t_high in
      (λ free. sym e ∙ (f.backlog i t low high t_low t_high).0 free, λ last. sym e ∙ (f.backlog i t low high t_low t_high).1 last);
  lots = λ i t low high t_low t_high.
      let x = same.make i t low high t_low t_high in
      let lot = f.lots i t low high t_low t_high in
      (omega (arith, x, ap (λ n. (item_at m i).min_lot * n) (same.setup i t low high t_low t_high), lot.0), subst (λ n. IfSome (item_at m i).max_lot (λ most. n ≤ most)) x lot.1);
  horizon = λ i t low high t_low t_high late. sym (same.make i t low high t_low t_high) ∙ f.horizon i t low high t_low t_high late;
}

pub cost_same : (m : Problem) (p q : Plan) → SamePlan m p q → cost m p ≡ cost m q
cost_same m p q same =
    sum_to-same (item_count m) _ _ (λ i low high.
    sum_to-same m.periods _ _ (λ t t_low t_high.
    omega (arith, ap (λ n. unit_cost m i t * n) (same.make i t low high t_low t_high), ap (λ n. setup_cost m i t * n) (same.setup i t low high t_low t_high), ap (λ n. hold_cost m i t * n) (same.stock i t low high t_low t_high), ap (λ n. backlog_cost m i t * n) (same.backlog i t low high t_low t_high))))
