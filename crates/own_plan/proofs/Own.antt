-- Own-period plans: there is one of a problem, it makes no more than the largest totals, and it goes with the least stocks and backlogs.
use Rattle.std.proofs.Common.{◌≡◌, ◌≤◌, ◌<◌, ◌+◌, ◌-◌, ◌∙◌, ℕ, zero, suc, refl, sym, ap, subst, arith}
use Rattle.lot_sizing.specs.Sums.{sum_to}
use Rattle.lot_sizing.specs.Problem.{Problem, EachItem, IsPlain, item_at, item_count, demand}
use Rattle.lot_sizing.specs.Plan.{Plan, Table, EachCell, IsFeasible, arriving, cost, backlog_after}
use Rattle.lot_sizing.specs.Least.{HasChoice, SameCells, least_backlog, least_plan, outflow, supply}
use Rattle.lot_sizing.specs.Net.{needed_to}
use Rattle.lot_sizing.specs.Totals.{AreLargestTotals, IsRanking}
use Rattle.lot_sizing.proofs.Sums.{sum_to-same}
use Rattle.lot_sizing.proofs.Plans.{stock_after_some, backlog_after_some}
use Rattle.lot_sizing.proofs.Lots.{arriving_same, arrived_now}
use Rattle.lot_sizing.proofs.Least.{balance_so_far, least_feasible, used_up_same}
use Rattle.lot_sizing.proofs.Same.{SamePlan, cost_same}
use Rattle.plan_rules.specs.Rows.{HasNoPlan, IsLeastWith}
use Rattle.own_plan.specs.OwnPeriod.{HasOwnPeriod, IsOwnLot, IsOwnPeriod, SameNumbers, asked_with, one_if_some}
use Rattle.own_plan.specs.Rows.{IsOwnRow}
use Rattle.own_plan.proofs.Asked.{needed_step, needed_same, needed_at_most, used_same}

-- the lots of an item for all periods
abbrev pub OwnLots : Problem → Table → ℕ → Type 0
OwnLots m make i = (t : ℕ) → 1 ≤ t → t ≤ m.periods → IsOwnLot m make i t

-- where as much must be made, the lots are the same
row_same : (m : Problem) (a b : Table) (i : ℕ) → OwnLots m a i → OwnLots m b i → ((t : ℕ) → t ≤ m.periods → needed_to (asked_with m a i) t ≡ needed_to (asked_with m b i) t) → (n t : ℕ) → 1 ≤ t → t ≤ n → t ≤ m.periods → a i t ≡ b i t
row_same m a b i own_a own_b needs zero t low less high = absurd (omega (arith, low, less))
row_same m a b i own_a own_b needs (suc n) t low less high =
    let before = sum_to-same (t - 1) (a i) (b i) (λ u u_low u_high. row_same m a b i own_a own_b needs n u u_low (omega (arith, u_high, less, low)) (omega (arith, u_high, high))) in
    omega (arith, own_a t low high, own_b t low high, needs t high, before)

rows_same : (m : Problem) (rank : ℕ → ℕ) (a b : Table) → IsRanking m rank → EachItem m (OwnLots m a) → EachItem m (OwnLots m b) → (n i t : ℕ) → rank i < n → 1 ≤ i → i ≤ item_count m → 1 ≤ t → t ≤ m.periods → a i t ≡ b i t
rows_same m rank a b ranks own_a own_b zero i t less low high t_low t_high = absurd (omega (arith, less))
rows_same m rank a b ranks own_a own_b (suc n) i t less low high t_low t_high =
    let needs : (v : ℕ) → v ≤ m.periods → needed_to (asked_with m a i) v ≡ needed_to (asked_with m b i) v = λ v v_high.
    needed_same m a b i v (λ u u_low u_high.
    used_same m rank a b i u ranks low high (λ j j_low j_high before.
    rows_same m rank a b ranks own_a own_b n j u (omega (arith, before, less)) j_low j_high u_low (omega (arith, u_high, v_high)))) in
    row_same m a b i (own_a i low high) (own_b i low high) needs t t t_low (omega arith) t_high

-- two own-period plans make the same
pub made_same : (m : Problem) (rank : ℕ → ℕ) (a b : Table) → IsRanking m rank → EachCell m (IsOwnLot m a) → EachCell m (IsOwnLot m b) → SameCells m a b
made_same m rank a b ranks own_a own_b i t low high t_low t_high =
    rows_same m rank a b ranks (λ j j_low j_high u u_low u_high. own_a j u j_low j_high u_low u_high) (λ j j_low j_high u u_low u_high. own_b j u j_low j_high u_low u_high) (rank i + 1) i t (omega arith) low high t_low t_high

owed_after : (m : Problem) (p : Plan) → IsOwnPeriod m p → (i t : ℕ) → 1 ≤ i → i ≤ item_count m → 1 ≤ t → t ≤ m.periods → backlog_after p i t ≡ 0
owed_after m p own i t low high t_low t_high = backlog_after_some p i t t_low ∙ own.backlog i t low high t_low t_high

stock_same : (m : Problem) (p q : Plan) → SameCells m p.make q.make → IsOwnPeriod m p → IsOwnPeriod m q → SameCells m p.stock q.stock
stock_same m p q same own_p own_q i t low high t_low t_high =
    let in_ : supply m p.make i t ≡ supply m q.make i t = ap (λ n. (item_at m i).opening + n) (sum_to-same t (arriving m p.make i) (arriving m q.make i) (λ u u_low u_high. arriving_same m p.make q.make i u same low high (omega (arith, u_high, t_high)))) in
    let out : outflow m p.make i t ≡ outflow m q.make i t = sum_to-same t _ _ (λ u u_low u_high. ap (λ n. demand m i u + n) (used_up_same m p.make q.make i u same u_low (omega (arith, u_high, t_high)))) in
    omega (arith, in_, out, balance_so_far m p i low high own_p.stock t t_high, balance_so_far m q i low high own_q.stock t t_high, owed_after m p own_p i t low high t_low t_high, owed_after m q own_q i t low high t_low t_high, stock_after_some m p i t t_low, stock_after_some m q i t t_low)

-- there is one own-period plan
pub own_is_one : (m : Problem) (rank : ℕ → ℕ) → IsRanking m rank → (p q : Plan) → IsOwnPeriod m p → IsOwnPeriod m q → SameNumbers m p q × (cost m p ≡ cost m q)
own_is_one m rank ranks p q own_p own_q =
    let make = made_same m rank p.make q.make ranks own_p.make own_q.make in
    let setup : SameCells m p.setup q.setup = λ i t low high t_low t_high. own_p.setup i t low high t_low t_high ∙ ap one_if_some (make i t low high t_low t_high) ∙ sym (own_q.setup i t low high t_low t_high) in
    let stock = stock_same m p q make own_p own_q in
    let backlog : SameCells m p.backlog q.backlog = λ i t low high t_low t_high. own_p.backlog i t low high t_low t_high ∙ sym (own_q.backlog i t low high t_low t_high) in
    let both : SamePlan m p q = record { make = make; setup = setup; stock = stock; backlog = backlog } in
    (record { make = make; setup = setup; stock = stock; backlog = backlog }, cost_same m p q both)

-- the lots so far are what must have been made
pub own_so_far : (m : Problem) (make : Table) (i : ℕ) → OwnLots m make i → (t : ℕ) → 1 ≤ t → t ≤ m.periods → sum_to t (make i) ≡ needed_to (asked_with m make i) t
own_so_far m make i own zero low high = absurd (omega (arith, low))
own_so_far m make i own (suc zero) low high = omega (arith, own 1 low high)
own_so_far m make i own (suc (suc t)) low high =
    let e : suc (suc t) - 1 ≡ suc t = omega arith in
    omega (arith, own (suc (suc t)) low high, ap (λ n. sum_to n (make i)) e, own_so_far m make i own (suc t) (omega arith) (omega (arith, high)), needed_step (asked_with m make i) (suc t) high)

-- no more than the largest totals
pub own_at_most : (m : Problem) (rank total : ℕ → ℕ) (make : Table) → 1 ≤ m.periods → IsRanking m rank → AreLargestTotals m total → EachItem m (λ j. (item_at m j).end_min ≤ (item_at m j).end_max) → (k : ℕ) → EachItem m (λ j. rank j < k → OwnLots m make j) → (n i : ℕ) → rank i < n → n ≤ k → 1 ≤ i → i ≤ item_count m → sum_to m.periods (make i) ≤ total i
own_at_most m rank total make some ranks totals ends k own zero i less most low high = absurd (omega (arith, less))
own_at_most m rank total make some ranks totals ends k own (suc n) i less most low high =
    omega (
      arith,
      own_so_far m make i (own i low high (omega (arith, less, most))) m.periods some (omega arith),
      needed_at_most m rank total make i ranks totals ends low high (λ j j_low j_high before. own_at_most m rank total make some ranks totals ends k own n j (omega (arith, before, less)) (omega (arith, most)) j_low j_high),
    )

-- nothing is owed with own-period lots
pub none_owed : (m : Problem) (make : Table) → IsPlain m → EachCell m (IsOwnLot m make) → (i t : ℕ) → 1 ≤ i → i ≤ item_count m → 1 ≤ t → t ≤ m.periods → least_backlog m make i t ≡ 0
none_owed m make plain own i t low high t_low t_high =
    omega (
      arith,
      arrived_now m make i t (plain i low high).lead,
      own_so_far m make i (λ u u_low u_high. own i u low high u_low u_high) t t_low t_high,
    )

-- the plan with own-period lots and the least stocks and backlogs is the own-period plan
pub own_of : (m : Problem) (make setup : Table) (p : Plan) → 1 ≤ m.periods → IsPlain m → EachItem m (IsOwnRow m make setup) → IsFeasible m p → HasChoice m make setup p → p.make ≡ make → p.setup ≡ setup → IsLeastWith m make setup p → IsOwnPeriod m p
own_of m make setup p some plain rows f choice make_is setup_is least =
    let own : EachCell m (IsOwnLot m make) = λ i t low high t_low t_high. (rows i low high).lots t t_low t_high in
    let best = least_feasible m make setup p some f choice in
    record {
      plain = plain;
      make = subst (λ (x : Table). EachCell m (IsOwnLot m x)) (sym make_is) own;
      setup = λ i t low high t_low t_high. choice.setup i t low high t_low t_high ∙ (rows i low high).setups t t_low t_high ∙ ap one_if_some (sym (choice.make i t low high t_low t_high));
      backlog = λ i t low high t_low t_high. omega (
        arith,
        none_owed m make plain own i t low high t_low t_high,
        least.backlog (least_plan m make setup) best (record { make = λ j u j_low j_high u_low u_high. refl; setup = λ j u j_low j_high u_low u_high. refl }) i t low high t_low t_high,
      );
      stock = f.balance;
    }

-- where no plan has own-period lots, no own-period plan is feasible
pub none_own : (m : Problem) (rank : ℕ → ℕ) (make setup : Table) → IsRanking m rank → EachItem m (IsOwnRow m make setup) → HasNoPlan m make setup → HasOwnPeriod m → ⊥
none_own m rank make setup ranks rows none (q, own, f) =
    let same = made_same m rank q.make make ranks own.make (λ i t low high t_low t_high. (rows i low high).lots t t_low t_high) in
    none q f (record {
      make = same;
      setup = λ i t low high t_low t_high. own.setup i t low high t_low t_high ∙ ap one_if_some (same i t low high t_low t_high) ∙ sym ((rows i low high).setups t t_low t_high);
    })
