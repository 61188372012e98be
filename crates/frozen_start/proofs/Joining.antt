-- What is put together from a start and a rest, and what is cut off behind a start.
use Rattle.std.proofs.Common.{◌≡◌, ◌≤◌, ◌<◌, ◌+◌, ◌-◌, ◌∙◌, ℕ, refl, sym, ap, arith}
use Rattle.lot_sizing.specs.Problem.{Problem, demand, item_at, item_count}
use Rattle.lot_sizing.specs.Plan.{IsFeasible, Plan, Table, arriving, cost}
use Rattle.lot_sizing.specs.Best.{IsBest, IsFloor, IsImpossible}
use Rattle.lot_sizing.specs.Least.{HasChoice, least_backlog, least_plan, least_stock, outflow, supply}
use Rattle.lot_sizing.specs.Laws.{KeepsLeast}
use Rattle.lot_sizing.proofs.Sums.{sum_to-same}
use Rattle.frozen_start.specs.Starts.{Agrees, HasNoLeads, IsBestAfter, IsFloorAfter, NoneAgreesWith, StartStands, spent}
use Rattle.frozen_start.specs.Rests.{IsRestOf, cut, join, one_then}
use Rattle.frozen_start.proofs.Parts.{GoesOnWith, StartsWith, arriving_start, later_is_feasible, start_stands, used_up_start, whole_costs, whole_is_feasible}

then_start : (first : ℕ) (a b : Table) (i t : ℕ) → t ≤ first → one_then first a b i t ≡ a i t
then_start first a b i t h = grind (arith, h)

then_later : (first : ℕ) (a b : Table) (i u : ℕ) → 1 ≤ u → one_then first a b i (first + u) ≡ b i u
then_later first a b i u h =
    let e : first + u - first ≡ u = omega arith in
    let is : one_then first a b i (first + u) ≡ b i (first + u - first) = grind (arith, h) in
    is ∙ ap (b i) e

join_starts : (m : Problem) (p : Plan) (first : ℕ) (q : Plan) → StartsWith m p first (join m p first q)
join_starts m p first q = record {
  agrees = record {
    make = λ i t low high t_low t_high. sym (then_start first p.make q.make i t t_high);
    setup = λ i t low high t_low t_high. sym (then_start first p.setup q.setup i t t_high);
  };
  stock = λ i t low high t_low t_high. then_start first (least_stock m p.make) q.stock i t t_high;
  backlog = λ i t low high t_low t_high. then_start first (least_backlog m p.make) q.backlog i t t_high;
}

join_goes_on : (m : Problem) (p : Plan) (first : ℕ) (q : Plan) → GoesOnWith first (join m p first q) q
join_goes_on m p first q = record {
  make = λ i u low. then_later first p.make q.make i u low;
  setup = λ i u low. then_later first p.setup q.setup i u low;
  stock = λ i u low. then_later first (least_stock m p.make) q.stock i u low;
  backlog = λ i u low. then_later first (least_backlog m p.make) q.backlog i u low;
}

pub join_is_feasible : (m : Problem) (p : Plan) (first : ℕ) (rest : Problem) (q : Plan) → HasNoLeads m → IsRestOf m p first rest → StartStands m p first → IsFeasible rest q → IsFeasible m (join m p first q) × Agrees m p (join m p first q) first × (cost m (join m p first q) ≡ spent m p first + cost rest q)
join_is_feasible m p first rest q leadless r stands h =
    let s = join_starts m p first q in
    let g = join_goes_on m p first q in
    (whole_is_feasible m p first rest (join m p first q) q leadless r s g stands h, s.agrees, whole_costs m p first rest (join m p first q) q r s g)

-- the least stocks and backlogs of the start are those of any plan that agrees with it

supply_start : (m : Problem) (p q : Plan) (first : ℕ) → HasNoLeads m → Agrees m p q first → (i t : ℕ) → 1 ≤ i → i ≤ item_count m → t ≤ first → supply m p.make i t ≡ supply m q.make i t
supply_start m p q first leadless a i t low high h =
    ap (λ n. (item_at m i).opening + n) (sum_to-same t (arriving m p.make i) (arriving m q.make i) (λ u u_low u_high. arriving_start m p q first leadless a i u low high u_low (omega (arith, u_high, h))))

outflow_start : (m : Problem) (p q : Plan) (first : ℕ) → Agrees m p q first → (i t : ℕ) → t ≤ first → outflow m p.make i t ≡ outflow m q.make i t
outflow_start m p q first a i t h = sum_to-same t _ _ (λ u u_low u_high. ap (λ n. demand m i u + n) (used_up_start m p q first a i u u_low (omega (arith, u_high, h))))

least_starts : (m : Problem) (p q : Plan) (first : ℕ) → HasNoLeads m → Agrees m p q first → StartsWith m p first (least_plan m q.make q.setup)
least_starts m p q first leadless a = record {
  agrees = record { make = a.make; setup = a.setup };
  stock = λ i t low high t_low t_high. omega (arith, supply_start m p q first leadless a i t low high t_high, outflow_start m p q first a i t t_high);
  backlog = λ i t low high t_low t_high. omega (arith, supply_start m p q first leadless a i t low high t_high, outflow_start m p q first a i t t_high);
}

cut_goes_on : (m : Problem) (q : Plan) (first : ℕ) → GoesOnWith first (least_plan m q.make q.setup) (cut m q first)
cut_goes_on m q first = record {
  make = λ i u low. refl;
  setup = λ i u low. refl;
  stock = λ i u low. refl;
  backlog = λ i u low. refl;
}

own_choice : (m : Problem) (q : Plan) → HasChoice m q.make q.setup q
own_choice m q = record { make = λ i t low high t_low t_high. refl; setup = λ i t low high t_low t_high. refl }

pub agreeing_stands : KeepsLeast → (m : Problem) (p : Plan) (first : ℕ) (q : Plan) → HasNoLeads m → first < m.periods → IsFeasible m q → Agrees m p q first → StartStands m p first
agreeing_stands keeps m p first q leadless inside h a =
    let least = keeps m q.make q.setup (omega (arith, inside)) q h (own_choice m q) in
    start_stands m p first (least_plan m q.make q.setup) (omega (arith, inside)) (least_starts m p q first leadless a) least.0

pub cut_is_feasible : KeepsLeast → (m : Problem) (p : Plan) (first : ℕ) (rest : Problem) (q : Plan) → HasNoLeads m → IsRestOf m p first rest → IsFeasible m q → Agrees m p q first → StartStands m p first × IsFeasible rest (cut m q first) × (spent m p first + cost rest (cut m q first) ≤ cost m q)
cut_is_feasible keeps m p first rest q leadless r h a =
    let least = keeps m q.make q.setup (omega (arith, r.some_later)) q h (own_choice m q) in
    let f = least_plan m q.make q.setup in
    let s = least_starts m p q first leadless a in
    let g = cut_goes_on m q first in (
      agreeing_stands keeps m p first q leadless r.some_later h a,
      later_is_feasible m p first rest f (cut m q first) leadless r s g least.0,
      omega (arith, least.1, whole_costs m p first rest f (cut m q first) r s g),
    )

pub none_agrees : KeepsLeast → (m : Problem) (p : Plan) (first : ℕ) (rest : Problem) → HasNoLeads m → IsRestOf m p first rest → IsImpossible rest → NoneAgreesWith m p first
none_agrees keeps m p first rest leadless r none = λ q h a. none (cut m q first) (cut_is_feasible keeps m p first rest q leadless r h a).1

pub floor_goes_on : KeepsLeast → (m : Problem) (p : Plan) (first : ℕ) (rest : Problem) (bound : ℕ) → HasNoLeads m → IsRestOf m p first rest → IsFloor rest bound → IsFloorAfter m p first (spent m p first + bound)
floor_goes_on keeps m p first rest bound leadless r floor = λ q h a.
    let split = cut_is_feasible keeps m p first rest q leadless r h a in
    omega (arith, split.2, floor (cut m q first) split.1)

pub best_goes_on : KeepsLeast → (m : Problem) (p : Plan) (first : ℕ) (rest : Problem) (q : Plan) → HasNoLeads m → IsRestOf m p first rest → StartStands m p first → IsBest rest q → IsBestAfter m p first (join m p first q) × (cost m (join m p first q) ≡ spent m p first + cost rest q)
best_goes_on keeps m p first rest q leadless r stands best =
    let whole = join_is_feasible m p first rest q leadless r stands best.feasible in
    let floor = floor_goes_on keeps m p first rest (cost rest q) leadless r best.least in (
      record { feasible = whole.0; agrees = whole.1; least = λ f h a. omega (arith, whole.2, floor f h a) },
      whole.2,
    )
