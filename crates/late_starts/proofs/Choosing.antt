-- What a feasible plan does of an item is a choice of its late lots.
use Rattle.std.proofs.Common.{◌≡◌, ◌≤◌, ◌<◌, ◌+◌, ◌*◌, ⊎_elim, ℕ, refl, arith, ap, ◌∙◌}
use Rattle.std.specs.Prelude.{if◌then◌else◌, ◌==◌}
use Rattle.std.proofs.lemmas.Bool.{cases_eq}
use Rattle.lot_sizing.specs.Sums.{sum_to}
use Rattle.lot_sizing.specs.Problem.{EachItem, Problem, item_count}
use Rattle.lot_sizing.specs.Plan.{EachCell, Plan, IsFeasible, Table}
use Rattle.lot_sizing.specs.Net.{choice}
use Rattle.lot_sizing.specs.Single.{NetPlan}
use Rattle.lot_sizing.specs.Totals.{IsRanking}
use Rattle.lot_sizing.proofs.Sums.{sum_to-le, sum_to-same}
use Rattle.must_start.proofs.LargestLots.{term_le}
use Rattle.late_starts.specs.OnTime.{AreOnTime, AreShortfalls}
use Rattle.late_starts.specs.Charges.{AreCharges, sum_cells}
use Rattle.late_starts.specs.Choices.{AreSameLots, IsLateChoice, IsLateFloor, LateLots, late_lots, late_price}
use Rattle.late_starts.proofs.Covering.{cells_add, shares_paid}
use Rattle.late_starts.proofs.Shortfalls.{shortfalls_end, shortfalls_exist, starts_hold}

pub plan_chooses : (m : Problem) (rank : ℕ → ℕ) (start setup unit share short : Table) → IsRanking m rank → AreOnTime m start → (p : Plan) → IsFeasible m p → AreShortfalls m start p.backlog short → EachItem m (λ i. IsLateChoice (late_lots m start setup unit share i) (choice p.make p.setup i) (short i))
plan_chooses m rank start setup unit share short ranks is p f are = λ i low high. record {
  setup = λ t t_low t_high. f.setup i t low high t_low t_high;
  made = λ t t_low t_high. f.made i t low high t_low t_high;
  started = λ t t_low t_high. starts_hold m rank start short ranks is p f are i t low high t_low t_high;
  settled = λ t t_low t_high late. shortfalls_end m rank start p.backlog short ranks are i t low high t_low t_high (omega (arith, late));
}

-- all in the first period
abbrev first_only : ℕ → ℕ → ℕ
first_only x t = if t == 1 then x else 0

first_is : (x t : ℕ) → t ≡ 1 → first_only x t ≡ x
first_is x t h = grind (arith, h)

first_le : (x t : ℕ) → first_only x t ≤ x
first_le x t = grind arith

first_some : (x t : ℕ) → 0 < first_only x t → first_only 1 t ≡ 1
first_some x t h =
    ⊎_elim
    (λ first. first_is 1 t first)
    (λ later. let none : first_only x t ≡ 0 = grind (arith, later) in absurd (omega (arith, h, none)))
    (cases_eq t 1)

pub some_choice : (a : LateLots) → (q : NetPlan) × (short : ℕ → ℕ) × IsLateChoice a q short
some_choice a =
    let all = sum_to a.periods a.need in (
      record { make = first_only all; setup = first_only 1 },
      (λ t. 0),
      record {
        setup = λ t low high. first_le 1 t;
        made = λ t low high some. first_some all t some;
        started = λ t low high. omega (arith, term_le a.periods t a.need low high, first_is all 1 refl, term_le t 1 (first_only all) (omega arith) low);
        settled = λ t low high late. refl;
      },
    )

-- the prices of all items
pub items_bound : (m : Problem) (rank floor : ℕ → ℕ) (start setup unit share charge price : Table) → IsRanking m rank → AreOnTime m start → AreCharges m start share charge → EachCell m (λ i v. charge i v ≤ price i v) → EachItem m (λ i. IsLateFloor (late_lots m start setup unit share i) (floor i)) → (p : Plan) → IsFeasible m p → sum_to (item_count m) floor ≤ sum_cells m (λ i t. setup i t * p.setup i t + unit i t * p.make i t) + sum_cells m (λ i v. price i v * p.backlog i v)
items_bound m rank floor start setup unit share charge price ranks is charges within floors p f =
    let (short, are) = shortfalls_exist m rank start p.backlog ranks in
    let chosen = plan_chooses m rank start setup unit share short ranks is p f are in
    let paid = λ (i : ℕ) (t : ℕ). setup i t * p.setup i t + unit i t * p.make i t in
    let fallen = λ (i : ℕ) (t : ℕ). share i t * short i t in
    omega (
      arith,
      sum_to-le (item_count m) floor (λ i. sum_to m.periods (λ t. paid i t + fallen i t)) (λ i low high. floors i low high (choice p.make p.setup i) (short i) (chosen i low high)),
      cells_add m paid fallen,
      shares_paid m start p.backlog short share charge price are charges within,
    )

-- the same lots have the same floors
same_price : (a b : LateLots) (q : NetPlan) (short : ℕ → ℕ) → AreSameLots a b → late_price a q short ≡ late_price b q short
same_price a b q short same =
    sum_to-same a.periods (λ t. a.setup t * q.setup t + a.unit t * q.make t + a.share t * short t) (λ t. b.setup t * q.setup t + b.unit t * q.make t + b.share t * short t) (λ t low high. omega (
      arith,
      ap (λ x. x * q.setup t) (same.setup t low high),
      ap (λ x. x * q.make t) (same.unit t low high),
      ap (λ x. x * short t) (same.share t low high),
    ))
    ∙ ap (λ n. sum_to n (λ t. b.setup t * q.setup t + b.unit t * q.make t + b.share t * short t)) same.periods

pub floors_agree : (a b : LateLots) (c : ℕ) → AreSameLots a b → IsLateFloor a c → IsLateFloor b c
floors_agree a b c same floor = λ q short is.
    let chosen : IsLateChoice a q short = record {
      setup = λ t low high. is.setup t low (omega (arith, high, same.periods));
      made = λ t low high some. is.made t low (omega (arith, high, same.periods)) some;
      started = λ t low high. omega (arith, is.started t low (omega (arith, high, same.periods)), same.need t low high);
      settled = λ t low high late. is.settled t low (omega (arith, high, same.periods)) (omega (arith, late, same.settled));
    } in
    omega (arith, floor q short chosen, same_price a b q short same)
