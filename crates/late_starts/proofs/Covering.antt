-- The shares of the shortfalls cost as much as the charges of the backlogs.
use Rattle.std.proofs.Common.{◌≡◌, ◌≢◌, ◌≤◌, ◌<◌, ◌+◌, ◌-◌, ◌*◌, ◌∙◌, ⊎_elim, ℕ, zero, suc, refl, sym, ap, arith, Bool, true, false}
use Rattle.std.specs.Prelude.{if◌then◌else◌, ◌==◌}
use Rattle.std.proofs.lemmas.Bool.{cases_eq}
use Rattle.std.proofs.Math.Nat.{mul-le-mul_left}
use Rattle.lot_sizing.specs.Sums.{sum_to}
use Rattle.lot_sizing.specs.Problem.{Problem, item_count, per_unit}
use Rattle.lot_sizing.specs.Plan.{EachCell, Plan, Table, IsFeasible}
use Rattle.lot_sizing.specs.Totals.{IsRanking}
use Rattle.lot_sizing.proofs.Sums.{sum_to-same, sum_to-le, sum_to-add, sum_to-times, sum_to-swap, sum_to-zero}
use Rattle.must_start.specs.MustStart.{greatest_to, may_be_late, taken_by_others}
use Rattle.must_start.proofs.Greatest.{greatest_at}
use Rattle.must_start.proofs.Starts.{takes_same}
use Rattle.late_starts.specs.OnTime.{AreOnTime, AreShortfalls, arrival, owed}
use Rattle.late_starts.specs.Charges.{AreCharges, AreLoads, arriving_load, charge_of, sum_cells}
use Rattle.late_starts.proofs.Solving.{GoesBy, solution, solution_solves, solutions_agree}
use Rattle.late_starts.proofs.Starts.{arrival_high, arrival_low}
use Rattle.late_starts.proofs.Shortfalls.{shortfalls_exist, starts_hold}

-- sums over all items and periods
pub cells_same : (m : Problem) (f g : Table) → EachCell m (λ i t. f i t ≡ g i t) → sum_cells m f ≡ sum_cells m g
cells_same m f g h = sum_to-same (item_count m) (λ i. sum_to m.periods (f i)) (λ i. sum_to m.periods (g i)) (λ i low high. sum_to-same m.periods (f i) (g i) (λ t t_low t_high. h i t low high t_low t_high))

pub cells_le : (m : Problem) (f g : Table) → EachCell m (λ i t. f i t ≤ g i t) → sum_cells m f ≤ sum_cells m g
cells_le m f g h = sum_to-le (item_count m) (λ i. sum_to m.periods (f i)) (λ i. sum_to m.periods (g i)) (λ i low high. sum_to-le m.periods (f i) (g i) (λ t t_low t_high. h i t low high t_low t_high))

pub cells_add : (m : Problem) (f g : Table) → sum_cells m (λ i t. f i t + g i t) ≡ sum_cells m f + sum_cells m g
cells_add m f g =
    sum_to-same (item_count m) (λ i. sum_to m.periods (λ t. f i t + g i t)) (λ i. sum_to m.periods (f i) + sum_to m.periods (g i)) (λ i low high. sum_to-add m.periods (f i) (g i))
    ∙ sum_to-add (item_count m) (λ i. sum_to m.periods (f i)) (λ i. sum_to m.periods (g i))

-- a sum with one term
pub here : (a v x : ℕ) → a ≡ v → (if a == v then x else 0) ≡ x
here a v x same = grind (arith, same)

pub elsewhere : (a v x : ℕ) → a ≢ v → (if a == v then x else 0) ≡ 0
elsewhere a v x apart = grind (arith, apart)

none_here : (n a x : ℕ) (g : ℕ → ℕ) → n < a → sum_to n (λ v. (if a == v then x else 0) * g v) ≡ 0
none_here n a x g above = sum_to-same n (λ v. (if a == v then x else 0) * g v) (λ _. 0) (λ v low high. omega (arith, ap (λ y. y * g v) (elsewhere a v x (λ same. omega (arith, same, above, high))))) ∙ sum_to-zero n

pub one_here : (n a x : ℕ) (g : ℕ → ℕ) → 1 ≤ a → a ≤ n → sum_to n (λ v. (if a == v then x else 0) * g v) ≡ x * g a
one_here zero a x g low high = absurd (omega (arith, low, high))
one_here (suc n) a x g low high =
    ⊎_elim
    (λ same. omega (arith, none_here n a x g (omega (arith, same)), ap (λ y. y * g (suc n)) (here a (suc n) x same), ap (λ k. x * g k) same))
    (λ apart. omega (arith, one_here n a x g low (omega (arith, high, apart)), ap (λ y. y * g (suc n)) (elsewhere a (suc n) x apart)))
    (cases_eq a (suc n))

-- the loads that count for a period, at any price of periods
times_sum : (n c : ℕ) (f : ℕ → ℕ) → sum_to n f * c ≡ sum_to n (λ k. f k * c)
times_sum n c f = omega (arith, sum_to-times n c f, sum_to-same n (λ k. c * f k) (λ k. f k * c) (λ k low high. omega arith))

abbrev needed : Table → Table → Table
needed start load = λ i t. if start i t == 0 then 0 else load i t

arriving_sum : (m : Problem) (start load : Table) (i : ℕ) (g : ℕ → ℕ) → sum_to m.periods (λ v. arriving_load m start load i v * g v) ≡ sum_to m.periods (λ t. needed start load i t * g (arrival m i t))
arriving_sum m start load i g =
    let n = m.periods in
    sum_to-same n (λ v. arriving_load m start load i v * g v) (λ v. sum_to n (λ t. (if arrival m i t == v then needed start load i t else 0) * g v)) (λ v low high. times_sum n (g v) (λ t. if arrival m i t == v then needed start load i t else 0))
    ∙ sum_to-swap n n (λ v t. (if arrival m i t == v then needed start load i t else 0) * g v)
    ∙ sum_to-same n (λ t. sum_to n (λ v. (if arrival m i t == v then needed start load i t else 0) * g v)) (λ t. needed start load i t * g (arrival m i t)) (λ t low high. one_here n (arrival m i t) (needed start load i t) g (arrival_low m i t low high) (arrival_high m i t))

-- a load at a shortfall
load_at : (b : Bool) (l x : ℕ) → l * (if b then 0 else x) ≡ (if b then 0 else l) * x
load_at true l x = omega arith
load_at false l x = refl

loads_cost : (m : Problem) (start backlog short load : Table) → AreShortfalls m start backlog short → sum_cells m (λ i t. load i t * short i t) ≡ sum_cells m (λ i v. arriving_load m start load i v * (owed m backlog i v + taken_by_others m short i v))
loads_cost m start backlog short load are =
    let g = λ (i : ℕ) (v : ℕ). owed m backlog i v + taken_by_others m short i v in
    cells_same m (λ i t. load i t * short i t) (λ i t. needed start load i t * g i (arrival m i t)) (λ i t low high t_low t_high.
    ap (λ x. load i t * x) (are.each i t low high t_low t_high) ∙ load_at (start i t == 0) (load i t) (g i (arrival m i t)))
    ∙ sym (sum_to-same (item_count m) (λ i. sum_to m.periods (λ v. arriving_load m start load i v * g i v)) (λ i. sum_to m.periods (λ t. needed start load i t * g i (arrival m i t))) (λ i low high. arriving_sum m start load i (g i)))

-- what components put on the items that they go into, by either
abbrev put : Problem → Table → Table → ℕ → ℕ → ℕ → ℕ
put m arriving short i j v = per_unit m i j * arriving i v * short j v

put_down : (m : Problem) (arriving short : Table) → sum_cells m (λ i v. arriving i v * taken_by_others m short i v) ≡ sum_to (item_count m) (λ i. sum_to m.periods (λ v. sum_to (item_count m) (λ j. put m arriving short i j v)))
put_down m arriving short =
    cells_same m (λ i v. arriving i v * taken_by_others m short i v) (λ i v. sum_to (item_count m) (λ j. put m arriving short i j v)) (λ i v low high v_low v_high.
    sym (sum_to-times (item_count m) (arriving i v) (λ j. per_unit m i j * short j v))
    ∙ sum_to-same (item_count m) (λ j. arriving i v * (per_unit m i j * short j v)) (λ j. put m arriving short i j v) (λ j j_low j_high. omega arith))

put_up : (m : Problem) (arriving short : Table) → sum_cells m (λ j v. sum_to (item_count m) (λ i. per_unit m i j * arriving i v) * short j v) ≡ sum_to (item_count m) (λ j. sum_to m.periods (λ v. sum_to (item_count m) (λ i. put m arriving short i j v)))
put_up m arriving short =
    cells_same m (λ j v. sum_to (item_count m) (λ i. per_unit m i j * arriving i v) * short j v) (λ j v. sum_to (item_count m) (λ i. put m arriving short i j v)) (λ j v low high v_low v_high. times_sum (item_count m) (short j v) (λ i. per_unit m i j * arriving i v))

put_same : (n t : ℕ) (f : ℕ → ℕ → ℕ → ℕ) → sum_to n (λ i. sum_to t (λ v. sum_to n (λ j. f i j v))) ≡ sum_to n (λ j. sum_to t (λ v. sum_to n (λ i. f i j v)))
put_same n t f =
    sum_to-same n (λ i. sum_to t (λ v. sum_to n (λ j. f i j v))) (λ i. sum_to n (λ j. sum_to t (λ v. f i j v))) (λ i low high. sum_to-swap t n (λ v j. f i j v))
    ∙ sum_to-swap n n (λ i j. sum_to t (λ v. f i j v))
    ∙ sum_to-same n (λ j. sum_to n (λ i. sum_to t (λ v. f i j v))) (λ j. sum_to t (λ v. sum_to n (λ i. f i j v))) (λ j low high. sum_to-swap n t (λ i v. f i j v))

charge_at : (b : Bool) (a x : ℕ) → (if b then a else 0) * x ≡ a * (if b then x else 0)
charge_at true a x = refl
charge_at false a x = omega arith

pub shares_cost : (m : Problem) (start backlog short share charge : Table) → AreShortfalls m start backlog short → AreCharges m start share charge → sum_cells m (λ i t. share i t * short i t) ≡ sum_cells m (λ i v. charge i v * backlog i v)
shares_cost m start backlog short share charge are charges =
    let load = charges.load in
    let arriving = λ (i : ℕ) (v : ℕ). arriving_load m start load i v in
    let from_components = λ (j : ℕ) (v : ℕ). sum_to (item_count m) (λ i. per_unit m i j * arriving i v) in
    let by_load : sum_cells m (λ i t. load i t * short i t) ≡ sum_cells m (λ i t. share i t * short i t) + sum_cells m (λ j v. from_components j v * short j v) =
    cells_same m (λ i t. load i t * short i t) (λ i t. share i t * short i t + from_components i t * short i t) (λ i t low high t_low t_high.
    omega (arith, ap (λ x. x * short i t) (charges.loads.each i t low high t_low t_high)))
    ∙ cells_add m (λ i t. share i t * short i t) (λ j v. from_components j v * short j v) in
    let by_owed : sum_cells m (λ i v. arriving i v * (owed m backlog i v + taken_by_others m short i v)) ≡ sum_cells m (λ i v. arriving i v * owed m backlog i v) + sum_cells m (λ i v. arriving i v * taken_by_others m short i v) =
    cells_same m (λ i v. arriving i v * (owed m backlog i v + taken_by_others m short i v)) (λ i v. arriving i v * owed m backlog i v + arriving i v * taken_by_others m short i v) (λ i v low high v_low v_high. omega arith)
    ∙ cells_add m (λ i v. arriving i v * owed m backlog i v) (λ i v. arriving i v * taken_by_others m short i v) in
    let by_charge : sum_cells m (λ i v. arriving i v * owed m backlog i v) ≡ sum_cells m (λ i v. charge i v * backlog i v) =
    cells_same m (λ i v. arriving i v * owed m backlog i v) (λ i v. charge i v * backlog i v) (λ i v low high v_low v_high.
    sym (ap (λ x. x * backlog i v) (charges.each i v low high v_low v_high) ∙ charge_at (may_be_late m i v) (arriving i v) (backlog i v))) in
    omega (
      arith,
      by_load,
      by_owed,
      by_charge,
      loads_cost m start backlog short load are,
      put_down m arriving short,
      put_up m arriving short,
      put_same (item_count m) m.periods (put m arriving short),
    )

pub shares_paid : (m : Problem) (start backlog short share charge price : Table) → AreShortfalls m start backlog short → AreCharges m start share charge → EachCell m (λ i v. charge i v ≤ price i v) → sum_cells m (λ i t. share i t * short i t) ≤ sum_cells m (λ i v. price i v * backlog i v)
shares_paid m start backlog short share charge price are charges within =
    omega (
      arith,
      shares_cost m start backlog short share charge are charges,
      cells_le m (λ i v. charge i v * backlog i v) (λ i v. price i v * backlog i v) (λ i v low high v_low v_high. omega (arith, mul-le-mul_left (backlog i v) (within i v low high v_low v_high))),
    )

-- the row of quantities and backlogs
pub rows_hold : (m : Problem) (rank : ℕ → ℕ) (start share charge : Table) → IsRanking m rank → AreOnTime m start → AreCharges m start share charge → (p : Plan) → IsFeasible m p → sum_cells m (λ i t. share i t * start i t) ≤ sum_cells m (λ i t. share i t * sum_to t (p.make i)) + sum_cells m (λ i v. charge i v * p.backlog i v)
rows_hold m rank start share charge ranks is charges p f =
    let (short, are) = shortfalls_exist m rank start p.backlog ranks in
    let hold = starts_hold m rank start short ranks is p f are in
    omega (
      arith,
      shares_cost m start p.backlog short share charge are charges,
      cells_le m (λ i t. share i t * start i t) (λ i t. share i t * sum_to t (p.make i) + share i t * short i t) (λ i t low high t_low t_high. omega (arith, mul-le-mul_left (share i t) (hold i t low high t_low t_high))),
      cells_add m (λ i t. share i t * sum_to t (p.make i)) (λ i t. share i t * short i t),
    )

-- there are loads, and they are one number
abbrev next_load : Problem → (start share : Table) → Table → Table
next_load m start share load = λ j v. share j v + sum_to (item_count m) (λ i. per_unit m i j * arriving_load m start load i v)

abbrev top_rank : Problem → (ℕ → ℕ) → ℕ
top_rank m rank = greatest_to (item_count m) rank

arriving_same : (m : Problem) (start a b : Table) (i v : ℕ) → ((t : ℕ) → 1 ≤ t → t ≤ m.periods → a i t ≡ b i t) → arriving_load m start a i v ≡ arriving_load m start b i v
arriving_same m start a b i v same = sum_to-same m.periods _ _ (λ t low high. ap (λ x. if arrival m i t == v then (if start i t == 0 then 0 else x) else 0) (same t low high))

load_goes_by : (m : Problem) (rank : ℕ → ℕ) (start share : Table) → IsRanking m rank → GoesBy m (λ i. top_rank m rank - rank i) (next_load m start share)
load_goes_by m rank start share ranks = λ a b j v low high v_low v_high same.
    ap (λ x. share j v + x)
    (sum_to-same (item_count m) (λ i. per_unit m i j * arriving_load m start a i v) (λ i. per_unit m i j * arriving_load m start b i v) (λ i i_low i_high.
    takes_same (per_unit m i j) (arriving_load m start a i v) (arriving_load m start b i v) (λ goes.
    arriving_same m start a b i v (λ t t_low t_high. same i t i_low i_high t_low t_high (omega (arith, ranks i j i_low i_high low high goes, greatest_at (item_count m) i rank i_low i_high))))))

pub loads_exist : (m : Problem) (rank : ℕ → ℕ) (start share : Table) → IsRanking m rank → (load : Table) × AreLoads m start share load
loads_exist m rank start share ranks =
    let next = next_load m start share in
    let depth = λ (i : ℕ). top_rank m rank - rank i in
    (solution depth next, record { each = solution_solves m depth next (load_goes_by m rank start share ranks) })

pub charges_exist : (m : Problem) (rank : ℕ → ℕ) (start share : Table) → IsRanking m rank → (charge : Table) × AreCharges m start share charge
charges_exist m rank start share ranks =
    let (loads, are) = loads_exist m rank start share ranks in
    ((λ i v. charge_of m start loads i v), record { load = loads; loads = are; each = λ i v low high v_low v_high. refl })

pub one_load : (m : Problem) (rank : ℕ → ℕ) (start share a b : Table) → IsRanking m rank → AreLoads m start share a → AreLoads m start share b → EachCell m (λ i v. a i v ≡ b i v)
one_load m rank start share a b ranks is_a is_b = solutions_agree m (λ i. top_rank m rank - rank i) (next_load m start share) a b (load_goes_by m rank start share ranks) is_a.each is_b.each

pub one_charge : (m : Problem) (rank : ℕ → ℕ) (start share a b : Table) → IsRanking m rank → AreCharges m start share a → AreCharges m start share b → EachCell m (λ i v. a i v ≡ b i v)
one_charge m rank start share a b ranks is_a is_b = λ i v low high v_low v_high.
    is_a.each i v low high v_low v_high
    ∙ ap (λ x. if may_be_late m i v then x else 0) (arriving_same m start is_a.load is_b.load i v (λ t t_low t_high. one_load m rank start share is_a.load is_b.load ranks is_a.loads is_b.loads i t low high t_low t_high))
    ∙ sym (is_b.each i v low high v_low v_high)

-- two tables of what is on time that agree have the same loads and charges
arriving_agree : (m : Problem) (a b load : Table) (i v : ℕ) → ((t : ℕ) → 1 ≤ t → t ≤ m.periods → a i t ≡ b i t) → arriving_load m a load i v ≡ arriving_load m b load i v
arriving_agree m a b load i v same = sum_to-same m.periods _ _ (λ t low high. ap (λ x. if arrival m i t == v then (if x == 0 then 0 else load i t) else 0) (same t low high))

loads_agree : (m : Problem) (a b share load : Table) → EachCell m (λ i t. a i t ≡ b i t) → AreLoads m a share load → AreLoads m b share load
loads_agree m a b share load same are = record {
  each = λ j v low high v_low v_high.
      are.each j v low high v_low v_high
      ∙ ap (λ x. share j v + x) (sum_to-same (item_count m) (λ i. per_unit m i j * arriving_load m a load i v) (λ i. per_unit m i j * arriving_load m b load i v) (λ i i_low i_high.
      ap (λ x. per_unit m i j * x) (arriving_agree m a b load i v (λ t t_low t_high. same i t i_low i_high t_low t_high))));
}

pub charges_agree : (m : Problem) (a b share charge : Table) → EachCell m (λ i t. a i t ≡ b i t) → AreCharges m a share charge → AreCharges m b share charge
charges_agree m a b share charge same are = record {
  load = are.load;
  loads = loads_agree m a b share are.load same are.loads;
  each = λ i v low high v_low v_high.
      are.each i v low high v_low v_high
      ∙ ap (λ x. if may_be_late m i v then x else 0) (arriving_agree m a b are.load i v (λ t t_low t_high. same i t low high t_low t_high));
}

-- where no share is more than 0, there is no load and no charge
abbrev nothing : Table
nothing = λ i t. 0

none_if : (c : Bool) (x : ℕ) → x ≡ 0 → (if c then x else 0) ≡ 0
none_if true x none = none
none_if false x none = refl

arriving_none : (m : Problem) (start : Table) (i v : ℕ) → arriving_load m start nothing i v ≡ 0
arriving_none m start i v =
    sum_to-same m.periods _ (λ t. 0) (λ t low high. none_if (arrival m i t == v) _ (none_if (start i t == 0) 0 refl))
    ∙ sum_to-zero m.periods

none_loaded : (m : Problem) (start share : Table) → EachCell m (λ i t. share i t ≡ 0) → AreLoads m start share nothing
none_loaded m start share none = record {
  each = λ j v low high v_low v_high.
      let from_components : sum_to (item_count m) (λ i. per_unit m i j * arriving_load m start nothing i v) ≡ 0 =
      sum_to-same (item_count m) (λ i. per_unit m i j * arriving_load m start nothing i v) (λ i. 0) (λ i i_low i_high. omega (arith, ap (λ x. per_unit m i j * x) (arriving_none m start i v)))
      ∙ sum_to-zero (item_count m) in
      omega (arith, none j v low high v_low v_high, from_components);
}

none_charged : (m : Problem) (start share : Table) → EachCell m (λ i t. share i t ≡ 0) → AreCharges m start share nothing
none_charged m start share none = record {
  load = nothing;
  loads = none_loaded m start share none;
  each = λ i v low high v_low v_high. sym (none_if (may_be_late m i v) _ (arriving_none m start i v));
}

pub no_share_charged : (m : Problem) (rank : ℕ → ℕ) (start share charge : Table) → IsRanking m rank → EachCell m (λ i t. share i t ≡ 0) → AreCharges m start share charge → EachCell m (λ i v. charge i v ≡ 0)
no_share_charged m rank start share charge ranks none are = one_charge m rank start share charge nothing ranks are (none_charged m start share none)
