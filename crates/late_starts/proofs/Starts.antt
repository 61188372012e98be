-- What is on time is one number, rises, and is the greatest of what must arrive.
use Rattle.std.proofs.Common.{◌≡◌, ◌≤◌, ◌<◌, ◌+◌, ◌-◌, ◌*◌, ◌∙◌, ⊎_elim, ℕ, zero, suc, refl, sym, ap, arith, Bool, true, false, List}
use Rattle.std.specs.Prelude.{if◌then◌else◌, ◌&&◌, nat_lt, is_some, min, Option, Some, None, IsNone}
use Rattle.std.proofs.lemmas.Bool.{cases_eq}
use Rattle.lot_sizing.specs.Problem.{EachItem, Problem, item_at, item_count, demand, per_unit}
use Rattle.lot_sizing.specs.Net.{asked_of, asked_to}
use Rattle.lot_sizing.specs.Plan.{EachCell, Table}
use Rattle.lot_sizing.specs.Totals.{AreLargestTotals, IsRanking}
use Rattle.lot_sizing.proofs.Sums.{sum_to-same, sum_to-le, sum_to-front}
use Rattle.must_start.specs.MustStart.{AreMustStart, greatest_to, may_be_late, must_arrive, must_arrive_in_time, taken_by_others}
use Rattle.must_start.proofs.Greatest.{greatest_at, greatest_le, min_left, min_right, min_rises}
use Rattle.must_start.proofs.Starts.{asked_within, end_later, takes_le, takes_same}
use Rattle.late_starts.specs.OnTime.{AreOnTime, arrival}
use Rattle.late_starts.proofs.Solving.{GoesBy, solution, solution_solves, solutions_agree}

-- lots arrive within the periods
min_some : (a b : ℕ) → 1 ≤ a → 1 ≤ b → 1 ≤ min a b
min_some a b h k = grind (arith, h, k)

pub arrival_low : (m : Problem) (i t : ℕ) → 1 ≤ t → t ≤ m.periods → 1 ≤ arrival m i t
arrival_low m i t low high = min_some (t + (item_at m i).lead) m.periods (omega (arith, low)) (omega (arith, low, high))

pub arrival_high : (m : Problem) (i t : ℕ) → arrival m i t ≤ m.periods
arrival_high m i t = min_right (t + (item_at m i).lead) m.periods

pub arrival_near : (m : Problem) (i t : ℕ) → arrival m i t - (item_at m i).lead ≤ t
arrival_near m i t = omega (arith, min_left (t + (item_at m i).lead) m.periods)

pub arrival_rises : (m : Problem) (i t u : ℕ) → t ≤ u → arrival m i t ≤ arrival m i u
arrival_rises m i t u h = min_rises (t + (item_at m i).lead) (u + (item_at m i).lead) m.periods (omega (arith, h))

min_last : (a b : ℕ) → b ≤ a → min a b ≡ b
min_last a b h = grind (arith, h)

pub arrival_last : (m : Problem) (i t : ℕ) → m.periods ≤ t + (item_at m i).lead → arrival m i t ≡ m.periods
arrival_last m i t h = min_last (t + (item_at m i).lead) m.periods h

-- what others take of an item goes by the tables of those that take some
pub taken_same : (m : Problem) (a b : Table) (i u : ℕ) → ((j : ℕ) → 1 ≤ j → j ≤ item_count m → 0 < per_unit m i j → a j u ≡ b j u) → taken_by_others m a i u ≡ taken_by_others m b i u
taken_same m a b i u same = sum_to-same (item_count m) (λ j. per_unit m i j * a j u) (λ j. per_unit m i j * b j u) (λ j low high. takes_same (per_unit m i j) (a j u) (b j u) (same j low high))

taken_le : (m : Problem) (a b : Table) (i u v : ℕ) → ((j : ℕ) → 1 ≤ j → j ≤ item_count m → 0 < per_unit m i j → a j u ≤ b j v) → taken_by_others m a i u ≤ taken_by_others m b i v
taken_le m a b i u v less = sum_to-le (item_count m) (λ j. per_unit m i j * a j u) (λ j. per_unit m i j * b j v) (λ j low high. takes_le (per_unit m i j) (a j u) (b j v) (less j low high))

-- it is one number
starts_go_by : (m : Problem) (rank : ℕ → ℕ) → IsRanking m rank → GoesBy m rank (λ a i t. must_arrive m a i (arrival m i t))
starts_go_by m rank ranks = λ a b i t low high t_low t_high same.
    ap (λ taken. (asked_to (asked_of m i) (arrival m i t) + taken) - (item_at m i).opening)
    (taken_same m a b i (arrival m i t) (λ j j_low j_high goes. same j (arrival m i t) j_low j_high (arrival_low m i t t_low t_high) (arrival_high m i t) (ranks i j low high j_low j_high goes)))

pub one_on_time : (m : Problem) (rank : ℕ → ℕ) (a b : Table) → IsRanking m rank → AreOnTime m a → AreOnTime m b → EachCell m (λ i t. a i t ≡ b i t)
one_on_time m rank a b ranks is_a is_b = solutions_agree m rank (λ c i t. must_arrive m c i (arrival m i t)) a b (starts_go_by m rank ranks) is_a.each is_b.each

-- there is a table of what is on time: nothing before the first period, and from there on what must arrive
abbrev since_first : (ℕ → ℕ) → ℕ → ℕ
since_first f zero = 0
since_first f (suc t) = f (suc t)

since_first_at : (f : ℕ → ℕ) (t : ℕ) → 1 ≤ t → since_first f t ≡ f t
since_first_at f zero low = absurd (omega (arith, low))
since_first_at f (suc t) low = refl

abbrev arriving : Problem → Table → Table
arriving m start = λ i t. must_arrive m start i (arrival m i t)

abbrev next_start : Problem → Table → Table
next_start m start = λ i. since_first (arriving m start i)

next_goes_by : (m : Problem) (rank : ℕ → ℕ) → IsRanking m rank → GoesBy m rank (next_start m)
next_goes_by m rank ranks = λ a b i t low high t_low t_high same.
    since_first_at (arriving m a i) t t_low
    ∙ starts_go_by m rank ranks a b i t low high t_low t_high same
    ∙ sym (since_first_at (arriving m b i) t t_low)

pub on_time_exists : (m : Problem) (rank : ℕ → ℕ) → IsRanking m rank → (start : Table) × AreOnTime m start
on_time_exists m rank ranks =
    let next = next_start m in
    let start = solution rank next in (
      start,
      record {
        none = λ i low high. refl;
        each = λ i t low high t_low t_high. solution_solves m rank next (next_goes_by m rank ranks) i t low high t_low t_high ∙ since_first_at (arriving m start i) t t_low;
      },
    )

-- what is asked for rises
pub asked_rises : (m : Problem) (i u v : ℕ) → u ≤ v → v ≤ m.periods → asked_to (asked_of m i) u ≤ asked_to (asked_of m i) v
asked_rises m i u v h v_high =
    ⊎_elim
    (λ same. omega (arith, ap (asked_to (asked_of m i)) same))
    (λ apart. omega (arith, sum_to-front u v (demand m i) h, end_later u m.periods (item_at m i).end_min (λ last. apart (omega (arith, last, h, v_high)))))
    (cases_eq u v)

arrives_rises : (m : Problem) (a : Table) (i u v : ℕ) → u ≤ v → v ≤ m.periods → ((j : ℕ) → 1 ≤ j → j ≤ item_count m → 0 < per_unit m i j → a j u ≤ a j v) → must_arrive m a i u ≤ must_arrive m a i v
arrives_rises m a i u v h v_high less = omega (arith, asked_rises m i u v h v_high, taken_le m a a i u v less)

-- it doesn't fall
rises_below : (m : Problem) (rank : ℕ → ℕ) (start : Table) → IsRanking m rank → AreOnTime m start → (n i u v : ℕ) → 1 ≤ i → i ≤ item_count m → rank i < n → u ≤ v → v ≤ m.periods → start i u ≤ start i v
rises_below m rank start ranks is zero i u v low high below h v_high = absurd (omega (arith, below))
rises_below m rank start ranks is (suc n) i zero v low high below h v_high = omega (arith, is.none i low high)
rises_below m rank start ranks is (suc n) i (suc s) v low high below h v_high =
    let u = suc s in
    omega (
      arith,
      is.each i u low high (omega arith) (omega (arith, h, v_high)),
      is.each i v low high (omega (arith, h)) v_high,
      arrives_rises m start i (arrival m i u) (arrival m i v) (arrival_rises m i u v h) (arrival_high m i v) (λ j j_low j_high goes. rises_below m rank start ranks is n j (arrival m i u) (arrival m i v) j_low j_high (omega (arith, below, ranks i j low high j_low j_high goes)) (arrival_rises m i u v h) (arrival_high m i v)),
    )

pub on_time_rises : (m : Problem) (rank : ℕ → ℕ) (start : Table) → IsRanking m rank → AreOnTime m start → (i u v : ℕ) → 1 ≤ i → i ≤ item_count m → u ≤ v → v ≤ m.periods → start i u ≤ start i v
on_time_rises m rank start ranks is i u v low high h v_high = rises_below m rank start ranks is (suc (rank i)) i u v low high (omega arith) h v_high

-- so it is the greatest of what must arrive
greatest_last : (n : ℕ) (f : ℕ → ℕ) → 1 ≤ n → ((k : ℕ) → 1 ≤ k → k ≤ n → f k ≤ f n) → greatest_to n f ≡ f n
greatest_last n f some less = omega (arith, greatest_le n f (f n) less, greatest_at n n f some (omega arith))

pub greatest_arrives : (m : Problem) (rank : ℕ → ℕ) (start : Table) → IsRanking m rank → AreOnTime m start → (i v : ℕ) → 1 ≤ i → i ≤ item_count m → 1 ≤ v → v ≤ m.periods → greatest_to v (must_arrive m start i) ≡ must_arrive m start i v
greatest_arrives m rank start ranks is i v low high v_low v_high =
    greatest_last v (must_arrive m start i) v_low (λ u u_low u_high. arrives_rises m start i u v u_high v_high (λ j j_low j_high goes. on_time_rises m rank start ranks is j u v j_low j_high u_high v_high))

pub on_time_greatest : (m : Problem) (rank : ℕ → ℕ) (start : Table) → IsRanking m rank → AreOnTime m start → EachCell m (λ i t. start i t ≡ greatest_to (arrival m i t) (must_arrive m start i))
on_time_greatest m rank start ranks is = λ i t low high t_low t_high. is.each i t low high t_low t_high ∙ sym (greatest_arrives m rank start ranks is i (arrival m i t) low high (arrival_low m i t t_low t_high) (arrival_high m i t))

-- what must have been started is within it
in_time_le : (b : Bool) (x : ℕ) → (if b then 0 else x) ≤ x
in_time_le true x = omega arith
in_time_le false x = omega arith

must_below : (m : Problem) (rank : ℕ → ℕ) (must start : Table) → IsRanking m rank → AreMustStart m must → AreOnTime m start → (n i t : ℕ) → 1 ≤ i → i ≤ item_count m → 1 ≤ t → t ≤ m.periods → rank i < n → must i t ≤ start i t
must_below m rank must start ranks are is zero i t low high t_low t_high below = absurd (omega (arith, below))
must_below m rank must start ranks are is (suc n) i t low high t_low t_high below =
    let far = arrival m i t in
    omega (
      arith,
      are.each i t low high t_low t_high,
      on_time_greatest m rank start ranks is i t low high t_low t_high,
      greatest_le far (must_arrive_in_time m must i) (greatest_to far (must_arrive m start i)) (λ u u_low u_high. omega (
        arith,
        in_time_le (may_be_late m i u) (must_arrive m must i u),
        taken_le m must start i u u (λ j j_low j_high goes. must_below m rank must start ranks are is n j u j_low j_high u_low (omega (arith, u_high, arrival_high m i t)) (omega (arith, below, ranks i j low high j_low j_high goes))),
        greatest_at far u (must_arrive m start i) u_low u_high,
      )),
    )

pub must_within : (m : Problem) (rank : ℕ → ℕ) (must start : Table) → IsRanking m rank → AreMustStart m must → AreOnTime m start → EachCell m (λ i t. must i t ≤ start i t)
must_within m rank must start ranks are is = λ i t low high t_low t_high. must_below m rank must start ranks are is (suc (rank i)) i t low high t_low t_high (omega arith)

-- and the same, where nothing may be late
and_false : (b : Bool) → (b && false) ≡ false
and_false true = refl
and_false false = refl

none_late : (m : Problem) (i t : ℕ) (o : Option (List ℕ)) → IsNone o → (nat_lt t m.periods && is_some o) ≡ false
none_late m i t None none = and_false (nat_lt t m.periods)
none_late m i t (Some x) none = absurd (cc none)

in_time_all : (b : Bool) (x : ℕ) → b ≡ false → x ≤ (if b then 0 else x)
in_time_all b x never = omega (arith, ap (λ c. if c then 0 else x) never)

never_below : (m : Problem) (rank : ℕ → ℕ) (must start : Table) → IsRanking m rank → AreMustStart m must → AreOnTime m start → EachItem m (λ i. IsNone (item_at m i).backlog_cost) → (n i t : ℕ) → 1 ≤ i → i ≤ item_count m → 1 ≤ t → t ≤ m.periods → rank i < n → start i t ≤ must i t
never_below m rank must start ranks are is none zero i t low high t_low t_high below = absurd (omega (arith, below))
never_below m rank must start ranks are is none (suc n) i t low high t_low t_high below =
    let far = arrival m i t in
    omega (
      arith,
      are.each i t low high t_low t_high,
      is.each i t low high t_low t_high,
      taken_le m start must i far far (λ j j_low j_high goes. never_below m rank must start ranks are is none n j far j_low j_high (arrival_low m i t t_low t_high) (arrival_high m i t) (omega (arith, below, ranks i j low high j_low j_high goes))),
      in_time_all (may_be_late m i far) (must_arrive m must i far) (none_late m i far (item_at m i).backlog_cost (none i low high)),
      greatest_at far far (must_arrive_in_time m must i) (arrival_low m i t t_low t_high) (omega arith),
    )

pub never_late : (m : Problem) (rank : ℕ → ℕ) (must start : Table) → IsRanking m rank → AreMustStart m must → AreOnTime m start → EachItem m (λ i. IsNone (item_at m i).backlog_cost) → EachCell m (λ i t. start i t ≡ must i t)
never_late m rank must start ranks are is none = λ i t low high t_low t_high.
    omega (arith, must_within m rank must start ranks are is i t low high t_low t_high, never_below m rank must start ranks are is none (suc (rank i)) i t low high t_low t_high (omega arith))

-- it is within the largest total
pub within_below : (m : Problem) (rank total : ℕ → ℕ) (start : Table) → IsRanking m rank → AreLargestTotals m total → AreOnTime m start → EachItem m (λ i. (item_at m i).end_min ≤ (item_at m i).end_max) → (n i t : ℕ) → 1 ≤ i → i ≤ item_count m → rank i < n → 1 ≤ t → t ≤ m.periods → start i t ≤ total i
within_below m rank total start ranks totals is ends zero i t low high below t_low t_high = absurd (omega (arith, below))
within_below m rank total start ranks totals is ends (suc n) i t low high below t_low t_high =
    omega (
      arith,
      is.each i t low high t_low t_high,
      asked_within m total start i (arrival m i t) totals (ends i low high) low high (arrival_high m i t) (λ j j_low j_high goes. within_below m rank total start ranks totals is ends n j (arrival m i t) j_low j_high (omega (arith, below, ranks i j low high j_low j_high goes)) (arrival_low m i t t_low t_high) (arrival_high m i t)),
    )
