-- Every feasible plan has started all that is on time, but for its shortfalls.
use Rattle.std.proofs.Common.{◌≡◌, ◌≢◌, ◌≤◌, ◌<◌, ◌+◌, ◌-◌, ◌*◌, ◌∙◌, ◌⊎◌, ⊎_elim, inl, inr, ℕ, zero, suc, refl, sym, ap, arith, false, List}
use Rattle.std.specs.Prelude.{if◌then◌else◌, ◌==◌, ◌&&◌, nat_lt, is_some, Option, Some, None, IsNone}
use Rattle.std.proofs.lemmas.Bool.{cases_Bool, cases_eq, cases_lt}
use Rattle.lot_sizing.specs.Sums.{sum_to}
use Rattle.lot_sizing.specs.Problem.{Problem, item_at, item_count, demand, per_unit}
use Rattle.lot_sizing.specs.Plan.{EachCell, Plan, Table, IsFeasible, used_up}
use Rattle.lot_sizing.specs.Totals.{IsRanking}
use Rattle.lot_sizing.proofs.Sums.{sum_to-same, sum_to-le, sum_to-add, sum_to-times, sum_to-swap, sum_to-front, sum_to-zero}
use Rattle.lot_sizing.proofs.Plans.{stock_after_some, backlog_after_some}
use Rattle.lot_sizing.proofs.Lots.{arrived}
use Rattle.lot_sizing.proofs.Least.{balance_so_far}
use Rattle.must_start.specs.MustStart.{may_be_late, must_arrive, taken_by_others}
use Rattle.must_start.proofs.Starts.{end_here, end_later, takes_le}
use Rattle.late_starts.specs.OnTime.{AreOnTime, AreShortfalls, HasStartedBut, arrival, owed}
use Rattle.late_starts.proofs.Solving.{GoesBy, solution, solution_solves, solutions_agree}
use Rattle.late_starts.proofs.Starts.{arrival_high, arrival_last, arrival_low, arrival_near, taken_same}

-- all that is owed in a feasible plan is owed where it may be
late_where : (m : Problem) (i t : ℕ) (o : Option (List ℕ)) → (nat_lt t m.periods && is_some o) ≡ false → t ≤ m.periods → IsNone o ⊎ (t ≡ m.periods)
late_where m i t None never high = inl refl
late_where m i t (Some x) never high = inr (⊎_elim (λ before. absurd (grind (arith, never, before))) (λ last. omega (arith, last, high)) (cases_lt t m.periods))

owed_all : (m : Problem) (p : Plan) (i t : ℕ) → IsFeasible m p → 1 ≤ i → i ≤ item_count m → 1 ≤ t → t ≤ m.periods → p.backlog i t ≡ owed m p.backlog i t
owed_all m p i t f low high t_low t_high =
    ⊎_elim
    (λ late. sym (ap (λ c. if c then p.backlog i t else 0) late))
    (λ never.
    let allowed = f.backlog i t low high t_low t_high in
    let nothing : p.backlog i t ≡ 0 = ⊎_elim (λ none. allowed.0 none) (λ last. allowed.1 last) (late_where m i t (item_at m i).backlog_cost never t_high) in
    nothing ∙ sym (ap (λ c. if c then p.backlog i t else 0) never))
    (cases_Bool (may_be_late m i t))

-- what goes into other items up to a period
used_so_far : (m : Problem) (make : Table) (i t : ℕ) → sum_to t (used_up m make i) ≡ sum_to (item_count m) (λ j. per_unit m i j * sum_to t (make j))
used_so_far m make i t =
    sum_to-swap t (item_count m) (λ u j. per_unit m i j * make j u)
    ∙ sum_to-same (item_count m) _ _ (λ j low high. sum_to-times t (per_unit m i j) (make j))

-- the stock has what the end asks for
end_stock : (m : Problem) (p : Plan) (i t : ℕ) → IsFeasible m p → 1 ≤ i → i ≤ item_count m → (if t == m.periods then (item_at m i).end_min else 0) ≤ p.stock i t
end_stock m p i t f low high =
    ⊎_elim
    (λ last. omega (arith, end_here t m.periods (item_at m i).end_min last, (f.end_stock i low high).0, ap (p.stock i) last))
    (λ before. omega (arith, end_later t m.periods (item_at m i).end_min before))
    (cases_eq t m.periods)

-- what must arrive by a period has been started the lead time before, but for what is owed and what others fall short
arrives_but : (m : Problem) (p : Plan) (start : Table) (i t less : ℕ) → IsFeasible m p → 1 ≤ i → i ≤ item_count m → 1 ≤ t → t ≤ m.periods → taken_by_others m start i t ≤ sum_to (item_count m) (λ j. per_unit m i j * sum_to t (p.make j)) + less → must_arrive m start i t ≤ sum_to (t - (item_at m i).lead) (p.make i) + (owed m p.backlog i t + less)
arrives_but m p start i t less f low high t_low t_high parents =
    omega (
      arith,
      parents,
      balance_so_far m p i low high f.balance t t_high,
      arrived m p.make i t,
      sum_to-add t (demand m i) (used_up m p.make i),
      used_so_far m p.make i t,
      stock_after_some m p i t t_low,
      backlog_after_some p i t t_low,
      owed_all m p i t f low high t_low t_high,
      end_stock m p i t f low high,
    )

-- a shortfall by cases
short_none : (m : Problem) (s x : ℕ) → s ≡ 0 → (if s == 0 then 0 else x) ≡ 0
short_none m s x none = grind (arith, none)

short_some : (m : Problem) (s x : ℕ) → s ≢ 0 → (if s == 0 then 0 else x) ≡ x
short_some m s x some = grind (arith, some)

-- what others take, but for their shortfalls
parents_but : (m : Problem) (p : Plan) (start short : Table) (i t : ℕ) → ((j : ℕ) → 1 ≤ j → j ≤ item_count m → 0 < per_unit m i j → start j t ≤ sum_to t (p.make j) + short j t) → taken_by_others m start i t ≤ sum_to (item_count m) (λ j. per_unit m i j * sum_to t (p.make j)) + taken_by_others m short i t
parents_but m p start short i t each =
    omega (
      arith,
      sum_to-le (item_count m) (λ j. per_unit m i j * start j t) (λ j. per_unit m i j * sum_to t (p.make j) + per_unit m i j * short j t) (λ j low high. omega (arith, takes_le (per_unit m i j) (start j t) (sum_to t (p.make j) + short j t) (each j low high))),
      sum_to-add (item_count m) (λ j. per_unit m i j * sum_to t (p.make j)) (λ j. per_unit m i j * short j t),
    )

hold_below : (m : Problem) (rank : ℕ → ℕ) (start short : Table) → IsRanking m rank → AreOnTime m start → (p : Plan) → IsFeasible m p → AreShortfalls m start p.backlog short → (n i t : ℕ) → 1 ≤ i → i ≤ item_count m → 1 ≤ t → t ≤ m.periods → rank i < n → start i t ≤ sum_to t (p.make i) + short i t
hold_below m rank start short ranks is p f are zero i t low high t_low t_high below = absurd (omega (arith, below))
hold_below m rank start short ranks is p f are (suc n) i t low high t_low t_high below =
    let v = arrival m i t in
    let v_low = arrival_low m i t t_low t_high in
    let v_high = arrival_high m i t in
    ⊎_elim
    (λ none. omega (arith, none))
    (λ some.
    let parents = parents_but m p start short i v (λ j j_low j_high goes. hold_below m rank start short ranks is p f are n j v j_low j_high v_low v_high (omega (arith, below, ranks i j low high j_low j_high goes))) in
    omega (
      arith,
      is.each i t low high t_low t_high,
      arrives_but m p start i v (taken_by_others m short i v) f low high v_low v_high parents,
      are.each i t low high t_low t_high,
      short_some m (start i t) (owed m p.backlog i v + taken_by_others m short i v) some,
      sum_to-front (v - (item_at m i).lead) t (p.make i) (arrival_near m i t),
    ))
    (cases_eq (start i t) 0)

pub starts_hold : (m : Problem) (rank : ℕ → ℕ) (start short : Table) → IsRanking m rank → AreOnTime m start → (p : Plan) → IsFeasible m p → AreShortfalls m start p.backlog short → HasStartedBut m start short p
starts_hold m rank start short ranks is p f are = λ i t low high t_low t_high. hold_below m rank start short ranks is p f are (suc (rank i)) i t low high t_low t_high (omega arith)

-- nothing is owed in the end
owed_last : (m : Problem) (backlog : Table) (i t : ℕ) → t ≡ m.periods → owed m backlog i t ≡ 0
owed_last m backlog i t last = let never : may_be_late m i t ≡ false = grind (arith, last) in ap (λ c. if c then backlog i t else 0) never

taken_none : (m : Problem) (a : Table) (i u : ℕ) → ((j : ℕ) → 1 ≤ j → j ≤ item_count m → 0 < per_unit m i j → a j u ≡ 0) → taken_by_others m a i u ≡ 0
taken_none m a i u none =
    taken_same m a (λ j t. 0) i u none
    ∙ sum_to-same (item_count m) (λ j. per_unit m i j * 0) (λ j. 0) (λ j low high. omega arith)
    ∙ sum_to-zero (item_count m)

end_below : (m : Problem) (rank : ℕ → ℕ) (start backlog short : Table) → IsRanking m rank → AreShortfalls m start backlog short → (n i t : ℕ) → 1 ≤ i → i ≤ item_count m → 1 ≤ t → t ≤ m.periods → rank i < n → m.periods ≤ t + (item_at m i).lead → short i t ≡ 0
end_below m rank start backlog short ranks are zero i t low high t_low t_high below late = absurd (omega (arith, below))
end_below m rank start backlog short ranks are (suc n) i t low high t_low t_high below late =
    let v = arrival m i t in
    let last : v ≡ m.periods = arrival_last m i t late in
    let parents = taken_none m short i v (λ j j_low j_high goes. end_below m rank start backlog short ranks are n j v j_low j_high (arrival_low m i t t_low t_high) (arrival_high m i t) (omega (arith, below, ranks i j low high j_low j_high goes)) (omega (arith, last))) in
    ⊎_elim
    (λ none. are.each i t low high t_low t_high ∙ short_none m (start i t) _ none)
    (λ some. omega (arith, are.each i t low high t_low t_high, short_some m (start i t) (owed m backlog i v + taken_by_others m short i v) some, owed_last m backlog i v last, parents))
    (cases_eq (start i t) 0)

pub shortfalls_end : (m : Problem) (rank : ℕ → ℕ) (start backlog short : Table) → IsRanking m rank → AreShortfalls m start backlog short → EachCell m (λ i t. m.periods ≤ t + (item_at m i).lead → short i t ≡ 0)
shortfalls_end m rank start backlog short ranks are = λ i t low high t_low t_high late. end_below m rank start backlog short ranks are (suc (rank i)) i t low high t_low t_high (omega arith) late

-- there are shortfalls, and they are one number
abbrev next_short : Problem → (start backlog : Table) → Table → Table
next_short m start backlog short = λ i t. if start i t == 0 then 0 else owed m backlog i (arrival m i t) + taken_by_others m short i (arrival m i t)

short_goes_by : (m : Problem) (rank : ℕ → ℕ) (start backlog : Table) → IsRanking m rank → GoesBy m rank (next_short m start backlog)
short_goes_by m rank start backlog ranks = λ a b i t low high t_low t_high same.
    let v = arrival m i t in
    ap (λ taken. if start i t == 0 then 0 else owed m backlog i v + taken)
    (taken_same m a b i v (λ j j_low j_high goes. same j v j_low j_high (arrival_low m i t t_low t_high) (arrival_high m i t) (ranks i j low high j_low j_high goes)))

pub shortfalls_exist : (m : Problem) (rank : ℕ → ℕ) (start backlog : Table) → IsRanking m rank → (short : Table) × AreShortfalls m start backlog short
shortfalls_exist m rank start backlog ranks =
    let next = next_short m start backlog in
    (solution rank next, record { each = solution_solves m rank next (short_goes_by m rank start backlog ranks) })

pub one_shortfall : (m : Problem) (rank : ℕ → ℕ) (start backlog a b : Table) → IsRanking m rank → AreShortfalls m start backlog a → AreShortfalls m start backlog b → EachCell m (λ i t. a i t ≡ b i t)
one_shortfall m rank start backlog a b ranks is_a is_b = solutions_agree m rank (next_short m start backlog) a b (short_goes_by m rank start backlog ranks) is_a.each is_b.each
