-- Every feasible plan has started what must have been started.
use Rattle.std.proofs.Common.{◌≡◌, ◌≢◌, ◌≤◌, ◌<◌, ◌+◌, ◌-◌, ◌*◌, ◌∙◌, ◌⊎◌, ⊎_elim, inl, inr, ℕ, zero, suc, refl, sym, ap, arith, Bool, true, false}
use Rattle.std.specs.Prelude.{if◌then◌else◌, ◌==◌, ◌&&◌, nat_lt, is_some, min, Option, Some, None, IsNone, List}
use Rattle.std.proofs.lemmas.Bool.{cases_Bool, cases_eq, cases_lt}
use Rattle.std.proofs.Math.Nat.{mul-le-mul_left}
use Rattle.lot_sizing.specs.Sums.{sum_to}
use Rattle.lot_sizing.specs.Problem.{EachItem, Problem, item_at, item_count, demand, per_unit}
use Rattle.lot_sizing.specs.Net.{asked_of, asked_to}
use Rattle.lot_sizing.specs.Plan.{Plan, Table, IsFeasible, used_up}
use Rattle.lot_sizing.specs.Totals.{AreLargestTotals, IsRanking}
use Rattle.lot_sizing.proofs.Sums.{sum_to-same, sum_to-le, sum_to-add, sum_to-times, sum_to-swap, sum_to-front}
use Rattle.lot_sizing.proofs.Plans.{stock_after_some, backlog_after_some}
use Rattle.lot_sizing.proofs.Lots.{arrived}
use Rattle.lot_sizing.proofs.Least.{balance_so_far}
use Rattle.must_start.specs.MustStart.{AreMustStart, greatest_to, may_be_late, must_arrive, must_arrive_in_time, taken_by_others, with_made}
use Rattle.must_start.proofs.Greatest.{greatest_le, greatest_rises, greatest_same, min_left, min_right, min_rises}

-- where nothing may be late, nothing is owed
pub none_or : (o : Option (List ℕ)) → (is_some o ≡ true) ⊎ IsNone o
none_or None = inr refl
none_or (Some x) = inl refl

late_is : (t n : ℕ) (some : Bool) → t < n → some ≡ true → (nat_lt t n && some) ≡ true
late_is t n some low is = grind (arith, low, is)

no_backlog : (m : Problem) (p : Plan) (i t : ℕ) → IsFeasible m p → 1 ≤ i → i ≤ item_count m → 1 ≤ t → t ≤ m.periods → may_be_late m i t ≡ false → p.backlog i t ≡ 0
no_backlog m p i t f low high t_low t_high never =
    let allowed = f.backlog i t low high t_low t_high in
    ⊎_elim
    (λ before. ⊎_elim
    (λ some. absurd (cc (sym never ∙ late_is t m.periods (is_some (item_at m i).backlog_cost) before some)))
    (λ none. allowed.0 none)
    (none_or (item_at m i).backlog_cost))
    (λ last. allowed.1 (omega (arith, last, t_high)))
    (cases_lt t m.periods)

-- what one item takes of another, by two tables that agree or rise where it takes some
pub takes_le : (units a b : ℕ) → (0 < units → a ≤ b) → units * a ≤ units * b
takes_le units a b h =
    ⊎_elim
    (λ goes. mul-le-mul_left units (h goes))
    (λ none. let e : units ≡ 0 = omega (arith, none) in omega (arith, ap (λ k. k * a) e, ap (λ k. k * b) e))
    (cases_lt 0 units)

pub takes_same : (units a b : ℕ) → (0 < units → a ≡ b) → units * a ≡ units * b
takes_same units a b h =
    ⊎_elim
    (λ goes. ap (λ k. units * k) (h goes))
    (λ none. let e : units ≡ 0 = omega (arith, none) in omega (arith, ap (λ k. k * a) e, ap (λ k. k * b) e))
    (cases_lt 0 units)

-- what goes into other items up to a period
used_so_far : (m : Problem) (make : Table) (i t : ℕ) → sum_to t (used_up m make i) ≡ sum_to (item_count m) (λ j. per_unit m i j * sum_to t (make j))
used_so_far m make i t =
    sum_to-swap t (item_count m) (λ u j. per_unit m i j * make j u)
    ∙ sum_to-same (item_count m) _ _ (λ j low high. sum_to-times t (per_unit m i j) (make j))

pub end_here : (t n e : ℕ) → t ≡ n → (if t == n then e else 0) ≡ e
end_here t n e h = grind (arith, h)

pub end_later : (t n e : ℕ) → t ≢ n → (if t == n then e else 0) ≡ 0
end_later t n e h = grind (arith, h)

-- the stock has what the end asks for
end_stock : (m : Problem) (p : Plan) (i t : ℕ) → IsFeasible m p → 1 ≤ i → i ≤ item_count m → (if t == m.periods then (item_at m i).end_min else 0) ≤ p.stock i t
end_stock m p i t f low high =
    ⊎_elim
    (λ last. omega (arith, end_here t m.periods (item_at m i).end_min last, (f.end_stock i low high).0, ap (p.stock i) last))
    (λ before. omega (arith, end_later t m.periods (item_at m i).end_min before))
    (cases_eq t m.periods)

-- what must arrive by a period has been started the lead time before
arrives : (m : Problem) (p : Plan) (start : Table) (i t : ℕ) → IsFeasible m p → 1 ≤ i → i ≤ item_count m → 1 ≤ t → t ≤ m.periods → may_be_late m i t ≡ false → sum_to (item_count m) (λ j. per_unit m i j * start j t) ≤ sum_to (item_count m) (λ j. per_unit m i j * sum_to t (p.make j)) → must_arrive m start i t ≤ sum_to (t - (item_at m i).lead) (p.make i)
arrives m p start i t f low high t_low t_high never parents =
    omega (
      arith,
      parents,
      balance_so_far m p i low high f.balance t t_high,
      arrived m p.make i t,
      sum_to-add t (demand m i) (used_up m p.make i),
      used_so_far m p.make i t,
      stock_after_some m p i t t_low,
      backlog_after_some p i t t_low,
      no_backlog m p i t f low high t_low t_high never,
      end_stock m p i t f low high,
    )

in_time : (m : Problem) (start : Table) (i t b : ℕ) → (may_be_late m i t ≡ false → must_arrive m start i t ≤ b) → must_arrive_in_time m start i t ≤ b
in_time m start i t b h =
    ⊎_elim
    (λ late. omega (arith, ap (λ c. if c then 0 else must_arrive m start i t) late))
    (λ never. omega (arith, h never, ap (λ c. if c then 0 else must_arrive m start i t) never))
    (cases_Bool (may_be_late m i t))

-- in a problem whose items have a ranking
pub has_started : (m : Problem) (rank : ℕ → ℕ) (start : Table) → IsRanking m rank → AreMustStart m start → (p : Plan) → IsFeasible m p → (n i t : ℕ) → 1 ≤ i → i ≤ item_count m → rank i < n → t ≤ m.periods → start i t ≤ sum_to t (p.make i)
has_started m rank start ranks are p f zero i t low high h t_high = absurd (omega (arith, h))
has_started m rank start ranks are p f (suc n) i zero low high h t_high = omega (arith, are.none i low high)
has_started m rank start ranks are p f (suc n) i (suc s) low high h t_high =
    let t = suc s in
    let lead = (item_at m i).lead in
    let far = min (t + lead) m.periods in
    let parents = λ (u : ℕ) (u_high : u ≤ m.periods). sum_to-le (item_count m) (λ j. per_unit m i j * start j u) (λ j. per_unit m i j * sum_to u (p.make j)) (λ j j_low j_high.
    takes_le (per_unit m i j) (start j u) (sum_to u (p.make j)) (λ goes. has_started m rank start ranks are p f n j u j_low j_high (omega (arith, h, ranks i j low high j_low j_high goes)) u_high)) in
    let most = greatest_le far (must_arrive_in_time m start i) (sum_to t (p.make i)) (λ u u_low u_far.
    let u_high : u ≤ m.periods = omega (arith, u_far, min_right (t + lead) m.periods) in
    let near : u - lead ≤ t = omega (arith, u_far, min_left (t + lead) m.periods) in
    in_time m start i u (sum_to t (p.make i)) (λ never. omega (arith, arrives m p start i u f low high u_low u_high never (parents u u_high), sum_to-front (u - lead) t (p.make i) near))) in
    omega (arith, most, are.each i t low high (omega arith) t_high)

-- what must arrive goes by the items that it goes into alone
pub arrival_same : (m : Problem) (a b : Table) (i u : ℕ) → ((j : ℕ) → 1 ≤ j → j ≤ item_count m → 0 < per_unit m i j → a j u ≡ b j u) → must_arrive_in_time m a i u ≡ must_arrive_in_time m b i u
arrival_same m a b i u same =
    ap (λ taken. if may_be_late m i u then 0 else (asked_to (asked_of m i) u + taken) - (item_at m i).opening)
    (sum_to-same (item_count m) (λ j. per_unit m i j * a j u) (λ j. per_unit m i j * b j u) (λ j low high. takes_same (per_unit m i j) (a j u) (b j u) (same j low high)))

-- it is one number
one_below : (m : Problem) (rank : ℕ → ℕ) (a b : Table) → IsRanking m rank → AreMustStart m a → AreMustStart m b → (n i t : ℕ) → 1 ≤ i → i ≤ item_count m → rank i < n → 1 ≤ t → t ≤ m.periods → a i t ≡ b i t
one_below m rank a b ranks is_a is_b zero i t low high h t_low t_high = absurd (omega (arith, h))
one_below m rank a b ranks is_a is_b (suc n) i t low high h t_low t_high =
    let far = min (t + (item_at m i).lead) m.periods in
    is_a.each i t low high t_low t_high
    ∙ greatest_same far (must_arrive_in_time m a i) (must_arrive_in_time m b i) (λ u u_low u_far.
    arrival_same m a b i u (λ j j_low j_high goes. one_below m rank a b ranks is_a is_b n j u j_low j_high (omega (arith, h, ranks i j low high j_low j_high goes)) u_low (omega (arith, u_far, min_right (t + (item_at m i).lead) m.periods))))
    ∙ sym (is_b.each i t low high t_low t_high)

pub one_start : (m : Problem) (rank : ℕ → ℕ) (a b : Table) → IsRanking m rank → AreMustStart m a → AreMustStart m b → (i t : ℕ) → 1 ≤ i → i ≤ item_count m → 1 ≤ t → t ≤ m.periods → a i t ≡ b i t
one_start m rank a b ranks is_a is_b i t low high t_low t_high = one_below m rank a b ranks is_a is_b (suc (rank i)) i t low high (omega arith) t_low t_high

-- it doesn't fall
pub start_rises : (m : Problem) (start : Table) → AreMustStart m start → (i t : ℕ) → 1 ≤ i → i ≤ item_count m → 1 ≤ t → t ≤ m.periods → start i (t - 1) ≤ start i t
start_rises m start are i zero low high t_low t_high = absurd (omega (arith, t_low))
start_rises m start are i (suc zero) low high t_low t_high = omega (arith, are.none i low high)
start_rises m start are i (suc (suc s)) low high t_low t_high =
    let lead = (item_at m i).lead in
    let e : suc (suc s) - 1 ≡ suc s = omega arith in
    omega (
      arith,
      ap (start i) e,
      are.each i (suc s) low high (omega arith) (omega (arith, t_high)),
      are.each i (suc (suc s)) low high (omega arith) t_high,
      greatest_rises (min (suc s + lead) m.periods) (min (suc (suc s) + lead) m.periods) (must_arrive_in_time m start i) (min_rises (suc s + lead) (suc (suc s) + lead) m.periods (omega arith)),
    )

-- it is within the largest total
end_within : (b : Bool) (least most : ℕ) → least ≤ most → (if b then least else 0) ≤ most
end_within true least most h = h
end_within false least most h = omega arith

-- what is asked of an item and taken by others is no more than its largest total and its opening stock
pub asked_within : (m : Problem) (total : ℕ → ℕ) (start : Table) (i u : ℕ) → AreLargestTotals m total → (item_at m i).end_min ≤ (item_at m i).end_max → 1 ≤ i → i ≤ item_count m → u ≤ m.periods → ((j : ℕ) → 1 ≤ j → j ≤ item_count m → 0 < per_unit m i j → start j u ≤ total j) → asked_to (asked_of m i) u + taken_by_others m start i u ≤ total i + (item_at m i).opening
asked_within m total start i u totals ends low high u_high within =
    omega (
      arith,
      sum_to-le (item_count m) (λ j. per_unit m i j * start j u) (λ j. per_unit m i j * total j) (λ j j_low j_high. takes_le (per_unit m i j) (start j u) (total j) (within j j_low j_high)),
      totals i low high,
      sum_to-front u m.periods (demand m i) u_high,
      end_within (u == m.periods) (item_at m i).end_min (item_at m i).end_max ends,
    )

pub greatest_within : (m : Problem) (total : ℕ → ℕ) (start : Table) (i far : ℕ) → AreLargestTotals m total → (item_at m i).end_min ≤ (item_at m i).end_max → 1 ≤ i → i ≤ item_count m → far ≤ m.periods → ((j u : ℕ) → 1 ≤ j → j ≤ item_count m → 0 < per_unit m i j → 1 ≤ u → u ≤ m.periods → start j u ≤ total j) → greatest_to far (must_arrive_in_time m start i) ≤ total i
greatest_within m total start i far totals ends low high far_high within =
    greatest_le far (must_arrive_in_time m start i) (total i) (λ u u_low u_far.
    let u_high : u ≤ m.periods = omega (arith, u_far, far_high) in
    in_time m start i u (total i) (λ never. omega (arith, asked_within m total start i u totals ends low high u_high (λ j j_low j_high goes. within j u j_low j_high goes u_low u_high))))

pub start_within : (m : Problem) (rank total : ℕ → ℕ) (start : Table) → IsRanking m rank → AreLargestTotals m total → AreMustStart m start → EachItem m (λ i. (item_at m i).end_min ≤ (item_at m i).end_max) → (n i t : ℕ) → 1 ≤ i → i ≤ item_count m → rank i < n → 1 ≤ t → t ≤ m.periods → start i t ≤ total i
start_within m rank total start ranks totals are ends zero i t low high h t_low t_high = absurd (omega (arith, h))
start_within m rank total start ranks totals are ends (suc n) i t low high h t_low t_high =
    let far = min (t + (item_at m i).lead) m.periods in
    omega (
      arith,
      are.each i t low high t_low t_high,
      greatest_within m total start i far totals (ends i low high) low high (min_right (t + (item_at m i).lead) m.periods) (λ j u j_low j_high goes u_low u_high. start_within m rank total start ranks totals are ends n j u j_low j_high (omega (arith, h, ranks i j low high j_low j_high goes)) u_low u_high),
    )

-- a level of a chain
made_here : (l j a b : ℕ) → l ≡ j → (if l == j then a else b) ≡ a
made_here l j a b h = grind (arith, h)

made_else : (l j a b : ℕ) → l ≢ j → (if l == j then a else b) ≡ b
made_else l j a b h = grind (arith, h)

pub level_holds : (m : Problem) (rank : ℕ → ℕ) (start : Table) → IsRanking m rank → AreMustStart m start → (p : Plan) → IsFeasible m p → (j i t : ℕ) → 1 ≤ i → i ≤ item_count m → 1 ≤ t → t ≤ m.periods → may_be_late m i t ≡ false → must_arrive m (with_made start p j) i t ≤ sum_to (t - (item_at m i).lead) (p.make i)
level_holds m rank start ranks are p f j i t low high t_low t_high never =
    arrives m p (with_made start p j) i t f low high t_low t_high never
    (sum_to-le (item_count m) (λ l. per_unit m i l * with_made start p j l t) (λ l. per_unit m i l * sum_to t (p.make l)) (λ l l_low l_high.
    mul-le-mul_left (per_unit m i l) (⊎_elim
    (λ same. omega (arith, made_here l j (sum_to t (p.make j)) (start l t) same, ap (λ k. sum_to t (p.make k)) same))
    (λ other. omega (arith, made_else l j (sum_to t (p.make j)) (start l t) other, has_started m rank start ranks are p f (suc (rank l)) l t l_low l_high (omega arith) t_high))
    (cases_eq l j))))
