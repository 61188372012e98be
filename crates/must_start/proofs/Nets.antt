-- What must be made for an echelon is no more than what must have been started.
use Rattle.std.proofs.Common.{◌≡◌, ◌≢◌, ◌≤◌, ◌<◌, ◌+◌, ◌*◌, ◌∙◌, ⊎_elim, ℕ, zero, suc, refl, sym, ap, arith, Bool, true, false, List}
use Rattle.std.specs.Prelude.{if◌then◌else◌, ◌==◌, ◌&&◌, nat_lt, is_some, min, Option, Some, None, IsNone}
use Rattle.std.proofs.lemmas.Bool.{cases_lt, cases_eq}
use Rattle.std.proofs.Math.Nat.{mul-le-mul_left}
use Rattle.lot_sizing.specs.Sums.{sum_to}
use Rattle.lot_sizing.specs.Problem.{Problem, item_at, item_count, demand, per_unit}
use Rattle.lot_sizing.specs.Plan.{Table}
use Rattle.lot_sizing.specs.Bill.{Bill, bill_of, one_if_same, AreWeights}
use Rattle.lot_sizing.specs.Totals.{IsRanking}
use Rattle.lot_sizing.specs.Net.{asked_of, asked_to, needed_to}
use Rattle.lot_sizing.specs.Echelon.{in_echelon, asked_in_echelon, IsLeadFree}
use Rattle.lot_sizing.proofs.Sums.{sum_to-same, sum_to-le, sum_to-add, sum_to-times, sum_to-zero, sum_to-swap}
use Rattle.must_start.specs.MustStart.{AreMustStart, IsNeverLate, must_arrive, must_arrive_in_time}
use Rattle.must_start.proofs.Greatest.{greatest_at}
use Rattle.must_start.proofs.LargestLots.{term_le}

other_none : (i k : ℕ) → i ≢ k → one_if_same i k ≡ 0
other_none i k h = grind (arith, h)

same_one : (i k : ℕ) → i ≡ k → one_if_same i k ≡ 1
same_one i k h = grind (arith, h)

-- a sum with one term
later_none : (n i : ℕ) (f : ℕ → ℕ) → n < i → sum_to n (λ j. one_if_same i j * f j) ≡ 0
later_none n i f h = sum_to-same n (λ j. one_if_same i j * f j) (λ _. 0) (λ j low high. omega (arith, ap (λ x. x * f j) (other_none i j (λ same. omega (arith, same, h, high))))) ∙ sum_to-zero n

one_term : (n i : ℕ) (f : ℕ → ℕ) → 1 ≤ i → i ≤ n → sum_to n (λ j. one_if_same i j * f j) ≡ f i
one_term zero i f low high = absurd (omega (arith, low, high))
one_term (suc n) i f low high =
    ⊎_elim
    (λ same. omega (arith, later_none n i f (omega (arith, same)), ap (λ x. x * f (suc n)) (same_one i (suc n) same), ap f same))
    (λ apart. omega (arith, one_term n i f low (omega (arith, high, apart)), ap (λ x. x * f (suc n)) (other_none i (suc n) apart)))
    (cases_eq i (suc n))

-- the sum of products of three, in either order
three : (n : ℕ) (f : ℕ → ℕ) (g : ℕ → ℕ → ℕ) (h : ℕ → ℕ) → sum_to n (λ l. sum_to n (λ j. f j * g j l) * h l) ≡ sum_to n (λ j. f j * sum_to n (λ l. g j l * h l))
three n f g h =
    sum_to-same n (λ l. sum_to n (λ j. f j * g j l) * h l) (λ l. sum_to n (λ j. h l * (f j * g j l))) (λ l low high. omega (arith, sum_to-times n (h l) (λ j. f j * g j l)))
    ∙ sum_to-swap n n (λ l j. h l * (f j * g j l))
    ∙ sum_to-same n (λ j. sum_to n (λ l. h l * (f j * g j l))) (λ j. f j * sum_to n (λ l. g j l * h l)) (λ j low high.
    sum_to-same n (λ l. h l * (f j * g j l)) (λ l. f j * (g j l * h l)) (λ l l_low l_high. omega arith) ∙ sum_to-times n (f j) (λ l. g j l * h l))

-- what an echelon has, by the first line
first_line : (b : Bill) (weight : ℕ → ℕ → ℕ) → AreWeights b weight → (i : ℕ) → 1 ≤ i → i ≤ b.items → (f : ℕ → ℕ) → sum_to b.items (λ j. weight i j * f j) ≡ f i + sum_to b.items (λ l. b.units i l * sum_to b.items (λ j. weight l j * f j))
first_line b weight are i low high f =
    let n = b.items in
    omega (
      arith,
      sum_to-same n (λ j. weight i j * f j) (λ j. one_if_same i j * f j + sum_to n (λ l. b.units i l * weight l j) * f j) (λ j j_low j_high. omega (arith, ap (λ x. x * f j) (are i j low high j_low j_high))),
      sum_to-add n (λ j. one_if_same i j * f j) (λ j. sum_to n (λ l. b.units i l * weight l j) * f j),
      one_term n i f low high,
      three n (b.units i) weight f,
    )

-- what is asked in an echelon up to a period
scaled : (b : Bool) (n : ℕ) (w e : ℕ → ℕ) → (if b then sum_to n (λ j. w j * e j) else 0) ≡ sum_to n (λ j. w j * (if b then e j else 0))
scaled true n w e = refl
scaled false n w e = sym (sum_to-same n (λ j. w j * 0) (λ _. 0) (λ j low high. omega arith) ∙ sum_to-zero n)

asked_by : (m : Problem) (weight : ℕ → ℕ → ℕ) (i t : ℕ) → asked_to (asked_in_echelon m weight i) t ≡ in_echelon m weight i (λ j. asked_to (asked_of m j) t)
asked_by m weight i t =
    let n = item_count m in
    let end = λ (j : ℕ). if t == m.periods then (item_at m j).end_min else 0 in
    omega (
      arith,
      scaled (t == m.periods) n (weight i) (λ j. (item_at m j).end_min),
      sum_to-swap t n (λ u j. weight i j * demand m j u),
      sum_to-same n (λ j. sum_to t (λ u. weight i j * demand m j u)) (λ j. weight i j * sum_to t (demand m j)) (λ j low high. sum_to-times t (weight i j) (demand m j)),
      sum_to-same n (λ j. weight i j * (sum_to t (demand m j) + end j)) (λ j. weight i j * sum_to t (demand m j) + weight i j * end j) (λ j low high. omega arith),
      sum_to-add n (λ j. weight i j * sum_to t (demand m j)) (λ j. weight i j * end j),
    )

never : (b : Bool) (o : Option (List ℕ)) → IsNone o → (b && is_some o) ≡ false
never true None is = refl
never false None is = refl
never b (Some x) is = absurd (cc is)

positive : (a b : ℕ) → 0 < a → 0 < b → 0 < a * b
positive a b h k = grind (arith, h, k)

-- what goes into an item goes into all that it goes into
weight_up : (m : Problem) (weight : ℕ → ℕ → ℕ) → AreWeights (bill_of m) weight → (i j k : ℕ) → 1 ≤ i → i ≤ item_count m → 1 ≤ j → j ≤ item_count m → 1 ≤ k → k ≤ item_count m → 0 < per_unit m i j → 0 < weight j k → 0 < weight i k
weight_up m weight are i j k low high j_low j_high k_low k_high goes counts =
    omega (arith, are i k low high k_low k_high, term_le (item_count m) j (λ l. per_unit m i l * weight l k) j_low j_high, positive (per_unit m i j) (weight j k) goes counts)

own_weight : (m : Problem) (weight : ℕ → ℕ → ℕ) → AreWeights (bill_of m) weight → (i : ℕ) → 1 ≤ i → i ≤ item_count m → 0 < weight i i
own_weight m weight are i low high = omega (arith, are i i low high low high, same_one i i refl)

-- what must have arrived of a lead-free item that may not be late must have been started
starts_now : (m : Problem) (start : Table) (i t : ℕ) → AreMustStart m start → 1 ≤ i → i ≤ item_count m → 1 ≤ t → t ≤ m.periods → (item_at m i).lead ≡ 0 → IsNone (item_at m i).backlog_cost → must_arrive m start i t ≤ start i t
starts_now m start i t are low high t_low t_high lead none =
    let far = min (t + (item_at m i).lead) m.periods in
    let near : t ≤ far = reaches t (item_at m i).lead m.periods t_high in
    let own : must_arrive_in_time m start i t ≡ must_arrive m start i t = ap (λ b. if b then 0 else must_arrive m start i t) (never (nat_lt t m.periods) (item_at m i).backlog_cost none) in
    omega (arith, are.each i t low high t_low t_high, own, greatest_at far t (must_arrive_in_time m start i) t_low near)
  where
    reaches : (t lead n : ℕ) → t ≤ n → t ≤ min (t + lead) n
    reaches t lead n h = grind (arith, h)

within_start : (m : Problem) (weight : ℕ → ℕ → ℕ) (rank : ℕ → ℕ) (start : Table) → AreWeights (bill_of m) weight → IsRanking m rank → AreMustStart m start → (n i t : ℕ) → rank i < n → 1 ≤ i → i ≤ item_count m → 1 ≤ t → t ≤ m.periods → IsLeadFree m weight i → IsNeverLate m weight i → in_echelon m weight i (λ j. asked_to (asked_of m j) t) ≤ start i t + in_echelon m weight i (λ j. (item_at m j).opening)
within_start m weight rank start are ranks is zero i t few low high t_low t_high free late = absurd (omega (arith, few))
within_start m weight rank start are ranks is (suc n) i t few low high t_low t_high free late =
    let all = item_count m in
    let asked = λ (j : ℕ). asked_to (asked_of m j) t in
    let there = λ (j : ℕ). (item_at m j).opening in
    let own = own_weight m weight are i low high in
    let above = sum_to-le all (λ l. per_unit m i l * in_echelon m weight l asked) (λ l. per_unit m i l * start l t + per_unit m i l * in_echelon m weight l there) (λ l l_low l_high. ⊎_elim
    (λ goes.
    let up = λ (k : ℕ) (k_low : 1 ≤ k) (k_high : k ≤ all). weight_up m weight are i l k low high l_low l_high k_low k_high goes in
    omega (arith, mul-le-mul_left (per_unit m i l) (within_start m weight rank start are ranks is n l t (omega (arith, few, ranks i l low high l_low l_high goes)) l_low l_high t_low t_high (λ k k_low k_high counts. free k k_low k_high (up k k_low k_high counts)) (λ k k_low k_high counts. late k k_low k_high (up k k_low k_high counts)))))
    (λ none. let e : per_unit m i l ≡ 0 = omega (arith, none) in omega (arith, ap (λ x. x * in_echelon m weight l asked) e, ap (λ x. x * start l t) e, ap (λ x. x * in_echelon m weight l there) e))
    (cases_lt 0 (per_unit m i l))) in
    omega (
      arith,
      first_line (bill_of m) weight are i low high asked,
      first_line (bill_of m) weight are i low high there,
      above,
      sum_to-add all (λ l. per_unit m i l * start l t) (λ l. per_unit m i l * in_echelon m weight l there),
      starts_now m start i t is low high t_low t_high (free i low high own) (late i low high own),
    )

pub net_within_start : (m : Problem) (weight : ℕ → ℕ → ℕ) (rank : ℕ → ℕ) (start : Table) → AreWeights (bill_of m) weight → IsRanking m rank → AreMustStart m start → (i t : ℕ) → 1 ≤ i → i ≤ item_count m → 1 ≤ t → t ≤ m.periods → IsLeadFree m weight i → IsNeverLate m weight i → needed_to (asked_in_echelon m weight i) t ≤ start i t
net_within_start m weight rank start are ranks is i t low high t_low t_high free late = omega (arith, asked_by m weight i t, within_start m weight rank start are ranks is (suc (rank i)) i t (omega arith) low high t_low t_high free late)
