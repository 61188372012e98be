-- Echelon stocks balance, and net demands are at most the largest totals.
use Rattle.std.proofs.Common.{◌≡◌, ◌≢◌, ◌≤◌, ◌<◌, ◌+◌, ◌-◌, ◌*◌, ◌∙◌, ⊎_elim, ℕ, zero, suc, refl, sym, ap, arith}
use Rattle.std.proofs.lemmas.Bool.{cases_lt, cases_eq}
use Rattle.std.proofs.Math.Nat.{mul-le-mul_left}
use Rattle.lot_sizing.specs.Sums.{sum_to}
use Rattle.lot_sizing.specs.Problem.{Problem, EachItem, item_at, item_count, demand, per_unit}
use Rattle.lot_sizing.specs.Plan.{Plan, Table, IsFeasible, arriving, stock_after, backlog_after, used_up}
use Rattle.lot_sizing.specs.Bill.{Bill, bill_of, one_if_same, HasRanks, AreWeights}
use Rattle.lot_sizing.specs.Totals.{IsRanking, AreLargestTotals}
use Rattle.lot_sizing.specs.Net.{asked_to, needed_to}
use Rattle.lot_sizing.specs.Echelon.{in_echelon, asked_in_echelon, IsEchelonBalanced, IsLeadFree}
use Rattle.lot_sizing.proofs.Sums.{sum_to-same, sum_to-le, sum_to-add, sum_to-times, sum_to-zero, sum_to-swap}
use Rattle.lot_sizing.proofs.Plans.{stock_after_some, backlog_after_some}
use Rattle.lot_sizing.proofs.Lots.{arriving_now}
use Rattle.lot_sizing.proofs.Reduction.{end_here}

same_one : (i k : ℕ) → i ≡ k → one_if_same i k ≡ 1
same_one i k h = grind (arith, h)

other_none : (i k : ℕ) → i ≢ k → one_if_same i k ≡ 0
other_none i k h = grind (arith, h)

-- a sum with one term
later_none : (n i : ℕ) (f : ℕ → ℕ) → n < i → sum_to n (λ j. one_if_same i j * f j) ≡ 0
later_none n i f h = sum_to-same n (λ j. one_if_same i j * f j) (λ _. 0) (λ j low high. omega (arith, ap (λ x. x * f j) (other_none i j (λ same. omega (arith, same, h, high))))) ∙ sum_to-zero n

one_term : (n i : ℕ) (f : ℕ → ℕ) → 1 ≤ i → i ≤ n → sum_to n (λ j. one_if_same i j * f j) ≡ f i
one_term zero i f low high = absurd (omega (arith, low, high))
one_term (suc n) i f low high =
    ⊎_elim
    (λ same. omega (arith, later_none n i f (omega (arith, same)), ap (λ x. x * f (suc n)) (same_one i (suc n) same), ap f same))
    (λ apart. omega (arith, one_term n i f low (omega (arith, high, apart)), ap (λ x. x * f (suc n)) (other_none i (suc n) apart)))
    (cases_eq i (suc n))

one_term_right : (n k : ℕ) (f : ℕ → ℕ) → 1 ≤ k → k ≤ n → sum_to n (λ j. f j * one_if_same j k) ≡ f k
one_term_right n k f low high =
    sum_to-same n (λ j. f j * one_if_same j k) (λ j. one_if_same k j * f j) (λ j j_low j_high. ⊎_elim
    (λ same. omega (arith, ap (λ x. f j * x) (same_one j k same), ap (λ x. x * f j) (same_one k j (sym same))))
    (λ apart. omega (arith, ap (λ x. f j * x) (other_none j k apart), ap (λ x. x * f j) (other_none k j (λ same. apart (sym same)))))
    (cases_eq j k))
    ∙ one_term n k f low high

-- weights by the last line in place of the first
turned : Bill → (ℕ → ℕ → ℕ) → ℕ → ℕ → ℕ
turned b weight i k = sum_to b.items (λ j. weight i j * b.units j k)

-- the sum of products of three, in either order
three : (n : ℕ) (f : ℕ → ℕ) (g : ℕ → ℕ → ℕ) (h : ℕ → ℕ) → sum_to n (λ l. sum_to n (λ j. f j * g j l) * h l) ≡ sum_to n (λ j. f j * sum_to n (λ l. g j l * h l))
three n f g h =
    sum_to-same n (λ l. sum_to n (λ j. f j * g j l) * h l) (λ l. sum_to n (λ j. h l * (f j * g j l))) (λ l low high. omega (arith, sum_to-times n (h l) (λ j. f j * g j l)))
    ∙ sum_to-swap n n (λ l j. h l * (f j * g j l))
    ∙ sum_to-same n (λ j. sum_to n (λ l. h l * (f j * g j l))) (λ j. f j * sum_to n (λ l. g j l * h l)) (λ j low high.
    sum_to-same n (λ l. h l * (f j * g j l)) (λ l. f j * (g j l * h l)) (λ l l_low l_high. omega arith) ∙ sum_to-times n (f j) (λ l. g j l * h l))

turned_is : (b : Bill) (weight : ℕ → ℕ → ℕ) → AreWeights b weight → (i k : ℕ) → 1 ≤ i → i ≤ b.items → 1 ≤ k → k ≤ b.items → turned b weight i k ≡ b.units i k + sum_to b.items (λ j. b.units i j * turned b weight j k)
unfolding turned
turned_is b weight are i k low high k_low k_high =
    let n = b.items in
    let parts = sum_to-same n (λ l. weight i l * b.units l k) (λ l. one_if_same i l * b.units l k + sum_to n (λ j. b.units i j * weight j l) * b.units l k) (λ l l_low l_high. omega (arith, ap (λ x. x * b.units l k) (are i l low high l_low l_high))) in
    omega (
      arith,
      parts,
      sum_to-add n (λ l. one_if_same i l * b.units l k) (λ l. sum_to n (λ j. b.units i j * weight j l) * b.units l k),
      one_term n i (λ l. b.units l k) low high,
      three n (b.units i) weight (λ l. b.units l k),
    )

by_last_line : (b : Bill) (weight : ℕ → ℕ → ℕ) (rank : ℕ → ℕ) → AreWeights b weight → HasRanks b rank → (n i k : ℕ) → rank i < n → 1 ≤ i → i ≤ b.items → 1 ≤ k → k ≤ b.items → weight i k ≡ one_if_same i k + turned b weight i k
by_last_line b weight rank are ranks zero i k few low high k_low k_high = absurd (omega (arith, few))
by_last_line b weight rank are ranks (suc n) i k few low high k_low k_high =
    let all = b.items in
    let step = sum_to-same all (λ j. b.units i j * weight j k) (λ j. b.units i j * one_if_same j k + b.units i j * turned b weight j k) (λ j j_low j_high. ⊎_elim
    (λ goes. omega (arith, ap (λ x. b.units i j * x) (by_last_line b weight rank are ranks n j k (omega (arith, few, ranks i j low high j_low j_high goes)) j_low j_high k_low k_high)))
    (λ none. let e : b.units i j ≡ 0 = omega (arith, none) in omega (arith, ap (λ x. x * weight j k) e, ap (λ x. x * one_if_same j k) e, ap (λ x. x * turned b weight j k) e))
    (cases_lt 0 (b.units i j))) in
    omega (
      arith,
      are i k low high k_low k_high,
      step,
      sum_to-add all (λ j. b.units i j * one_if_same j k) (λ j. b.units i j * turned b weight j k),
      one_term_right all k (b.units i) k_low k_high,
      turned_is b weight are i k low high k_low k_high,
    )

-- where an item that counts has no lead time, what arrives is what is made
arrives_weighed : (m : Problem) (weight : ℕ → ℕ → ℕ) (make : Table) (i j t : ℕ) → 1 ≤ t → (0 < weight i j → (item_at m j).lead ≡ 0) → weight i j * arriving m make j t ≡ weight i j * make j t
arrives_weighed m weight make i j t low free =
    ⊎_elim
    (λ counts. ap (λ x. weight i j * x) (arriving_now m make j t (free counts) low))
    (λ none. let e : weight i j ≡ 0 = omega (arith, none) in omega (arith, ap (λ x. x * arriving m make j t) e, ap (λ x. x * make j t) e))
    (cases_lt 0 (weight i j))

-- a balance of what items have, weighed
pub echelon_balance : (m : Problem) (weight : ℕ → ℕ → ℕ) (rank : ℕ → ℕ) → AreWeights (bill_of m) weight → IsRanking m rank → (p : Plan) → IsFeasible m p → (i t : ℕ) → 1 ≤ i → i ≤ item_count m → 1 ≤ t → t ≤ m.periods → IsLeadFree m weight i → IsEchelonBalanced m weight p i t
unfolding turned
echelon_balance m weight rank are ranks p f i t low high t_low t_high free =
    let n = item_count m in
    let w = weight i in
    let before = λ (j : ℕ). stock_after m p j (t - 1) in
    let owed = λ (j : ℕ). backlog_after p j (t - 1) in
    let here = λ (j : ℕ). stock_after m p j t in
    let owes = λ (j : ℕ). backlog_after p j t in
    let made = λ (j : ℕ). p.make j t in
    let used = λ (j : ℕ). used_up m p.make j t in
    let asked = λ (j : ℕ). demand m j t in
    let each = sum_to-same n (λ j. w j * before j + w j * made j + w j * owes j) (λ j. w j * asked j + w j * used j + w j * here j + w j * owed j) (λ j j_low j_high.
    omega (arith, arrives_weighed m weight p.make i j t t_low (free j j_low j_high), ap (λ x. w j * x) (f.balance j t j_low j_high t_low t_high), ap (λ x. w j * x) (stock_after_some m p j t t_low), ap (λ x. w j * x) (backlog_after_some p j t t_low))) in
    let left = sum_to-add n (λ j. w j * before j + w j * made j) (λ j. w j * owes j) in
    let left_two = sum_to-add n (λ j. w j * before j) (λ j. w j * made j) in
    let right = sum_to-add n (λ j. w j * asked j + w j * used j + w j * here j) (λ j. w j * owed j) in
    let right_two = sum_to-add n (λ j. w j * asked j + w j * used j) (λ j. w j * here j) in
    let right_three = sum_to-add n (λ j. w j * asked j) (λ j. w j * used j) in
    let taken = sym (three n w (per_unit m) made) in
    let whole = sum_to-same n (λ k. w k * made k) (λ k. one_if_same i k * made k + turned (bill_of m) weight i k * made k) (λ k k_low k_high. omega (arith, ap (λ x. x * made k) (by_last_line (bill_of m) weight rank are ranks (suc (rank i)) i k (omega arith) low high k_low k_high))) in
    omega (arith, each, left, left_two, right, right_two, right_three, taken, whole, sum_to-add n (λ k. one_if_same i k * made k) (λ k. turned (bill_of m) weight i k * made k), one_term n i made low high)

-- what an echelon has, by the first line
first_line : (b : Bill) (weight : ℕ → ℕ → ℕ) → AreWeights b weight → (i : ℕ) → 1 ≤ i → i ≤ b.items → (f : ℕ → ℕ) → sum_to b.items (λ j. weight i j * f j) ≡ f i + sum_to b.items (λ l. b.units i l * sum_to b.items (λ j. weight l j * f j))
first_line b weight are i low high f =
    let n = b.items in
    omega (
      arith,
      sum_to-same n (λ j. weight i j * f j) (λ j. one_if_same i j * f j + sum_to n (λ l. b.units i l * weight l j) * f j) (λ j j_low j_high. omega (arith, ap (λ x. x * f j) (are i j low high j_low j_high))),
      sum_to-add n (λ j. one_if_same i j * f j) (λ j. sum_to n (λ l. b.units i l * weight l j) * f j),
      one_term n i f low high,
      three n (b.units i) weight f,
    )

-- what is asked of an item over all periods
own_asked : Problem → ℕ → ℕ
own_asked m j = sum_to m.periods (demand m j) + (item_at m j).end_min

asked_in_all : (m : Problem) (weight : ℕ → ℕ → ℕ) (i : ℕ) → asked_to (asked_in_echelon m weight i) m.periods ≡ in_echelon m weight i (own_asked m)
unfolding own_asked
asked_in_all m weight i =
    let n = item_count m in
    let T = m.periods in
    omega (
      arith,
      end_here (asked_in_echelon m weight i) T refl,
      sum_to-swap T n (λ t j. weight i j * demand m j t),
      sum_to-same n (λ j. sum_to T (λ t. weight i j * demand m j t)) (λ j. weight i j * sum_to T (demand m j)) (λ j low high. sum_to-times T (weight i j) (demand m j)),
      sum_to-same n (λ j. weight i j * (sum_to T (demand m j) + (item_at m j).end_min)) (λ j. weight i j * sum_to T (demand m j) + weight i j * (item_at m j).end_min) (λ j low high. omega arith),
      sum_to-add n (λ j. weight i j * sum_to T (demand m j)) (λ j. weight i j * (item_at m j).end_min),
    )

asked_at_most : (m : Problem) (weight : ℕ → ℕ → ℕ) (rank total : ℕ → ℕ) → AreWeights (bill_of m) weight → IsRanking m rank → AreLargestTotals m total → EachItem m (λ i. (item_at m i).end_min ≤ (item_at m i).end_max) → (n i : ℕ) → rank i < n → 1 ≤ i → i ≤ item_count m → in_echelon m weight i (own_asked m) ≤ total i + in_echelon m weight i (λ j. (item_at m j).opening)
unfolding own_asked
asked_at_most m weight rank total are ranks totals ends zero i few low high = absurd (omega (arith, few))
asked_at_most m weight rank total are ranks totals ends (suc n) i few low high =
    let all = item_count m in
    let there = λ (j : ℕ). (item_at m j).opening in
    let above = sum_to-le all (λ l. per_unit m i l * in_echelon m weight l (own_asked m)) (λ l. per_unit m i l * total l + per_unit m i l * in_echelon m weight l there) (λ l l_low l_high. ⊎_elim
    (λ goes. omega (arith, mul-le-mul_left (per_unit m i l) (asked_at_most m weight rank total are ranks totals ends n l (omega (arith, few, ranks i l low high l_low l_high goes)) l_low l_high)))
    (λ none. let e : per_unit m i l ≡ 0 = omega (arith, none) in omega (arith, ap (λ x. x * in_echelon m weight l (own_asked m)) e, ap (λ x. x * total l) e, ap (λ x. x * in_echelon m weight l there) e))
    (cases_lt 0 (per_unit m i l))) in
    omega (
      arith,
      first_line (bill_of m) weight are i low high (own_asked m),
      first_line (bill_of m) weight are i low high there,
      above,
      sum_to-add all (λ l. per_unit m i l * total l) (λ l. per_unit m i l * in_echelon m weight l there),
      totals i low high,
      ends i low high,
    )

-- the net demands of an echelon add to at most the largest total
pub net_at_most : (m : Problem) (weight : ℕ → ℕ → ℕ) (rank total : ℕ → ℕ) → AreWeights (bill_of m) weight → IsRanking m rank → AreLargestTotals m total → EachItem m (λ i. (item_at m i).end_min ≤ (item_at m i).end_max) → (i : ℕ) → 1 ≤ i → i ≤ item_count m → needed_to (asked_in_echelon m weight i) m.periods ≤ total i
net_at_most m weight rank total are ranks totals ends i low high = omega (arith, asked_in_all m weight i, asked_at_most m weight rank total are ranks totals ends (suc (rank i)) i (omega arith) low high)
