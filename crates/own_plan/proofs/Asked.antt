-- What is asked of an item with given quantities, and what must have been made of it.
use Rattle.std.proofs.Common.{◌≡◌, ◌≢◌, ◌≤◌, ◌<◌, ◌+◌, ◌-◌, ◌*◌, ◌∙◌, ⊎_elim, ℕ, suc, sym, ap, subst, arith}
use Rattle.std.specs.Prelude.{if◌then◌else◌, ◌==◌}
use Rattle.std.proofs.lemmas.Bool.{cases_eq, cases_lt}
use Rattle.std.proofs.Math.Nat.{mul-le-mul_left}
use Rattle.lot_sizing.specs.Sums.{sum_to}
use Rattle.lot_sizing.specs.Problem.{Problem, EachItem, item_at, item_count, demand, per_unit}
use Rattle.lot_sizing.specs.Plan.{Table, used_up}
use Rattle.lot_sizing.specs.Net.{Asked, asked_to, needed_to}
use Rattle.lot_sizing.specs.Totals.{AreLargestTotals, IsRanking}
use Rattle.lot_sizing.proofs.Sums.{sum_to-same, sum_to-le, sum_to-add, sum_to-times, sum_to-swap, sum_to-front}
use Rattle.own_plan.specs.OwnPeriod.{asked_with}

end_later : (a : Asked) (t : ℕ) → t ≢ a.periods → (if t == a.periods then a.end_min else 0) ≡ 0
end_later a t h = grind (arith, h)

end_at_most : (a : Asked) (t : ℕ) → (if t == a.periods then a.end_min else 0) ≤ a.end_min
end_at_most a t = grind arith

-- more is asked for later
pub asked_step : (a : Asked) (t : ℕ) → suc t ≤ a.periods → asked_to a t ≤ asked_to a (suc t)
asked_step a t h = omega (arith, end_later a t (λ same. omega (arith, same, h)))

pub needed_step : (a : Asked) (t : ℕ) → suc t ≤ a.periods → needed_to a t ≤ needed_to a (suc t)
needed_step a t h = omega (arith, asked_step a t h)

-- and the most in all
pub needed_last : (a : Asked) (t : ℕ) → t ≤ a.periods → needed_to a t ≤ needed_to a a.periods
needed_last a t h =
    ⊎_elim
    (λ e. subst (λ u. needed_to a u ≤ needed_to a a.periods) (sym e) (omega arith))
    (λ ne. omega (arith, end_later a t ne, sum_to-front t a.periods a.demand h))
    (cases_eq t a.periods)

-- sums over the items that an item goes into agree where the numbers of these do
pub used_same : (m : Problem) (rank : ℕ → ℕ) (a b : Table) (i t : ℕ) → IsRanking m rank → 1 ≤ i → i ≤ item_count m → ((j : ℕ) → 1 ≤ j → j ≤ item_count m → rank j < rank i → a j t ≡ b j t) → used_up m a i t ≡ used_up m b i t
used_same m rank a b i t ranks low high same = sum_to-same (item_count m) _ _ (λ j j_low j_high.
    ⊎_elim
    (λ goes. ap (λ k. per_unit m i j * k) (same j j_low j_high (ranks i j low high j_low j_high goes)))
    (λ none. let e : per_unit m i j ≡ 0 = omega (arith, none) in omega (arith, ap (λ k. k * a j t) e, ap (λ k. k * b j t) e))
    (cases_lt 0 (per_unit m i j)))

-- and where those of all other items do, if it doesn't go into that one
pub used_apart : (m : Problem) (a b : Table) (i j t : ℕ) → per_unit m i j ≡ 0 → ((l : ℕ) → 1 ≤ l → l ≤ item_count m → l ≢ j → a l t ≡ b l t) → used_up m a i t ≡ used_up m b i t
used_apart m a b i j t none same = sum_to-same (item_count m) _ _ (λ l l_low l_high.
    ⊎_elim
    (λ e. let z : per_unit m i l ≡ 0 = ap (per_unit m i) e ∙ none in omega (arith, ap (λ k. k * a l t) z, ap (λ k. k * b l t) z))
    (λ ne. ap (λ k. per_unit m i l * k) (same l l_low l_high ne))
    (cases_eq l j))

-- as much must have been made where as much goes into other items
pub needed_same : (m : Problem) (a b : Table) (i t : ℕ) → ((u : ℕ) → 1 ≤ u → u ≤ t → used_up m a i u ≡ used_up m b i u) → needed_to (asked_with m a i) t ≡ needed_to (asked_with m b i) t
needed_same m a b i t same =
    ap (λ s. (s + (if t == m.periods then (item_at m i).end_min else 0)) - (item_at m i).opening) (sum_to-same t _ _ (λ u low high. ap (λ n. demand m i u + n) (same u low high)))

-- what goes into other items in all
used_in_all : (m : Problem) (make : Table) (i : ℕ) → sum_to m.periods (used_up m make i) ≡ sum_to (item_count m) (λ j. per_unit m i j * sum_to m.periods (make j))
used_in_all m make i =
    sum_to-swap m.periods (item_count m) (λ t j. per_unit m i j * make j t)
    ∙ sum_to-same (item_count m) _ _ (λ j low high. sum_to-times m.periods (per_unit m i j) (make j))

-- no more than its largest total must be made of an item, where no more than theirs is made of those that it goes into
pub needed_at_most : (m : Problem) (rank total : ℕ → ℕ) (make : Table) (i : ℕ) → IsRanking m rank → AreLargestTotals m total → EachItem m (λ j. (item_at m j).end_min ≤ (item_at m j).end_max) → 1 ≤ i → i ≤ item_count m → ((j : ℕ) → 1 ≤ j → j ≤ item_count m → rank j < rank i → sum_to m.periods (make j) ≤ total j) → needed_to (asked_with m make i) m.periods ≤ total i
needed_at_most m rank total make i ranks totals ends low high parents =
    let last = m.periods in
    let taken = sum_to-le (item_count m) (λ j. per_unit m i j * sum_to last (make j)) (λ j. per_unit m i j * total j) (λ j j_low j_high.
    ⊎_elim
    (λ goes. mul-le-mul_left (per_unit m i j) (parents j j_low j_high (ranks i j low high j_low j_high goes)))
    (λ none. let e : per_unit m i j ≡ 0 = omega (arith, none) in omega (arith, ap (λ k. k * sum_to last (make j)) e, ap (λ k. k * total j) e))
    (cases_lt 0 (per_unit m i j))) in
    omega (arith, totals i low high, ends i low high, end_at_most (asked_with m make i) last, sum_to-add last (demand m i) (used_up m make i), used_in_all m make i, taken)
