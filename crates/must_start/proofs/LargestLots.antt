-- A feasible plan makes at most the largest lot, and that with a setup.
use Rattle.std.proofs.Common.{◌≡◌, ◌≤◌, ◌+◌, ◌-◌, ◌*◌, ⊎_elim, inl, inr, ℕ, refl, ap, subst, arith}
use Rattle.std.specs.Prelude.{Option, Some, None, IfSome}
use Rattle.std.proofs.lemmas.Bool.{cases_lt}
use Rattle.std.proofs.Math.Nat.{mul-le-mul_left}
use Rattle.lot_sizing.specs.Sums.{sum_to}
use Rattle.lot_sizing.specs.Problem.{Problem, capacity, item_at, item_count, resource_count, setup_time, unit_time}
use Rattle.lot_sizing.specs.Plan.{Plan, IsFeasible}
use Rattle.lot_sizing.specs.Laws.{BoundsTotals}
use Rattle.lot_sizing.specs.Totals.{AreLargestTotals, IsRanking}
use Rattle.lot_sizing.specs.declared.limits.TheConstants.{MAX_TOTAL}
use Rattle.lot_sizing.proofs.Sums.{sum_to-front, sum_to_at}
use Rattle.lot_model.specs.Views.{IsInstance}
use Rattle.must_start.specs.Lots.{IsLargestLot, IsLargestLotOf, IsMostMade, IsPossibleLot, LotsHold}
use Rattle.must_start.specs.Steps.{IsInTime, IsLargestInTime, IsLargestOrNone, IsMostInALot}

-- a term is at most the sum
pub term_le : (n k : ℕ) (f : ℕ → ℕ) → 1 ≤ k → k ≤ n → f k ≤ sum_to n f
term_le n k f low high = omega (arith, sum_to_at k f low, sum_to-front k n f high)

-- what a plan makes is possible
made_possible : (m : Problem) (rank total : ℕ → ℕ) (p : Plan) (i t : ℕ) → BoundsTotals → 1 ≤ m.periods → IsRanking m rank → AreLargestTotals m total → IsFeasible m p → 1 ≤ i → i ≤ item_count m → 1 ≤ t → t ≤ m.periods → p.setup i t ≡ 1 → IsPossibleLot m total i t (p.make i t)
made_possible m rank total p i t bounds some ranks totals f low high t_low t_high is = record {
  in_all =
      let all = bounds m rank total some ranks totals p f i low high in
      omega (arith, all, term_le m.periods t (p.make i) t_low t_high);
  most = (f.lots i t low high t_low t_high).1;
  time = λ k k_low k_high.
      let own = term_le (item_count m) i (λ j. unit_time m j k * p.make j t + setup_time m j k * p.setup j t) low high in
      omega (arith, own, f.capacity k t k_low k_high t_low t_high, ap (λ n. setup_time m i k * n) is);
}

pub lot_holds : (m : Problem) (rank total : ℕ → ℕ) (p : Plan) (i t lot : ℕ) → BoundsTotals → 1 ≤ m.periods → IsRanking m rank → AreLargestTotals m total → IsFeasible m p → 1 ≤ i → i ≤ item_count m → 1 ≤ t → t ≤ m.periods → IsLargestLot m total i t lot → p.make i t ≤ lot * p.setup i t
lot_holds m rank total p i t lot bounds some ranks totals f low high t_low t_high largest =
    ⊎_elim
    (λ makes.
    let is = f.made i t low high t_low t_high makes in
    omega (arith, largest.largest (p.make i t) (made_possible m rank total p i t bounds some ranks totals f low high t_low t_high is), ap (λ n. lot * n) is))
    (λ none. omega (arith, none))
    (cases_lt 0 (p.make i t))

-- 0 is less than nothing
least_lot : (m : Problem) (total : ℕ → ℕ) (i t a b : ℕ) → IsLargestLot m total i t a → IsLargestLot m total i t b → a ≤ b
least_lot m total i t a b is_a is_b = ⊎_elim (λ possible. is_b.largest a possible) (λ none. omega (arith, none)) is_a.possible

pub one_lot : (m : Problem) (total : ℕ → ℕ) (i t a b : ℕ) → IsLargestLot m total i t a → IsLargestLot m total i t b → a ≡ b
one_lot m total i t a b is_a is_b = omega (arith, least_lot m total i t a b is_a is_b, least_lot m total i t b a is_b is_a)

-- the largest lot by the time of the first n resources
pub record IsLargestTo (m : Problem) (i t n lot : ℕ) : Type 0 where
  pub in_all : (total : ℕ → ℕ) → AreLargestTotals m total → lot ≤ total i
  pub most : IfSome (item_at m i).max_lot (λ most. lot ≤ most)
  pub time : (k : ℕ) → 1 ≤ k → k ≤ n → IsInTime (unit_time m i k) (setup_time m i k) (capacity m k t) lot
  pub largest : (total : ℕ → ℕ) → AreLargestTotals m total → (x : ℕ) → IsPossibleLot m total i t x → x ≤ lot
  pub small : lot ≤ MAX_TOTAL

less_most : (o : Option ℕ) (a b : ℕ) → a ≤ b → IfSome o (λ most. b ≤ most) → IfSome o (λ most. a ≤ most)
less_most None a b h is = tt
less_most (Some most) a b h is = omega (arith, h, is)

pub largest_first : (m : Problem) (i t lot : ℕ) → IsMostInALot m i lot → IsLargestTo m i t 0 lot
largest_first m i t lot is = record {
  in_all = is.in_all;
  most = is.most;
  time = λ k low high. absurd (omega (arith, low, high));
  largest = λ total totals x possible. is.largest total totals x possible.in_all possible.most;
  small = is.small;
}

pub largest_next : (m : Problem) (i t k lot new : ℕ) → 1 ≤ k → k ≤ resource_count m → IsLargestTo m i t (k - 1) lot → IsLargestInTime lot (unit_time m i k) (setup_time m i k) (capacity m k t) new → IsLargestTo m i t (k + 1 - 1) new
largest_next m i t k lot new low high before is = record {
  in_all = λ total totals. omega (arith, is.within, before.in_all total totals);
  most = less_most (item_at m i).max_lot new lot is.within before.most;
  time = λ j j_low j_high. ⊎_elim
      (λ earlier. omega (arith, before.time j j_low (omega (arith, earlier)), mul-le-mul_left (unit_time m i j) is.within))
      (λ no. let e : k ≡ j = omega (arith, no, j_high, low) in subst (λ r. IsInTime (unit_time m i r) (setup_time m i r) (capacity m r t) new) e is.time)
      (cases_lt j k);
  largest = λ total totals x possible. is.largest x (before.largest total totals x possible) (possible.time k low high);
  small = omega (arith, is.within, before.small);
}

pub largest_none : (m : Problem) (total : ℕ → ℕ) (i t k most : ℕ) → 1 ≤ k → k ≤ resource_count m → IsLargestOrNone most (unit_time m i k) (setup_time m i k) (capacity m k t) None → IsLargestLot m total i t 0
largest_none m total i t k most low high none = record {
  possible = inr refl;
  largest = λ x possible. absurd (none x (possible.time k low high));
}

pub largest_all : (m : Problem) (total : ℕ → ℕ) (i t lot : ℕ) → AreLargestTotals m total → IsLargestTo m i t (resource_count m) lot → IsLargestLot m total i t lot
largest_all m total i t lot totals is = record {
  possible = inl (record { in_all = is.in_all total totals; most = is.most; time = is.time });
  largest = is.largest total totals;
}

pub in_time_same : (most a b c x y z : ℕ) (o : Option ℕ) → a ≡ x → b ≡ y → c ≡ z → IsLargestOrNone most a b c o → IsLargestOrNone most x y z o
in_time_same most a b c x y z o ax by cz is = subst (λ k. IsLargestOrNone most k y z o) ax (subst (λ k. IsLargestOrNone most a k z o) by (subst (λ k. IsLargestOrNone most a b k o) cz is))

-- a feasible plan makes no more than it
pub made_at_most : (m : Problem) (i t lot : ℕ) → LotsHold → IsInstance m → 1 ≤ i → i ≤ item_count m → 1 ≤ t → t ≤ m.periods → IsLargestLotOf m i t lot → IsMostMade m i t lot
made_at_most m i t lot hold is low high t_low t_high largest p f =
    let (total, totals, least) = is.totals in
    let (rank, ranks) = is.ranked in
    hold m rank total is.limits.some_period ranks totals p f i t low high t_low t_high lot (largest total totals)
