-- Of a problem in which no item is its own component, starts and lots exist, and they are the same by all largest totals.
use Rattle.std.proofs.Common.{◌≡◌, ◌≤◌, ◌<◌, ◌+◌, ◌*◌, ◌⊎◌, ⊎_elim, inl, inr, ℕ, zero, suc, refl, sym, subst, arith}
use Rattle.std.specs.Prelude.{min, Option, Some, None, IfSome}
use Rattle.std.proofs.lemmas.Bool.{cases_eq, cases_lt}
use Rattle.lot_sizing.specs.Laws.{TotalsAreOne}
use Rattle.lot_sizing.specs.Sums.{sum_to}
use Rattle.lot_sizing.specs.Problem.{Problem, capacity, item_at, item_count, resource_count, setup_time, unit_time}
use Rattle.lot_sizing.specs.Plan.{Table}
use Rattle.lot_sizing.specs.Totals.{AreLargestTotals, IsRanking}
use Rattle.lot_sizing.proofs.Sums.{sum_to-front, sum_to_at}
use Rattle.must_start.specs.MustStart.{AreMustStart, greatest_to, must_arrive_in_time}
use Rattle.must_start.specs.Lots.{IsLargestLot, IsPossibleLot}
use Rattle.late_starts.specs.OnTime.{OnTimeExists}
use Rattle.must_start.proofs.Greatest.{greatest_same}
use Rattle.must_start.proofs.Starts.{arrival_same}
use Rattle.reduced_groups.specs.Groups.{AreKnown, Known}

-- STARTS, by levels of the bill

abbrev pub start_to : Problem → ℕ → Table
start_to m zero i t = 0
start_to m (suc n) i zero = 0
start_to m (suc n) i (suc t) = greatest_to (min (suc t + (item_at m i).lead) m.periods) (must_arrive_in_time m (start_to m n) i)

start_none : (m : Problem) (n i : ℕ) → start_to m n i 0 ≡ 0
start_none m zero i = refl
start_none m (suc n) i = refl

start_stays : (m : Problem) (rank : ℕ → ℕ) → IsRanking m rank → (n i t : ℕ) → 1 ≤ i → i ≤ item_count m → rank i < n → start_to m n i t ≡ start_to m (suc n) i t
start_stays m rank ranks zero i t low high few = absurd (omega (arith, few))
start_stays m rank ranks (suc n) i zero low high few = refl
start_stays m rank ranks (suc n) i (suc t) low high few =
    greatest_same (min (suc t + (item_at m i).lead) m.periods) (must_arrive_in_time m (start_to m n) i) (must_arrive_in_time m (start_to m (suc n)) i) (λ u u_low u_far.
    arrival_same m (start_to m n) (start_to m (suc n)) i u (λ j j_low j_high goes. start_stays m rank ranks n j u j_low j_high (omega (arith, few, ranks i j low high j_low j_high goes))))

-- no rank is above the sum of all
rank_high : (n : ℕ) (rank : ℕ → ℕ) (i : ℕ) → 1 ≤ i → i ≤ n → rank i < suc (sum_to n rank)
rank_high n rank i low high = omega (arith, sum_to_at i rank low, sum_to-front i n rank high)

abbrev pub all_levels : Problem → (ℕ → ℕ) → ℕ
all_levels m rank = suc (sum_to (item_count m) rank)

starts_are : (m : Problem) (rank : ℕ → ℕ) → IsRanking m rank → AreMustStart m (start_to m (all_levels m rank))
starts_are m rank ranks = record {
  none = λ i low high. start_none m (all_levels m rank) i;
  each = λ i t low high t_low t_high. each i t low high t_low;
}
  where
    each : (i t : ℕ) → 1 ≤ i → i ≤ item_count m → 1 ≤ t → start_to m (all_levels m rank) i t ≡ greatest_to (min (t + (item_at m i).lead) m.periods) (must_arrive_in_time m (start_to m (all_levels m rank)) i)
    each i zero low high t_low = absurd (omega (arith, t_low))
    each i (suc t) low high t_low = start_stays m rank ranks (all_levels m rank) i (suc t) low high (rank_high (item_count m) rank i low high)

-- LOTS: whether one is possible can be decided, so that there is a largest

at_most_or : (a b : ℕ) → (a ≤ b) ⊎ (a ≤ b → ⊥)
at_most_or a b = ⊎_elim (λ above. inr (λ h. omega (arith, above, h))) (λ within. inl (omega (arith, within))) (cases_lt b a)

most_or : (o : Option ℕ) (x : ℕ) → IfSome o (λ most. x ≤ most) ⊎ (IfSome o (λ most. x ≤ most) → ⊥)
most_or None x = inl tt
most_or (Some most) x = at_most_or x most

module _ (m : Problem) (total : ℕ → ℕ) (i t : ℕ) where
  -- the first n resources have the time
  abbrev pub HasTimeTo : ℕ → ℕ → Type 0
  HasTimeTo n x = (k : ℕ) → 1 ≤ k → k ≤ n → unit_time m i k * x + setup_time m i k ≤ capacity m k t

  time_or : (n x : ℕ) → HasTimeTo n x ⊎ (HasTimeTo n x → ⊥)
  time_or zero x = inl (λ k low high. absurd (omega (arith, low, high)))
  time_or (suc n) x =
      ⊎_elim
      (λ before. ⊎_elim
      (λ own. inl (λ k low high. ⊎_elim
      (λ last. subst (λ j. unit_time m i j * x + setup_time m i j ≤ capacity m j t) (sym last) own)
      (λ other. before k low (omega (arith, high, other)))
      (cases_eq k (suc n))))
      (λ none. inr (λ all. none (all (suc n) (omega arith) (omega arith))))
      (at_most_or (unit_time m i (suc n) * x + setup_time m i (suc n)) (capacity m (suc n) t)))
      (λ none. inr (λ all. none (λ k low high. all k low (omega (arith, high)))))
      (time_or n x)

  possible_or : (x : ℕ) → IsPossibleLot m total i t x ⊎ (IsPossibleLot m total i t x → ⊥)
  possible_or x =
      ⊎_elim
      (λ in_all. ⊎_elim
      (λ most. ⊎_elim
      (λ time. inl (record { in_all = in_all; most = most; time = time }))
      (λ none. inr (λ can. none can.time))
      (time_or (resource_count m) x))
      (λ none. inr (λ can. none can.most))
      (most_or (item_at m i).max_lot x))
      (λ none. inr (λ can. none can.in_all))
      (at_most_or x (total i))

  -- the largest up to a quantity
  pub record IsLargestUpTo (n lot : ℕ) : Type 0 where
    pub possible : IsPossibleLot m total i t lot ⊎ (lot ≡ 0)
    pub largest : (x : ℕ) → x ≤ n → IsPossibleLot m total i t x → x ≤ lot

  largest_to : (n : ℕ) → (lot : ℕ) × IsLargestUpTo n lot
  largest_to zero = (0, record { possible = inr refl; largest = λ x high can. high })
  largest_to (suc n) =
      ⊎_elim
      (λ can. (suc n, record { possible = inl can; largest = λ x high is. high }))
      (λ cannot.
      let (lot, is) = largest_to n in (
        lot,
        record {
          possible = is.possible;
          largest = λ x high can. ⊎_elim
              (λ last. absurd (cannot (subst (IsPossibleLot m total i t) last can)))
              (λ before. is.largest x (omega (arith, high, before)) can)
              (cases_eq x (suc n));
        },
      ))
      (possible_or (suc n))

  largest_lot : (lot : ℕ) × IsLargestLot m total i t lot
  largest_lot = let (lot, is) = largest_to (total i) in (lot, record { possible = is.possible; largest = λ x can. is.largest x can.in_all can })

-- ALL THAT IS KNOWN

pub known_exists : (m : Problem) (rank total : ℕ → ℕ) → OnTimeExists → IsRanking m rank → (known : Known) × AreKnown m total known
known_exists m rank total exist ranks =
    let (on_time, timed) = exist m rank ranks in (
      record { start = start_to m (all_levels m rank); on_time = on_time; lot = λ i t. (largest_lot m total i t).0 },
      record { start = starts_are m rank ranks; on_time = timed; lot = λ i t low high t_low t_high. (largest_lot m total i t).1 },
    )

-- by other totals lots are the same
lot_by_both : (m : Problem) (total more : ℕ → ℕ) (i t lot : ℕ) → total i ≡ more i → IsLargestLot m total i t lot → IsLargestLot m more i t lot
lot_by_both m total more i t lot same is = record {
  possible = ⊎_elim (λ can. inl (record { in_all = omega (arith, can.in_all, same); most = can.most; time = can.time })) (λ none. inr none) is.possible;
  largest = λ x can. is.largest x (record { in_all = omega (arith, can.in_all, same); most = can.most; time = can.time });
}

pub known_by_both : (m : Problem) (rank total more : ℕ → ℕ) (known : Known) → TotalsAreOne → IsRanking m rank → AreLargestTotals m total → AreLargestTotals m more → AreKnown m total known → AreKnown m more known
known_by_both m rank total more known one ranks totals others is = record {
  start = is.start;
  on_time = is.on_time;
  lot = λ i t low high t_low t_high. lot_by_both m total more i t (known.lot i t) (one m rank total more ranks totals others i low high) (is.lot i t low high t_low t_high);
}
