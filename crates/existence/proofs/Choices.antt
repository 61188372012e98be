-- A problem has a feasible plan, or none: quantities up to the largest totals and setups up to 1 can be gone through.
use Rattle.std.proofs.Common.{◌≡◌, ◌≤◌, ◌<◌, ◌+◌, ◌⊎◌, ⊎_elim, inl, inr, ℕ, refl, sym, arith}
use Rattle.std.proofs.lemmas.Bool.{cases_lt}
use Rattle.bill.specs.Laws.{TotalsExist}
use Rattle.lot_sizing.specs.Sums.{sum_to}
use Rattle.lot_sizing.specs.Problem.{Problem, demand, item_at, item_count}
use Rattle.lot_sizing.specs.Bill.{bill_of}
use Rattle.lot_sizing.specs.Plan.{IsFeasible, Plan, Table}
use Rattle.lot_sizing.specs.Least.{least_plan}
use Rattle.lot_sizing.specs.Best.{IsImpossible}
use Rattle.lot_sizing.specs.Totals.{IsRanking}
use Rattle.lot_sizing.specs.Laws.{BoundsTotals, KeepsLeast}
use Rattle.lot_sizing.proofs.Sums.{sum_to-front, sum_to_at}
use Rattle.existence.specs.Plans.{PlansAreDecided}
use Rattle.existence.proofs.Judging.{feasible_or_not}
use Rattle.existence.proofs.Spaces.{tables}

-- what the laws below say
pub record Grounds : Type 0 where
  pub exist : TotalsExist
  pub totals : BoundsTotals
  pub least : KeepsLeast

-- the same numbers for each item and period
abbrev AreSame : Problem → Table → Table → Type 0
AreSame m a b = (i : ℕ) → 1 ≤ i → i ≤ item_count m → (t : ℕ) → 1 ≤ t → t ≤ m.periods → a i t ≡ b i t

-- none is past the limit of its item
abbrev AreWithin : Problem → (ℕ → ℕ) → Table → Type 0
AreWithin m most a = (i : ℕ) → 1 ≤ i → i ≤ item_count m → (t : ℕ) → 1 ≤ t → t ≤ m.periods → a i t ≤ most i

abbrev IsGood : Problem → Table → Table → Type 0
IsGood m make setup = IsFeasible m (least_plan m make setup)

-- one number of a sum is at most the sum
one_of_sum : (n t : ℕ) (f : ℕ → ℕ) → 1 ≤ t → t ≤ n → f t ≤ sum_to n f
one_of_sum n t f low high = omega (arith, sum_to-front t n f high, sum_to_at t f low)

module _ (by : Grounds) (m : Problem) (some : 1 ≤ m.periods) where
  -- what is good stays good with the same numbers
  moved : (make make_too setup setup_too : Table) → AreSame m make make_too → AreSame m setup setup_too → IsGood m make setup → IsGood m make_too setup_too
  moved make make_too setup setup_too makes setups good =
      (by.least m make_too setup_too some (least_plan m make setup) good (record {
        make = λ i t low high t_low t_high. makes i low high t t_low t_high;
        setup = λ i t low high t_low t_high. setups i low high t t_low t_high;
      })).0

  setups_or_none : (make : Table) → ((setup : Table) × IsGood m make setup) ⊎ ((setup : Table) → AreWithin m (λ _. 1) setup → IsGood m make setup → ⊥)
  setups_or_none make =
      tables (item_count m) m.periods (λ _. 1) (IsGood m make) (λ setup. IsGood m make setup → ⊥)
      (λ setup. feasible_or_not m (least_plan m make setup))
      (λ a b same no good. no (moved make make b a (λ i low high t t_low t_high. refl) (λ i low high t t_low t_high. sym (same i low high t t_low t_high)) good))

  choice_or_none : (total : ℕ → ℕ) → ((make : Table) × ((setup : Table) × IsGood m make setup)) ⊎ ((make : Table) → AreWithin m total make → (setup : Table) → AreWithin m (λ _. 1) setup → IsGood m make setup → ⊥)
  choice_or_none total =
      tables (item_count m) m.periods total (λ make. (setup : Table) × IsGood m make setup) (λ make. (setup : Table) → AreWithin m (λ _. 1) setup → IsGood m make setup → ⊥)
      setups_or_none
      (λ a b same none setup within good. none setup within (moved b a setup setup (λ i low high t t_low t_high. sym (same i low high t t_low t_high)) (λ i low high t t_low t_high. refl) good))

  with_periods : (rank : ℕ → ℕ) → IsRanking m rank → ((p : Plan) × IsFeasible m p) ⊎ IsImpossible m
  with_periods rank ranks =
      let asked : ℕ → ℕ = λ i. sum_to m.periods (demand m i) + (item_at m i).end_max in
      let found = by.exist (bill_of m) asked (λ i. (item_at m i).opening) rank ranks in
      let total = found.0 in
      ⊎_elim
      (λ choice. inl (least_plan m choice.0 choice.1.0, choice.1.1))
      (λ none. inr (λ p feasible. none p.make
      (λ i low high t t_low t_high. omega (arith, one_of_sum m.periods t (p.make i) t_low t_high, by.totals m rank total some ranks found.1 p feasible i low high))
      p.setup
      (λ i low high t t_low t_high. feasible.setup i t low high t_low t_high)
      (by.least m p.make p.setup some p feasible (record { make = λ i t low high t_low t_high. refl; setup = λ i t low high t_low t_high. refl })).0))
      (choice_or_none total)

-- without periods only the end stocks matter
end_plan : Problem → Plan
end_plan m = record { make = λ i t. 0; setup = λ i t. 0; stock = λ i t. (item_at m i).end_min; backlog = λ i t. 0 }

module _ (m : Problem) (none : m.periods < 1) where
  ends_alone : (p : Plan) → IsFeasible m p → IsFeasible m (end_plan m)
  unfolding end_plan
  ends_alone p feasible = record {
    balance = λ i t low high t_low t_high. absurd (omega (arith, none, t_low, t_high));
    setup = λ i t low high t_low t_high. absurd (omega (arith, none, t_low, t_high));
    made = λ i t low high t_low t_high. absurd (omega (arith, none, t_low, t_high));
    capacity = λ i t low high t_low t_high. absurd (omega (arith, none, t_low, t_high));
    end_stock = λ i low high. (omega arith, omega (arith, (feasible.end_stock i low high).0, (feasible.end_stock i low high).1));
    backlog = λ i t low high t_low t_high. absurd (omega (arith, none, t_low, t_high));
    lots = λ i t low high t_low t_high. absurd (omega (arith, none, t_low, t_high));
    horizon = λ i t low high t_low t_high. absurd (omega (arith, none, t_low, t_high));
  }

  without_periods : ((p : Plan) × IsFeasible m p) ⊎ IsImpossible m
  without_periods = ⊎_elim (λ feasible. inl (end_plan m, feasible)) (λ no. inr (λ p feasible. no (ends_alone p feasible))) (feasible_or_not m (end_plan m))

pub plans_decided : Grounds → PlansAreDecided
plans_decided by m rank ranks = ⊎_elim (λ none. without_periods m none) (λ some. with_periods by m some rank ranks) (cases_lt m.periods 1)
