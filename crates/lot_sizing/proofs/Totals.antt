-- No feasible plan makes more than the largest total.
use Rattle.std.proofs.Common.{◌≡◌, ◌≤◌, ◌<◌, ◌*◌, ◌∙◌, ⊎_elim, ℕ, zero, suc, refl, ap, arith}
use Rattle.std.proofs.Math.Nat.{mul-le-mul_left}
use Rattle.std.proofs.lemmas.Bool.{cases_lt}
use Rattle.lot_sizing.specs.Sums.{sum_to}
use Rattle.lot_sizing.specs.Problem.{Problem, item_count, demand, per_unit}
use Rattle.lot_sizing.specs.Plan.{Plan, IsFeasible, used_up}
use Rattle.lot_sizing.specs.Totals.{IsRanking, AreLargestTotals}
use Rattle.lot_sizing.proofs.Sums.{sum_to-same, sum_to-le, sum_to-add, sum_to-times, sum_to-swap}
use Rattle.lot_sizing.proofs.Plans.{stock_after_some, backlog_after_some}
use Rattle.lot_sizing.proofs.Lots.{all_arrive}
use Rattle.lot_sizing.proofs.Least.{balance_so_far}

-- what goes into other items in all
used_in_all : (m : Problem) (p : Plan) (i : ℕ) → sum_to m.periods (used_up m p.make i) ≡ sum_to (item_count m) (λ j. per_unit m i j * sum_to m.periods (p.make j))
used_in_all m p i =
    sum_to-swap m.periods (item_count m) (λ t j. per_unit m i j * p.make j t)
    ∙ sum_to-same (item_count m) _ _ (λ j low high. sum_to-times m.periods (per_unit m i j) (p.make j))

-- in a problem whose items have a ranking
pub made_at_most : (m : Problem) (p : Plan) (rank total : ℕ → ℕ) → 1 ≤ m.periods → IsFeasible m p → IsRanking m rank → AreLargestTotals m total → (n i : ℕ) → 1 ≤ i → i ≤ item_count m → rank i < n → sum_to m.periods (p.make i) ≤ total i
made_at_most m p rank total some f ranks totals zero i low high h = absurd (omega arith)
made_at_most m p rank total some f ranks totals (suc n) i low high h =
    let last = m.periods in
    let parents = sum_to-le (item_count m) (λ j. per_unit m i j * sum_to last (p.make j)) (λ j. per_unit m i j * total j) (λ j j_low j_high.
    ⊎_elim
    (λ goes. mul-le-mul_left (per_unit m i j) (made_at_most m p rank total some f ranks totals n j j_low j_high (omega (arith, ranks i j low high j_low j_high goes))))
    (λ none. let e : per_unit m i j ≡ 0 = omega arith in omega (arith, ap (λ k. k * sum_to last (p.make j)) e, ap (λ k. k * total j) e))
    (cases_lt 0 (per_unit m i j))) in
    omega (arith, totals i low high, all_arrive m p.make i (λ t t_low t_high late. f.horizon i t low high t_low t_high late), balance_so_far m p i low high f.balance last (omega arith), sum_to-add last (demand m i) (used_up m p.make i), used_in_all m p i, parents, (f.end_stock i low high).1, (f.backlog i last low high some (omega arith)).1 refl, stock_after_some m p i last some, backlog_after_some p i last some)
