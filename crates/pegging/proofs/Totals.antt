-- What all supplies of an item have is what all its needs take.
use Rattle.std.proofs.Common.{◌≡◌, ◌≤◌, ◌+◌, ◌∙◌, ◌∷◌, [], ℕ, map, refl, ap, arith}
use Rattle.std.specs.List.{flat_map, range_with_len, sum_by}
use Rattle.std.proofs.lemmas.List.Sums.{sum_by-append, sum_by-cons}
use Rattle.lot_sizing.specs.Sums.{sum_to}
use Rattle.lot_sizing.specs.Problem.{Problem, demand, item_at, item_count}
use Rattle.lot_sizing.specs.Plan.{IsFeasible, Plan, used_up}
use Rattle.lot_sizing.specs.Least.{outflow}
use Rattle.lot_sizing.proofs.Sums.{sum_to-same}
use Rattle.lot_sizing.proofs.Plans.{backlog_after_some, stock_after_some}
use Rattle.lot_sizing.proofs.Lots.{all_arrive}
use Rattle.lot_sizing.proofs.Least.{balance_so_far}
use Rattle.pegging.specs.declared.pegs.Supply.TheVariants.{Opening, Lot}
use Rattle.pegging.specs.declared.pegs.Target.TheVariants.{Demand, Part, End}
use Rattle.pegging.specs.Pegs.{needed, supplied, supplies, targets, targets_in}
use Rattle.pegging.proofs.Ranges.{sum_flat, sum_listed, sum_range}

total_supplied : (m : Problem) (p : Plan) (i : ℕ) → sum_by (supplied m p i) (supplies m) ≡ (item_at m i).opening + sum_to m.periods (p.make i)
total_supplied m p i =
    sum_by-cons (supplied m p i) Opening (map (λ t. Lot t) (range_with_len 1 m.periods))
    ∙ ap (λ n. (item_at m i).opening + n) (sum_listed (supplied m p i) (λ t. Lot t) m.periods)

-- what the needs of a period take
pub total_in : (m : Problem) (p : Plan) (i t : ℕ) → sum_by (needed m p i) (targets_in m t) ≡ demand m i t + used_up m p.make i t
total_in m p i t =
    sum_by-cons (needed m p i) (Demand t) (map (λ j. Part j t) (range_with_len 1 (item_count m)))
    ∙ ap (λ n. demand m i t + n) (sum_listed (needed m p i) (λ j. Part j t) (item_count m))

total_needed : (m : Problem) (p : Plan) (i : ℕ) → sum_by (needed m p i) (targets m) ≡ outflow m p.make i m.periods + p.stock i m.periods
total_needed m p i =
    let listed = range_with_len 1 m.periods in
    let each : sum_by (needed m p i) (flat_map (targets_in m) listed) ≡ outflow m p.make i m.periods =
    sum_flat (needed m p i) (targets_in m) listed
    ∙ sum_range (λ t. sum_by (needed m p i) (targets_in m t)) m.periods
    ∙ sum_to-same m.periods (λ t. sum_by (needed m p i) (targets_in m t)) (λ t. demand m i t + used_up m p.make i t) (λ t low high. total_in m p i t) in
    omega (arith, sum_by-append (needed m p i) (flat_map (targets_in m) listed) (End ∷ []), each)

-- in a feasible plan
pub as_much : (m : Problem) (p : Plan) (i : ℕ) → IsFeasible m p → 1 ≤ m.periods → 1 ≤ i → i ≤ item_count m → sum_by (supplied m p i) (supplies m) ≡ sum_by (needed m p i) (targets m)
as_much m p i f some low high =
    let last = m.periods in
    omega (arith, total_supplied m p i, total_needed m p i, all_arrive m p.make i (λ t t_low t_high late. f.horizon i t low high t_low t_high late), balance_so_far m p i low high f.balance last (omega arith), (f.backlog i last low high some (omega arith)).1 refl, stock_after_some m p i last some, backlog_after_some p i last some)
