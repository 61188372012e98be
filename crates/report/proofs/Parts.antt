-- The four parts of all items add up to what a plan costs.
use Rattle.std.proofs.Common.{◌≡◌, ℕ, ◌+◌, ◌*◌, arith}
use Rattle.lot_sizing.specs.Sums.{sum_to}
use Rattle.lot_sizing.specs.Problem.{Problem, item_count, unit_cost, setup_cost, hold_cost, backlog_cost}
use Rattle.lot_sizing.specs.Plan.{Plan, cost, cost_at}
use Rattle.lot_sizing.proofs.Sums.{sum_to-add, sum_to-same}
use Rattle.report.specs.Summary.{parts_of}

four_sums : (n : ℕ) (a b c d : ℕ → ℕ) → sum_to n a + sum_to n b + sum_to n c + sum_to n d ≡ sum_to n (λ t. a t + b t + c t + d t)
four_sums n a b c d = omega (arith, sum_to-add n a b, sum_to-add n (λ t. a t + b t) c, sum_to-add n (λ t. a t + b t + c t) d)

item_parts : (m : Problem) (p : Plan) (i : ℕ) → parts_of m p i ≡ sum_to m.periods (λ t. cost_at m p i t)
item_parts m p i = four_sums m.periods (λ t. unit_cost m i t * p.make i t) (λ t. setup_cost m i t * p.setup i t) (λ t. hold_cost m i t * p.stock i t) (λ t. backlog_cost m i t * p.backlog i t)

pub add_up : (m : Problem) (p : Plan) → sum_to (item_count m) (parts_of m p) ≡ cost m p
add_up m p = sum_to-same (item_count m) (parts_of m p) (λ i. sum_to m.periods (λ t. cost_at m p i t)) (λ i low high. item_parts m p i)
