-- The parts of a plan's costs add up.
use Rattle.std.proofs.Common.{◌≡◌, ◌∙◌, ℕ, ◌+◌, arith}
use Rattle.lot_sizing.specs.Sums.{sum_to}
use Rattle.lot_sizing.specs.Problem.{Problem, item_count}
use Rattle.lot_sizing.specs.Plan.{Plan, cost, cost_at}
use Rattle.lot_sizing.proofs.Sums.{sum_to-add, sum_to-same}
use Rattle.plan_report.specs.Parts.{item_cost, part_at, part_of, part_total}
use Rattle.plan_report.specs.declared.parts.Part.TheVariants.{Setups, Making, Holding, Owing}

four_sums : (n : ℕ) (a b c d : ℕ → ℕ) → sum_to n a + sum_to n b + sum_to n c + sum_to n d ≡ sum_to n (λ t. a t + b t + c t + d t)
four_sums n a b c d = omega (arith, sum_to-add n a b, sum_to-add n (λ t. a t + b t) c, sum_to-add n (λ t. a t + b t + c t) d)

parts_at : (m : Problem) (p : Plan) (i t : ℕ) → part_at m p Setups i t + part_at m p Making i t + part_at m p Holding i t + part_at m p Owing i t ≡ cost_at m p i t
unfolding part_at
parts_at m p i t = omega arith

pub item_parts : (m : Problem) (p : Plan) (i : ℕ) → part_of m p Setups i + part_of m p Making i + part_of m p Holding i + part_of m p Owing i ≡ item_cost m p i
unfolding part_of item_cost
item_parts m p i =
    four_sums m.periods (part_at m p Setups i) (part_at m p Making i) (part_at m p Holding i) (part_at m p Owing i)
    ∙ sum_to-same m.periods (λ t. part_at m p Setups i t + part_at m p Making i t + part_at m p Holding i t + part_at m p Owing i t) (cost_at m p i) (λ t low high. parts_at m p i t)

pub plan_parts : (m : Problem) (p : Plan) → part_total m p Setups + part_total m p Making + part_total m p Holding + part_total m p Owing ≡ cost m p
unfolding part_total item_cost
plan_parts m p =
    four_sums (item_count m) (part_of m p Setups) (part_of m p Making) (part_of m p Holding) (part_of m p Owing)
    ∙ sum_to-same (item_count m) (λ i. part_of m p Setups i + part_of m p Making i + part_of m p Holding i + part_of m p Owing i) (item_cost m p) (λ i low high. item_parts m p i)
