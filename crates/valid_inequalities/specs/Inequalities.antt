-- Inequalities that hold of each echelon in every feasible plan.
--
-- The (l,S) inequality is that of Barany, Van Roy and Wolsey (1984), with the echelon's backlogs added. The price
-- inequality is a projection of the facility location form (Pochet and Wolsey). The block inequality says that
-- potentials which rise over any block by no more than the block costs end below what any plan costs.
use Rattle.std.specs.Prelude.{ℕ, suc, ◌+◌, ◌-◌, ◌*◌, ◌≤◌, Bool, nat_le, is_some, ◌||◌, List, if◌then◌else◌}
use Rattle.lot_sizing.specs.Sums.{sum_to, sum_from}
use Rattle.lot_sizing.specs.Problem.{backlog_price, entry}
use Rattle.lot_sizing.specs.Single.{Single, net_demand, position_count, potential, unit_price}
use Rattle.lot_sizing.specs.Net.{Asked, left_after}
use Rattle.valid_inequalities.specs.Trajectory.{Trajectory}

-- what is asked for from period b to period l
abbrev pub demand_between : Asked → ℕ → ℕ → ℕ
demand_between a b l = sum_from b (suc l - b) a.demand

-- what period t adds to the left side: all that is still asked for up to l with a setup, and what is owed before, where it is chosen, and what is made otherwise
abbrev pub ls_part : Asked → Trajectory → ℕ → (ℕ → Bool) → ℕ → ℕ
ls_part a f l chosen t = if chosen t then demand_between a t l * f.setup t + f.backlog (t - 1) else f.make t

-- the (l,S) inequality
abbrev pub HoldsLs : Asked → Trajectory → ℕ → (ℕ → Bool) → Type 0
HoldsLs a f l chosen = demand_between a 1 l ≤ a.opening + sum_to l (ls_part a f l chosen) + f.backlog l

-- what units, stocks and backlogs of a period cost
abbrev pub kept_cost : Single → Trajectory → ℕ → ℕ
kept_cost s f t = entry s.unit t * f.make t + entry s.hold t * f.stock t + backlog_price s.back t * f.backlog t

-- the holding of what is left of the opening stock
abbrev pub left_cost : Asked → Single → ℕ
left_cost a s = sum_to a.periods (λ t. entry s.hold t * left_after a t)

-- whether a period may serve another one
abbrev pub may_serve : Single → ℕ → ℕ → Bool
may_serve s u t = is_some s.back || nat_le u t

-- how much more the net demand of a period is worth than it costs to make it in period u
abbrev pub gain : Single → (ℕ → ℕ) → ℕ → ℕ → ℕ
gain s worth u t = if may_serve s u t then net_demand s t * (worth t - unit_price s u t) else 0

-- what a setup can gain in all
abbrev pub all_gain : Asked → Single → (ℕ → ℕ) → ℕ → ℕ
all_gain a s worth u = sum_to a.periods (gain s worth u)

-- the price inequality: what the net demands are worth is at most what plans cost and what their setups gain
abbrev pub HoldsPrice : Asked → Single → (ℕ → ℕ) → Trajectory → Type 0
HoldsPrice a s worth f = sum_to a.periods (λ t. net_demand s t * worth t) + left_cost a s ≤ sum_to a.periods (λ t. all_gain a s worth t * f.setup t + kept_cost s f t)

-- the block inequality
abbrev pub HoldsBlock : Asked → Single → List ℕ → Trajectory → Type 0
HoldsBlock a s g f = potential g (position_count s) + left_cost a s ≤ sum_to a.periods (λ t. entry s.setup t * f.setup t + kept_cost s f t)
