-- The inequalities hold.
use Rattle.std.specs.Prelude.{ℕ, ◌≤◌, Bool, List}
use Rattle.lot_sizing.specs.Single.{ArePotentials, IsNetPlan, Single}
use Rattle.lot_sizing.specs.Net.{Asked}
use Rattle.valid_inequalities.specs.Trajectory.{IsNetOf, IsTrajectory, Trajectory, net_plan_of}
use Rattle.valid_inequalities.specs.Inequalities.{HoldsBlock, HoldsLs, HoldsPrice}

-- the (l,S) inequality holds for each l and each S
abbrev pub LsHolds : Type 0
LsHolds = (a : Asked) (owing : Bool) (f : Trajectory) → IsTrajectory a owing f → (l : ℕ) (chosen : ℕ → Bool) → 1 ≤ l → l ≤ a.periods → HoldsLs a f l chosen

-- quantities and setups are a net plan
abbrev pub PlansNet : Type 0
PlansNet = (a : Asked) (owing : Bool) (f : Trajectory) (s : Single) → IsTrajectory a owing f → IsNetOf a owing s → IsNetPlan s (net_plan_of f)

-- the block inequality holds for potentials
abbrev pub BlockHolds : Type 0
BlockHolds = (a : Asked) (owing : Bool) (f : Trajectory) (s : Single) (g : List ℕ) → IsTrajectory a owing f → IsNetOf a owing s → ArePotentials s g → HoldsBlock a s g f

-- the price inequality holds for each list of prices
abbrev pub PriceHolds : Type 0
PriceHolds = (a : Asked) (owing : Bool) (f : Trajectory) (s : Single) (worth : ℕ → ℕ) → IsTrajectory a owing f → IsNetOf a owing s → HoldsPrice a s worth f
