-- The quantities and setups of an echelon's item are a net plan, and what the echelon holds and owes costs at least what they do.
use Rattle.std.proofs.Common.{◌≡◌, ◌≢◌, ◌≤◌, ◌<◌, ◌+◌, ◌-◌, ◌*◌, ◌∙◌, ⊎_elim, ℕ, ap, arith, Bool, List}
use Rattle.std.specs.Prelude.{if◌then◌else◌, ◌==◌}
use Rattle.std.proofs.lemmas.Bool.{cases_eq, cases_lt}
use Rattle.std.proofs.Math.Nat.{mul-le-mul_left}
use Rattle.lot_sizing.specs.Sums.{sum_to}
use Rattle.lot_sizing.specs.Problem.{backlog_price, entry}
use Rattle.lot_sizing.specs.Single.{ArePotentials, IsNetPlan, Single, net_cost, net_cost_at, net_demand, period_count}
use Rattle.lot_sizing.specs.Net.{Asked, left_after, needed_to, net_in}
use Rattle.lot_sizing.specs.Laws.{LastPotentialIsFloor}
use Rattle.lot_sizing.proofs.Sums.{sum_to-add, sum_to-le, sum_to-same}
use Rattle.lot_sizing.proofs.Reduction.{end_here, net_so_far}
use Rattle.valid_inequalities.specs.Trajectory.{IsNetOf, IsTrajectory, Trajectory, net_plan_of}
use Rattle.valid_inequalities.specs.Inequalities.{HoldsBlock, kept_cost, left_cost}
use Rattle.valid_inequalities.proofs.Ls.{so_far}

end_later : (a : Asked) (t : ℕ) → t ≢ a.periods → (if t == a.periods then a.end_min else 0) ≡ 0
end_later a t h = grind (arith, h)

-- what the item by itself asks for up to a period
net_is : (a : Asked) (owing : Bool) (s : Single) → 1 ≤ a.periods → IsNetOf a owing s → (t : ℕ) → t ≤ a.periods → sum_to t (net_demand s) ≡ needed_to a t
net_is a owing s some net t h = sum_to-same t (net_demand s) (net_in a) (λ k low high. net.net k low (omega (arith, high, h))) ∙ net_so_far a some t h

-- the echelon holds what is left and what is over, and owes what is short
record IsKept (a : Asked) (f : Trajectory) (t : ℕ) : Type 0 where
  held : left_after a t + (sum_to t f.make - needed_to a t) ≤ f.stock t
  owed : needed_to a t - sum_to t f.make ≤ f.backlog t

kept : (a : Asked) (owing : Bool) (f : Trajectory) → IsTrajectory a owing f → (t : ℕ) → t ≤ a.periods → IsKept a f t
kept a owing f is t high =
    let balance = so_far a owing f is t high in
    ⊎_elim
    (λ last.
    let end = end_here a t last in
    let stock : a.end_min ≤ f.stock t = omega (arith, is.end_stock, ap f.stock last) in
    let none : f.backlog t ≡ 0 = ap f.backlog last ∙ is.settled in
    record { held = omega (arith, balance, end, stock, none); owed = omega (arith, balance, end, stock, none) })
    (λ before.
    let end = end_later a t before in
    record { held = omega (arith, balance, end); owed = omega (arith, balance, end) })
    (cases_eq t a.periods)

some_net_plan : (a : Asked) (owing : Bool) (f : Trajectory) (s : Single) → 1 ≤ a.periods → IsTrajectory a owing f → IsNetOf a owing s → IsNetPlan s (net_plan_of f)
some_net_plan a owing f s some is net = record {
  setup = λ t low high. is.setup t low (omega (arith, high, net.periods));
  made = λ t low high. is.made t low (omega (arith, high, net.periods));
  served = omega (arith, ap (λ n. sum_to n (net_demand s)) net.periods, ap (λ n. sum_to n f.make) net.periods, net_is a owing s some net a.periods (omega arith), (kept a owing f is a.periods (omega arith)).owed, is.settled);
  in_time = λ none t low high.
      let h : t ≤ a.periods = omega (arith, high, net.periods) in
      omega (arith, net_is a owing s some net t h, (kept a owing f is t h).owed, is.in_time (net.back none) t low h);
}

-- quantities and setups are a net plan, over no periods too
pub is_net_plan : (a : Asked) (owing : Bool) (f : Trajectory) (s : Single) → IsTrajectory a owing f → IsNetOf a owing s → IsNetPlan s (net_plan_of f)
is_net_plan a owing f s is net =
    ⊎_elim
    (λ some. some_net_plan a owing f s (omega (arith, some)) is net)
    (λ none.
    let empty : period_count s ≡ 0 = omega (arith, none, net.periods) in
    record {
      setup = λ t low high. absurd (omega (arith, low, high, empty));
      made = λ t low high. absurd (omega (arith, low, high, empty));
      served = omega (arith, ap (λ n. sum_to n (net_demand s)) empty);
      in_time = λ _ t low high. absurd (omega (arith, low, high, empty));
    })
    (cases_lt 0 a.periods)

-- a period costs at least what it costs the net plan, and the holding of what is left
cost_in : (a : Asked) (owing : Bool) (f : Trajectory) (s : Single) → 1 ≤ a.periods → IsTrajectory a owing f → IsNetOf a owing s → (t : ℕ) → 1 ≤ t → t ≤ a.periods → net_cost_at s (net_plan_of f) t + entry s.hold t * left_after a t ≤ entry s.setup t * f.setup t + kept_cost s f t
cost_in a owing f s some is net t low high =
    let k = kept a owing f is t high in
    let e = net_is a owing s some net t high in
    let x = sum_to t f.make in
    let over : x - sum_to t (net_demand s) ≡ x - needed_to a t = omega (arith, e) in
    let short : sum_to t (net_demand s) - x ≡ needed_to a t - x = omega (arith, e) in
    omega (
      arith,
      ap (λ n. entry s.hold t * n) over,
      ap (λ n. backlog_price s.back t * n) short,
      mul-le-mul_left (entry s.hold t) k.held,
      mul-le-mul_left (backlog_price s.back t) k.owed,
    )

some_costs_more : (a : Asked) (owing : Bool) (f : Trajectory) (s : Single) → 1 ≤ a.periods → IsTrajectory a owing f → IsNetOf a owing s → net_cost s (net_plan_of f) + left_cost a s ≤ sum_to a.periods (λ t. entry s.setup t * f.setup t + kept_cost s f t)
some_costs_more a owing f s some is net =
    let T = a.periods in
    omega (
      arith,
      sum_to-add T (net_cost_at s (net_plan_of f)) (λ t. entry s.hold t * left_after a t),
      sum_to-le T (λ t. net_cost_at s (net_plan_of f) t + entry s.hold t * left_after a t) (λ t. entry s.setup t * f.setup t + kept_cost s f t) (λ t low high. cost_in a owing f s some is net t low high),
      ap (λ n. sum_to n (net_cost_at s (net_plan_of f))) net.periods,
    )

-- a plan costs at least what its net plan does, and the holding of what is left
pub costs_more : (a : Asked) (owing : Bool) (f : Trajectory) (s : Single) → IsTrajectory a owing f → IsNetOf a owing s → net_cost s (net_plan_of f) + left_cost a s ≤ sum_to a.periods (λ t. entry s.setup t * f.setup t + kept_cost s f t)
costs_more a owing f s is net =
    ⊎_elim
    (λ some. some_costs_more a owing f s (omega (arith, some)) is net)
    (λ none.
    let empty : period_count s ≡ 0 = omega (arith, none, net.periods) in
    let free : a.periods ≡ 0 = omega (arith, none) in
    omega (arith, ap (λ n. sum_to n (net_cost_at s (net_plan_of f))) empty, ap (λ n. sum_to n (λ t. entry s.hold t * left_after a t)) free))
    (cases_lt 0 a.periods)

pub block_holds : LastPotentialIsFloor → (a : Asked) (owing : Bool) (f : Trajectory) (s : Single) (g : List ℕ) → IsTrajectory a owing f → IsNetOf a owing s → ArePotentials s g → HoldsBlock a s g f
block_holds floor a owing f s g is net pots = omega (arith, costs_more a owing f s is net, floor s g pots (net_plan_of f) (is_net_plan a owing f s is net))
