-- Lots of the first period take the place of opening stocks that are dear.
use Rattle.std.proofs.Common.{◌≡◌, ◌≤◌, ◌<◌, ◌+◌, ◌-◌, ◌*◌, ⊎_elim, ℕ, zero, suc, refl, ap, arith, List, [], ◌∷◌}
use Rattle.std.proofs.Math.Nat.{mul-le-mul_right}
use Rattle.std.proofs.lemmas.Bool.{cases_eq}
use Rattle.lot_sizing.specs.Sums.{sum_to}
use Rattle.lot_sizing.proofs.Sums.{sum_to-same}
use Rattle.chain_dp.specs.Chains.{IsChainMade, IsMade, Level, Lots, chain_cost, lots_cost, made, used_by_next}
use Rattle.chain_dp.specs.Stocks.{AreDear, NoStocks, StocksAreUnused}
use Rattle.chain_dp.proofs.Changes.{made_after, raised, raised_other, setup_cost, setup_is, setup_or, units_cost, with_setup, with_units}
use Rattle.chain_dp.proofs.Leads.{first_then, then_is, then_sum}

-- a setup cost where there are units
abbrev if_some : ℕ → ℕ → ℕ
if_some zero fees = 0
if_some (suc e) fees = fees

-- x units in period 1, and none in lot 0
abbrev with_first : Lots → ℕ → Lots
with_first w x = record { make = first_then 0 (raised w.make 1 x); setup = (with_setup w 1).setup }

first_made : (w : Lots) (x t : ℕ) → 1 ≤ t → made (with_first w x) t + w.make 0 ≡ made w t + x
first_made w x t low =
    omega (arith, made_after w 1 x t low, then_sum 0 t (raised w.make 1 x), raised_other w.make 1 x 0 (λ same. omega (arith, same)))

first_cost : (n : ℕ) (l : Level) (w : Lots) (x : ℕ) → lots_cost n l (with_first w x) + l.opening_price * w.make 0 ≤ lots_cost n l w + l.setup_cost 1 + l.unit_cost 1 * x
first_cost n l w x =
    let u = with_units w 1 x in
    let same =
    sum_to-same n (λ t. l.setup_cost t * (with_setup w 1).setup t + l.unit_cost t * first_then 0 (raised w.make 1 x) t) (λ t. l.setup_cost t * (with_setup w 1).setup t + l.unit_cost t * raised w.make 1 x t)
    (λ k low high. ap (λ y. l.setup_cost k * (with_setup w 1).setup k + l.unit_cost k * y) (then_is 0 (raised w.make 1 x) k low)) in
    omega (arith, same, units_cost n l w 1 x, setup_cost n l u 1, ap (λ y. l.opening_price * y) (raised_other w.make 1 x 0 (λ e. omega (arith, e))))

-- what is paid for the units of lot 0 pays for units in period 1
paid_first : (fees below m p more opening setup unit : ℕ) → fees + setup + (unit + below) ≤ opening → 1 ≤ m + p * more →
    fees + below * (m + p * more) + setup + unit * (m + p * more) ≤ opening * m + if_some more (fees + setup) + p * (unit + below) * more
paid_first fees below zero p zero opening setup unit dear some = absurd (omega (arith, some))
paid_first fees below zero p (suc more) opening setup unit dear some = omega arith
paid_first fees below (suc m) p more opening setup unit dear some =
    omega (arith, mul-le-mul_right (suc m) dear)

-- the levels from one on without opening stocks: e units more of the first one are made in period 1, and what is saved pays for what goes into them
record IsCleared (periods fees below : ℕ) (levels : List Level) (ws : List Lots) : Type 0 where
  lots : List Lots
  are_made : IsChainMade periods levels lots
  none : NoStocks lots
  extra : ℕ
  used : (units t : ℕ) → 1 ≤ t → used_by_next units lots t ≤ used_by_next units ws t + units * extra
  first : (units : ℕ) → used_by_next units lots 0 ≡ 0
  cost : chain_cost periods levels lots + if_some extra fees + below * extra ≤ chain_cost periods levels ws

first_sum : (w : Lots) (x t : ℕ) → 1 ≤ t → sum_to t (with_first w x).make ≡ sum_to t w.make + x
first_sum w x t low = omega (arith, first_made w x t low)

kept_served : (periods : ℕ) (l : Level) (used less : ℕ → ℕ) (w : Lots) → less 0 ≡ 0 → ((t : ℕ) → 1 ≤ t → less t ≤ used t) → ((t : ℕ) → t ≤ periods → used t + sum_to t l.need ≤ made w (t - l.lead)) → (t : ℕ) → t ≤ periods → less t + sum_to t l.need ≤ made w (t - l.lead)
kept_served periods l used less w none fewer is zero h = omega (arith, none)
kept_served periods l used less w none fewer is (suc t) h = omega (arith, fewer (suc t) (omega arith), is (suc t) h)

first_served : (periods : ℕ) (l : Level) (used more : ℕ → ℕ) (w : Lots) (x extra : ℕ) → l.lead ≡ 0 → more 0 ≡ 0 → ((t : ℕ) → 1 ≤ t → more t ≤ used t + extra) → x ≡ w.make 0 + extra
    → ((t : ℕ) → t ≤ periods → used t + sum_to t l.need ≤ made w (t - l.lead)) → (t : ℕ) → t ≤ periods → more t + sum_to t l.need ≤ made (with_first w x) (t - l.lead)
first_served periods l used more w x extra no_lead none grows sum is zero h = omega (arith, none)
first_served periods l used more w x extra no_lead none grows sum is (suc t) h =
    let e : suc t - l.lead ≡ suc t = omega (arith, no_lead) in
    omega (
      arith,
      grows (suc t) (omega arith),
      is (suc t) h,
      first_made w x (suc t) (omega arith),
      sum,
      ap (made w) e,
      ap (made (with_first w x)) e,
    )

first_once : (w : Lots) (t : ℕ) → w.setup t ≤ 1 → (with_setup w 1).setup t ≤ 1
first_once w t before = ⊎_elim (λ one. omega (arith, one)) (λ same. omega (arith, same, before)) (setup_or w 1 t)

first_setup : (w : Lots) (x t : ℕ) → 1 ≤ t → (0 < w.make t → 1 ≤ w.setup t) → 0 < first_then 0 (raised w.make 1 x) t → 1 ≤ (with_setup w 1).setup t
first_setup w x t low before some =
    ⊎_elim
    (λ one. omega (arith, one))
    (λ same. ⊎_elim
    (λ first. omega (arith, ap (with_setup w 1).setup first, setup_is w 1))
    (λ apart. omega (arith, same, before (omega (arith, some, then_is 0 (raised w.make 1 x) t low, raised_other w.make 1 x t apart))))
    (cases_eq t 1))
    (setup_or w 1 t)

-- one level more
clear_level : (periods fees below : ℕ) (l : Level) (ls : List Level) (w : Lots) (ws : List Lots) (x : ℕ) → l.lead ≡ 0 → fees + l.setup_cost 1 + (l.unit_cost 1 + below) ≤ l.opening_price → IsMade periods l (used_by_next l.per_next ws) w
    → (rest : IsCleared periods (fees + l.setup_cost 1) (l.per_next * (l.unit_cost 1 + below)) ls ws) → x ≡ w.make 0 + l.per_next * rest.extra → IsCleared periods fees below (l ∷ ls) (w ∷ ws)
clear_level periods fees below l ls w ws zero no_lead dear is rest sum =
    let here : IsMade periods l (used_by_next l.per_next rest.lots) w = record {
      once = is.once;
      setup = is.setup;
      served = kept_served periods l (used_by_next l.per_next ws) (used_by_next l.per_next rest.lots) w (rest.first l.per_next) (λ t low. omega (arith, rest.used l.per_next t low, sum)) is.served;
    } in
    record {
      lots = w ∷ rest.lots;
      are_made = (here, rest.are_made);
      none = (omega (arith, sum), rest.none);
      extra = 0;
      used = λ units t low. omega arith;
      first = λ units. omega arith;
      cost = omega (arith, rest.cost);
    }
clear_level periods fees below l ls w ws (suc y) no_lead dear is rest sum =
    let x = suc y in
    let more = l.per_next * rest.extra in
    let here : IsMade periods l (used_by_next l.per_next rest.lots) (with_first w (suc y)) = record {
      once = λ t low high. first_once w t (is.once t low high);
      setup = λ t low high some. first_setup w (suc y) t low (λ made_then. is.setup t low high made_then) some;
      served = first_served periods l (used_by_next l.per_next ws) (used_by_next l.per_next rest.lots) w (suc y) more no_lead (rest.first l.per_next) (λ t low. rest.used l.per_next t low) sum is.served;
    } in
    record {
      lots = with_first w (suc y) ∷ rest.lots;
      are_made = (here, rest.are_made);
      none = (refl, rest.none);
      extra = suc y;
      used = λ units t low. omega (arith, ap (λ k. units * k) (first_sum w (suc y) t low));
      first = λ units. omega arith;
      cost = omega (
        arith,
        first_cost periods l w (suc y),
        rest.cost,
        ap (λ k. below * k) sum,
        ap (λ k. l.unit_cost 1 * k) sum,
        paid_first fees below (w.make 0) l.per_next rest.extra l.opening_price (l.setup_cost 1) (l.unit_cost 1) dear (omega (arith, sum)),
      );
    }

clear : (periods fees below : ℕ) (levels : List Level) (ws : List Lots) → AreDear fees below levels → IsChainMade periods levels ws → IsCleared periods fees below levels ws
clear periods fees below [] [] dear is = record {
  lots = [];
  are_made = tt;
  none = tt;
  extra = 0;
  used = λ units t low. omega arith;
  first = λ units. refl;
  cost = omega arith;
}
clear periods fees below [] (w ∷ ws) dear is = absurd is
clear periods fees below (l ∷ ls) [] dear is = absurd is
clear periods fees below (l ∷ ls) (w ∷ ws) dear is =
    let rest = clear periods (fees + l.setup_cost 1) (l.per_next * (l.unit_cost 1 + below)) ls ws dear.2 is.1 in
    clear_level periods fees below l ls w ws (w.make 0 + l.per_next * rest.extra) dear.0 dear.1 is.0 rest refl

pub unused_stocks : StocksAreUnused
unused_stocks periods levels cost dear is =
    let best = is.some in
    let cleared = clear periods 0 0 levels best.0 dear best.1 in
    (cleared.lots, cleared.are_made, cleared.none, omega (arith, cleared.cost, best.2, is.least cleared.lots cleared.are_made))
