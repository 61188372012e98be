-- How an echelon goes in a plan, in its own weights, demands and marks.
use Rattle.std.specs.Prelude.{◌≡◌, ℕ, ◌+◌, ◌-◌, ◌*◌, ◌≤◌, false, length}
use Rattle.lot_sizing.specs.Sums.{sum_to}
use Rattle.lot_sizing.specs.Problem.{Problem, entry}
use Rattle.lot_sizing.specs.Plan.{Plan, stock_after, backlog_after}
use Rattle.echelon.specs.declared.net.EchelonItem.{EchelonItem}

-- what items have, by the weights of the echelon
abbrev pub weighed : EchelonItem → (ℕ → ℕ) → ℕ
weighed e f = sum_to (length e.weights.items) (λ j. entry e.weights.items j * f j)

-- the stock at the end of a period, and before the first one the opening stock
abbrev pub stock_in : Problem → Plan → EchelonItem → ℕ → ℕ
stock_in m p e t = weighed e (λ j. stock_after m p j t)

-- the backlog at the end of a period, and before the first one none
abbrev pub backlog_in : Plan → EchelonItem → ℕ → ℕ
backlog_in p e t = weighed e (λ j. backlog_after p j t)

-- what is made serves the demand or stays in stock; nothing is owed in the end, and nothing ever where no backlog is allowed; the required end stock is there
pub record IsBalancedIn (m : Problem) (p : Plan) (e : EchelonItem) : Type 0 where
  pub opening : stock_in m p e 0 ≡ e.opening
  pub balance : (t : ℕ) → 1 ≤ t → t ≤ length e.demand.items → stock_in m p e (t - 1) + p.make e.item t + backlog_in p e t ≡ entry e.demand.items t + stock_in m p e t + backlog_in p e (t - 1)
  pub in_time : e.backlogged ≡ false → (t : ℕ) → t ≤ length e.demand.items → backlog_in p e t ≡ 0
  pub settled : backlog_in p e (length e.demand.items) ≡ 0
  pub end_stock : e.end_min ≤ stock_in m p e (length e.demand.items)
