-- The plan with given quantities and setups and the least stocks and backlogs, as far as these fit 64 bits.
use Rattle.std.specs.Prelude.{◌≡◌, ◌≤◌, ◌<◌, ◌-◌, ◌^◌, ℕ, Result, IfErr, IfOk}
use Rattle.lot_sizing.specs.Problem.{Problem}
use Rattle.lot_sizing.specs.Plan.{Plan, Table, EachCell}
use Rattle.lot_sizing.specs.Least.{least_backlog, least_stock}
use Rattle.plan_rules.specs.Broken.{IsBroken}
use Rattle.plan_rules.specs.declared.broken.Broken.{Broken}

-- the number itself where it fits 64 bits, and the greatest that does where it doesn't
pub record IsCapped (number capped : ℕ) : Type 0 where
  pub fits : number < 2 ^ 64 → capped ≡ number
  pub large : 2 ^ 64 ≤ number → capped ≡ 2 ^ 64 - 1

-- the tables have the least stock and backlog here, as far as they fit
pub record HasCapped (m : Problem) (make stocks backlogs : Table) (i t : ℕ) : Type 0 where
  pub stock : IsCapped (least_stock m make i t) (stocks i t)
  pub backlog : IsCapped (least_backlog m make i t) (backlogs i t)

-- the plan has these quantities and setups and the least stocks and backlogs, as far as they fit
pub record IsFilled (m : Problem) (quantities setups : Table) (p : Plan) : Type 0 where
  pub make : p.make ≡ quantities
  pub setup : p.setup ≡ setups
  pub each : EachCell m (HasCapped m quantities p.stock p.backlog)

-- it breaks this rule, and of several this one first
abbrev pub IsRefused : Problem → Table → Table → Broken → Type 0
IsRefused m make setup rule = (p : Plan) × IsFilled m make setup p × IsBroken m p rule

-- this holds of what was found, if memory was there and a plan was found
abbrev pub IfCompleted : {A B E : Type 0} → Result (Result A B) E → (A → Type 0) → Type 0
IfCompleted result P = IfOk result (λ found. IfOk found P)

-- this holds of the rule that is broken, if memory was there and no plan was found
abbrev pub IfRefused : {A B E : Type 0} → Result (Result A B) E → (B → Type 0) → Type 0
IfRefused result P = IfOk result (λ found. IfErr found P)
