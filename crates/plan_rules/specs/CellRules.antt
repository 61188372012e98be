-- The rules on one item and period.
use Rattle.std.specs.Prelude.{ℕ}
use Rattle.lot_sizing.specs.Problem.{Problem}
use Rattle.lot_sizing.specs.Plan.{Plan, IsSetup, IsBalanced, IsMadeWithSetup, IsBacklogAllowed, IsLot, IsInHorizon}
use Rattle.plan_rules.specs.declared.rules.CellRule.{CellRule}
use Rattle.plan_rules.specs.declared.rules.CellRule.TheVariants as rule

-- the plan keeps the rule at an item and a period
abbrev pub KeepsRule : Problem → Plan → CellRule → ℕ → ℕ → Type 0
KeepsRule m p rule.Setup = IsSetup p
KeepsRule m p rule.Balance = IsBalanced m p
KeepsRule m p rule.Made = IsMadeWithSetup p
KeepsRule m p rule.Backlog = IsBacklogAllowed m p
KeepsRule m p rule.Lot = IsLot m p
KeepsRule m p rule.Horizon = IsInHorizon m p
