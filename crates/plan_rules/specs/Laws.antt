-- What is found of a plan is one thing.
use Rattle.std.specs.Prelude.{◌≡◌, ℕ, Result}
use Rattle.lot_sizing.specs.Problem.{Problem}
use Rattle.plan_rules.specs.Broken.{IsJudged}
use Rattle.plan_rules.specs.declared.broken.Broken.{Broken}
use Rattle.plan_rules.specs.declared.plan.Plan.{Plan}

-- no plan has two costs, two first broken rules or one of each
abbrev pub JudgementIsOne : Type 0
JudgementIsOne = (m : Problem) (p : Plan) (a b : Result ℕ Broken) → IsJudged m p a → IsJudged m p b → a ≡ b
