-- Laws of plan files: what records mean is one thing, and texts are short.
use Rattle.std.specs.Prelude.{◌≡◌, ◌≢◌, ◌≤◌, ℕ, List, length}
use Rattle.lot_sizing.specs.Problem.{IsWithinLimits, Problem}
use Rattle.lot_sizing.specs.Plan.{Plan, EachCell}
use Rattle.lot_sizing.specs.Texts.{plan_text}
use Rattle.plan_file.specs.declared.limits.TheConstants.{MAX_FILE}
use Rattle.csv_records.specs.Records.{Record}
use Rattle.plan_file.specs.Records.{IsPlanOf}
use Rattle.plan_file.specs.Faults.{IsPlanFault}
use Rattle.plan_file.specs.Written.{FitIn64}
use Rattle.plan_file.specs.declared.fault.PlanFault.{PlanFault}
use Rattle.plan_file.specs.declared.fault.PlanFault.TheVariants.{Memory}

-- two plans have the same numbers for an item and a period
pub record HaveSame (p q : Plan) (i t : ℕ) : Type 0 where
  pub make : p.make i t ≡ q.make i t
  pub setup : p.setup i t ≡ q.setup i t
  pub stock : p.stock i t ≡ q.stock i t
  pub backlog : p.backlog i t ≡ q.backlog i t

-- one plan, or one fault where memory isn't the cause
pub record MeanOneThing (m : Problem) (rs : List Record) : Type 0 where
  pub one_plan : (p q : Plan) → IsPlanOf m rs p → IsPlanOf m rs q → EachCell m (HaveSame p q)
  pub plan_or_fault : (p : Plan) (f : PlanFault) → IsPlanOf m rs p → IsPlanFault m rs f → f ≡ Memory
  pub one_fault : (f g : PlanFault) → f ≢ Memory → g ≢ Memory → IsPlanFault m rs f → IsPlanFault m rs g → f ≡ g

abbrev pub RecordsMeanOneThing : Type 0
RecordsMeanOneThing = (m : Problem) (rs : List Record) → MeanOneThing m rs

-- within the limits, and where each number of the plan is below 2^64, its text has at most MAX_FILE bytes
abbrev pub PlanTextsAreShort : Type 0
PlanTextsAreShort = (m : Problem) (p : Plan) → IsWithinLimits m → EachCell m (FitIn64 p) → length (plan_text m p) ≤ MAX_FILE
