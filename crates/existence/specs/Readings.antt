-- Bytes mean something as a model, and records as a plan file.
use Rattle.std.specs.Prelude.{◌≢◌, ◌⊎◌, ℕ, List, Result}
use Rattle.lot_sizing.specs.Problem.{Problem}
use Rattle.lot_sizing.specs.Plan.{Plan}
use Rattle.lot_draft.specs.declared.fault.ModelFault.{ModelFault}
use Rattle.instance_reader.specs.Model.{MeanUpTo}
use Rattle.csv_records.specs.Records.{Record}
use Rattle.plan_file.specs.Records.{IsPlanOf}
use Rattle.plan_file.specs.Faults.{IsPlanFault}
use Rattle.plan_file.specs.declared.fault.PlanFault.{PlanFault}
use Rattle.plan_file.specs.declared.fault.PlanFault.TheVariants.{Memory}

-- bytes mean a problem, or the first rule that they break, whichever is the newest version that is read
abbrev pub BytesMeanSomething : Type 0
BytesMeanSomething = (newest : ℕ) (bytes : List ℕ) → (r : Result Problem ModelFault) × MeanUpTo newest bytes r

-- records mean a plan, or a fault that isn't out of memory
abbrev pub RecordsMeanSomething : Type 0
RecordsMeanSomething = (m : Problem) (rs : List Record) → ((p : Plan) × IsPlanOf m rs p) ⊎ ((f : PlanFault) × (f ≢ Memory) × IsPlanFault m rs f)
