-- What a model means is one thing.
use Rattle.std.specs.Prelude.{◌≡◌, Result, Ok}
use Rattle.lot_sizing.specs.Problem.{Problem}
use Rattle.lot_draft.specs.Raw.{RawModel}
use Rattle.lot_draft.specs.declared.fault.ModelFault.{ModelFault}
use Rattle.lot_model.specs.Drafted.{written_out}
use Rattle.lot_model.specs.Meaning.{Means}
use Rattle.lot_model.specs.Views.{IsInstance}

-- no model means two things
abbrev pub MeansOneThing : Type 0
MeansOneThing = (m : RawModel) (r s : Result Problem ModelFault) → Means m r → Means m s → r ≡ s

-- and each means something
abbrev pub MeansSomething : Type 0
MeansSomething = (m : RawModel) → (r : Result Problem ModelFault) × Means m r

-- the problem of an instance, written out as a model, means this problem
abbrev pub WrittenOutMeansItself : Type 0
WrittenOutMeansItself = (p : Problem) → IsInstance p → Means (written_out p) (Ok p)
