-- What bytes mean as a model is one thing.
use Rattle.std.specs.Prelude.{◌≡◌, ℕ, List, Result, Ok}
use Rattle.lot_sizing.specs.Problem.{Problem}
use Rattle.lot_draft.specs.declared.fault.ModelFault.{ModelFault}
use Rattle.lot_model.specs.Views.{IsInstance}
use Rattle.instance_reader.specs.Model.{BytesMean, MeanUpTo}
use Rattle.instance_reader.specs.Written.{IsModelText}

-- no bytes mean two things, whichever is the newest version that is read
abbrev pub BytesMeanOneThing : Type 0
BytesMeanOneThing = (newest : ℕ) (bytes : List ℕ) (r s : Result Problem ModelFault) → MeanUpTo newest bytes r → MeanUpTo newest bytes s → r ≡ s

-- each text of the problem of an instance means this problem
abbrev pub ModelTextsAreRead : Type 0
ModelTextsAreRead = (p : Problem) (bytes : List ℕ) → IsInstance p → IsModelText p bytes → BytesMean bytes (Ok p)
