-- A law of drafts.
use Rattle.std.specs.Prelude.{◌↔◌, ◌<◌, ℕ, Result}
use Rattle.lot_sizing.specs.declared.limits.TheConstants.{MAX_AMOUNT}
use Rattle.lot_sizing.specs.Problem.{Problem}
use Rattle.lot_draft.specs.Raw.{RawModel}
use Rattle.lot_draft.specs.declared.fault.ModelFault.{ModelFault}
use Rattle.lot_model.specs.Meaning.{Means}
use Rattle.replan.specs.Capped.{capped}

-- a model with numbers past the limit means the same with these numbers capped at any larger one
abbrev pub CapsChangeNothing : Type 0
CapsChangeNothing = (most : ℕ) (m : RawModel) (r : Result Problem ModelFault) → MAX_AMOUNT < most → Means m r ↔ Means (capped most m) r
