use Rattle.std.proofs.Common.{◌≡◌, map, take}
use Rattle.lot_draft.specs.Meaning.{natural}
use Rattle.lot_model.proofs.building.naturals.Given as goal

abbrev pub invariant-loop-number : goal.invariant-loop-number
invariant-loop-number l = l.list.items ≡ map natural (take l.number-index l.numbers)
