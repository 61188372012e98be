-- A model whose openings and demands are written as no more than the most that a number of a draft can be.
use Rattle.std.specs.Prelude.{ℕ, min, ℤ, pos, negsuc, map}
use Rattle.lot_sizing.specs.Problem.{Item, Problem, Resource}
use Rattle.lot_sizing.specs.Plan.{Table}
use Rattle.lot_draft.specs.Raw.{RawItem, RawModel, RawResource}
use Rattle.lot_model.specs.Drafted.{item_written, resource_written, written_out}
use Rattle.frozen_start.specs.Rests.{rest_after, rest_resource}

abbrev pub cap : ℕ → ℤ → ℤ
cap most (pos n) = pos (min n most)
cap most (negsuc n) = negsuc n

abbrev pub capped_item : ℕ → RawItem → RawItem
capped_item most a = record {
  name = a.name;
  demand = map (cap most) a.demand;
  unit_cost = a.unit_cost;
  setup_cost = a.setup_cost;
  hold_cost = a.hold_cost;
  backlog_cost = a.backlog_cost;
  opening = cap most a.opening;
  end_min = a.end_min;
  end_max = a.end_max;
  lead = a.lead;
  min_lot = a.min_lot;
  max_lot = a.max_lot;
  needs = a.needs;
  uses = a.uses;
}

abbrev pub capped : ℕ → RawModel → RawModel
capped most m = record { periods = m.periods; resources = m.resources; items = map (capped_item most) m.items }

-- the most that a number of a draft can be, 2^63 - 1
abbrev pub most_written : ℕ
most_written = 9223372036854775807

-- an item of the rest, as it is written: by the names of the whole
abbrev pub item_drafted : Problem → Item → RawItem
item_drafted m a = capped_item most_written (item_written m a)

abbrev pub resource_drafted : ℕ → Resource → RawResource
resource_drafted first r = resource_written (rest_resource first r)

-- the model that the later periods are written as
abbrev pub rest_draft : Problem → Table → ℕ → RawModel
rest_draft m make first = capped most_written (written_out (rest_after m make first))
