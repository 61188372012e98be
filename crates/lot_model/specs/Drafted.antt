-- The model that a problem is written out as: names for places, and each number as it is.
use Rattle.std.specs.Prelude.{ℕ, ℤ, pos, List, map, option_map, Some}
use Rattle.lot_sizing.specs.declared.Need.{Need}
use Rattle.lot_sizing.specs.declared.Usage.{Usage}
use Rattle.lot_sizing.specs.Problem.{Item, Problem, Resource, item_at, resource_at}
use Rattle.lot_draft.specs.Raw.{RawItem, RawModel, RawNeed, RawResource, RawUse}

abbrev pub wholes : List ℕ → List ℤ
wholes xs = map (λ x. pos x) xs

abbrev pub need_written : Problem → Need → RawNeed
need_written p need = record { item = (item_at p need.item).name; quantity = pos need.quantity }

abbrev pub use_written : Problem → Usage → RawUse
use_written p usage = record { resource = (resource_at p usage.resource).name; unit = pos usage.unit; setup = pos usage.setup }

abbrev pub item_written : Problem → Item → RawItem
item_written p a = record {
  name = a.name;
  demand = wholes a.demand;
  unit_cost = wholes a.unit_cost;
  setup_cost = wholes a.setup_cost;
  hold_cost = wholes a.hold_cost;
  backlog_cost = option_map wholes a.backlog_cost;
  opening = pos a.opening;
  end_min = pos a.end_min;
  end_max = Some (pos a.end_max);
  lead = pos a.lead;
  min_lot = pos a.min_lot;
  max_lot = option_map (λ x. pos x) a.max_lot;
  needs = map (need_written p) a.needs;
  uses = map (use_written p) a.uses;
}

abbrev pub resource_written : Resource → RawResource
resource_written r = record { name = r.name; capacity = wholes r.capacity }

abbrev pub written_out : Problem → RawModel
written_out p = record { periods = pos p.periods; resources = map resource_written p.resources; items = map (item_written p) p.items }
