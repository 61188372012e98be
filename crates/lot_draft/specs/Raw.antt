-- A model as a reader found it, in lists: numbers of any sign and size, names of any kind.
use Rattle.std.specs.Prelude.{ℕ, ℤ, List, Option, map, option_map, string_bytes}
use Rattle.lot_draft.specs.declared.draft.Draft.{Draft}
use Rattle.lot_draft.specs.declared.draft.DraftItem.{DraftItem}
use Rattle.lot_draft.specs.declared.draft.DraftNeed.{DraftNeed}
use Rattle.lot_draft.specs.declared.draft.DraftResource.{DraftResource}
use Rattle.lot_draft.specs.declared.draft.DraftUse.{DraftUse}

pub record RawNeed : Type 0 where
  pub item : List ℕ
  pub quantity : ℤ

pub record RawUse : Type 0 where
  pub resource : List ℕ
  pub unit : ℤ
  pub setup : ℤ

pub record RawResource : Type 0 where
  pub name : List ℕ
  pub capacity : List ℤ

pub record RawItem : Type 0 where
  pub name : List ℕ
  pub demand : List ℤ
  pub unit_cost : List ℤ
  pub setup_cost : List ℤ
  pub hold_cost : List ℤ
  pub backlog_cost : Option (List ℤ)
  pub opening : ℤ
  pub end_min : ℤ
  pub end_max : Option ℤ
  pub lead : ℤ
  pub min_lot : ℤ
  pub max_lot : Option ℤ
  pub needs : List RawNeed
  pub uses : List RawUse

pub record RawModel : Type 0 where
  pub periods : ℤ
  pub resources : List RawResource
  pub items : List RawItem

abbrev pub raw_need : DraftNeed → RawNeed
raw_need a = record { item = string_bytes a.item; quantity = a.quantity }

abbrev pub raw_use : DraftUse → RawUse
raw_use a = record { resource = string_bytes a.resource; unit = a.unit; setup = a.setup }

abbrev pub raw_resource : DraftResource → RawResource
raw_resource a = record { name = string_bytes a.name; capacity = a.capacity.items }

abbrev pub raw_item : DraftItem → RawItem
raw_item a = record {
  name = string_bytes a.name;
  demand = a.demand.items;
  unit_cost = a.unit_cost.items;
  setup_cost = a.setup_cost.items;
  hold_cost = a.hold_cost.items;
  backlog_cost = option_map (λ v. v.items) a.backlog_cost;
  opening = a.opening;
  end_min = a.end_min;
  end_max = a.end_max;
  lead = a.lead;
  min_lot = a.min_lot;
  max_lot = a.max_lot;
  needs = map raw_need a.needs.items;
  uses = map raw_use a.uses.items;
}

abbrev pub raw_model : Draft → RawModel
raw_model d = record { periods = d.periods; resources = map raw_resource d.resources.items; items = map raw_item d.items.items }
