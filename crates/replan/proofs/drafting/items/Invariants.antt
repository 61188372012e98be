use Rattle.std.proofs.Common.{◌≡◌, ◌-◌, map, take}
use Rattle.lot_draft.specs.Raw.{raw_item}
use Rattle.plan_rules.specs.Cells.{table_of}
use Rattle.frozen_start.specs.Rests.{rest_items}
use Rattle.replan.specs.Capped.{item_drafted}
use Rattle.replan.proofs.drafting.items.Given as goal

abbrev pub invariant-loop-number : goal.invariant-loop-number
invariant-loop-number l = map raw_item l.list.items ≡ map (item_drafted l.instance) (take (l.number - 1) (rest_items l.instance (table_of l.make) l.first 1 l.instance.items))
