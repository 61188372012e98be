use Rattle.std.proofs.Common.{◌≡◌, map}
use Rattle.lot_draft.specs.Raw.{raw_item}
use Rattle.lot_draft.specs.declared.fault.Place.TheVariants.{Root}
use Rattle.lot_draft.specs.declared.fault.Key.TheVariants as key
use Rattle.instance_reader.specs.Tables.{item_read, no_tables, table_read}
use Rattle.instance_reader.proofs.Lists.{IsSoFar}
use Rattle.instance_reader.proofs.tables.items_in.Given as goal

abbrev pub invariant-loop-value : goal.invariant-loop-value
invariant-loop-value l = (l.number ≡ l.value-index) × IsSoFar (table_read (item_read l.version l.periods) (no_tables Root key.Item)) (map raw_item l.items.items) l.value-index l.list
