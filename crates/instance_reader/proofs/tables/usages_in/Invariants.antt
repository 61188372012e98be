use Rattle.std.proofs.Common.{◌≡◌, map}
use Rattle.lot_draft.specs.Raw.{raw_use}
use Rattle.lot_draft.specs.declared.fault.Place.TheVariants.{Item}
use Rattle.lot_draft.specs.declared.fault.Key.TheVariants as key
use Rattle.instance_reader.specs.Tables.{use_read, no_tables, table_read}
use Rattle.instance_reader.proofs.Lists.{IsSoFar}
use Rattle.instance_reader.proofs.tables.usages_in.Given as goal

abbrev pub invariant-loop-value : goal.invariant-loop-value
invariant-loop-value l = (l.line ≡ l.value-index) × IsSoFar (table_read (use_read l.item) (no_tables (Item l.item) key.Uses)) (map raw_use l.usages.items) l.value-index l.list
