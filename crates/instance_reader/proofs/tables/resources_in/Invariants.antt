use Rattle.std.proofs.Common.{◌≡◌, map}
use Rattle.lot_draft.specs.Raw.{raw_resource}
use Rattle.lot_draft.specs.declared.fault.Place.TheVariants.{Root}
use Rattle.lot_draft.specs.declared.fault.Key.TheVariants as key
use Rattle.instance_reader.specs.Tables.{resource_read, no_tables, table_read}
use Rattle.instance_reader.proofs.Lists.{IsSoFar}
use Rattle.instance_reader.proofs.tables.resources_in.Given as goal

abbrev pub invariant-loop-value : goal.invariant-loop-value
invariant-loop-value l = (l.number ≡ l.value-index) × IsSoFar (table_read (resource_read l.periods) (no_tables Root key.Resource)) (map raw_resource l.resources.items) l.value-index l.list
