use Rattle.std.proofs.Common.{◌≡◌, ◌-◌, take}
use Rattle.toml.specs.View.{items_view}
use Rattle.instance_reader.specs.Written.{resource_table, tables_of}
use Rattle.instance_reader.proofs.writing.resource_list.Given as goal

abbrev pub invariant-loop-number : goal.invariant-loop-number
invariant-loop-number l = items_view l.list.items ≡ tables_of resource_table (take (l.number - 1) l.instance.resources)
