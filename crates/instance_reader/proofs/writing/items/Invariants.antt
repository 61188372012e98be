use Rattle.std.proofs.Common.{◌≡◌, ◌-◌, take}
use Rattle.toml.specs.View.{items_view}
use Rattle.instance_reader.specs.Written.{item_table, tables_of}
use Rattle.instance_reader.proofs.writing.items.Given as goal

abbrev pub invariant-loop-number : goal.invariant-loop-number
invariant-loop-number l = items_view l.list.items ≡ tables_of (item_table l.instance) (take (l.number - 1) l.instance.items)
