use Rattle.std.proofs.Common.{◌≡◌, take}
use Rattle.toml.specs.View.{items_view}
use Rattle.instance_reader.specs.Written.{use_table, tables_of}
use Rattle.instance_reader.proofs.writing.usage_list.Given as goal

abbrev pub invariant-loop-line : goal.invariant-loop-line
invariant-loop-line l = items_view l.list.items ≡ tables_of (use_table l.instance) (take l.line-index l.lines)
