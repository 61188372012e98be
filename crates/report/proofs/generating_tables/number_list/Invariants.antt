use Rattle.std.proofs.Common.{◌≡◌, take}
use Rattle.toml.specs.View.{items_view}
use Rattle.instance_reader.specs.Written.{numbers}
use Rattle.report.proofs.generating_tables.number_list.Given as goal

abbrev pub invariant-loop-amount : goal.invariant-loop-amount
invariant-loop-amount l = items_view l.list.items ≡ numbers (take l.amount-index l.amounts)
