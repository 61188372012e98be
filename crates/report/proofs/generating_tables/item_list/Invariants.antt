use Rattle.std.proofs.Common.{◌≡◌}
use Rattle.toml.specs.View.{items_view}
use Rattle.instance_reader.specs.Written.{tables_of}
use Rattle.report.specs.Draws.{draw_items, generator_of}
use Rattle.report.specs.Generated.{item_table}
use Rattle.report.proofs.generating_tables.item_list.Given as goal

abbrev pub invariant-loop-done : goal.invariant-loop-done
invariant-loop-done l =
    (items_view l.list.items ≡ tables_of (item_table l.coupled l.items) (draw_items l.coupled l.periods l.done (generator_of l.seed)).0)
    × (l.rng ≡ (draw_items l.coupled l.periods l.done (generator_of l.seed)).1)
