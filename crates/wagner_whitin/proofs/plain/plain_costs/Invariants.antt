use Rattle.echelon.specs.Views.{single_of_item}
use Rattle.wagner_whitin.specs.Tables.{IsTable}
use Rattle.wagner_whitin.proofs.plain.plain_costs.Given as goal

abbrev pub invariant-loop : goal.invariant-loop
invariant-loop l = IsTable (single_of_item l.single) l.counter l.potentials.items l.lasts.items
