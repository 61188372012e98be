use Rattle.echelon.specs.Views.{single_of_item}
use Rattle.wagner_whitin.proofs.Tabled.{last_is, solution_is}
use Rattle.wagner_whitin.proofs.table.solution.Goals as goal

pub returns : goal.returns
returns c =
    let s = single_of_item c.args.single.now in
    let g = c.args.table.potentials.items in
    let lasts = c.args.table.lasts.items in
    let last = last_is s g lasts c.deref.result.now c.last_potential-cost.result c.requires.table c.deref.ensures.value c.last_potential-cost.ensures.value in
    solution_is s lasts (record { cost = c.last_potential-cost.result; blocks = c.in_ok-blocks.blocks; potentials = c.args.table.potentials }) c.requires.within c.requires.table c.in_ok-blocks.ensures.cover c.in_ok-blocks.ensures.cost last c.last_potential_is_floor.ensures c.blocks_serve.ensures
