use Rattle.std.proofs.Common.{◌≡◌, ◌≢◌, ◌∙◌, ap, arith, get_or-set_other}
use Rattle.plan_rules.specs.Cells.{table_of, place}
use Rattle.plan_rules.proofs.Places.{places_apart}
use Rattle.plan_rules.proofs.grid.Grid.set.Goals as goal

pub returns-clause-others : goal.returns-clause-others
returns-clause-others c = λ j u j_low j_high u_low u_high apart.
    let w : c.self.inside.periods ≡ c.args.self.now.periods = ap (λ g. g.periods) c.self.view_is in
    let ne = places_apart c.self.inside.periods j u c.args.item c.args.period j_low c.requires.item_low u_low (omega arith) c.requires.period_low (omega arith) apart in
    let here : place c.self.inside.periods j u ≢ c.cell_place-place.result = rw c.cell_place-place.ensures ne in
    get_or-set_other c.self.inside.cells.items c.cell_place-place.result (place c.self.inside.periods j u) c.args.value 0 here ∙ ap (λ g. table_of g j u) c.self.view_is
