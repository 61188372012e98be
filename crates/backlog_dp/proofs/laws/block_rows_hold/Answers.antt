use Rattle.std.proofs.Common.{◌+◌}
use Rattle.lot_sizing.specs.Problem.{entry}
use Rattle.lot_sizing.specs.Single.{position_count, potential}
use Rattle.lin_rows.specs.Columns.{value_in}
use Rattle.valid_inequalities.specs.Inequalities.{left_cost}
use Rattle.echelon_rows.specs.Rows.{echelon_in, priced, trajectory_at}
use Rattle.backlog_dp.proofs.laws.block_rows_hold.Goals as goal

pub returns : goal.returns
returns c = λ e m weight i of p plan setup unit hold back steps rise.
    let E = echelon_in e in
    let v = value_in p in
    let s = priced E setup unit hold back in
    let way = c.echelons_go.ensures e m weight i of p plan in
    let right = potential steps (position_count s) + left_cost E.asked s in
    c.cost_rows_hold.ensures E v way (entry setup) setup unit hold back right
    (c.block_holds.ensures E.asked e.backlogged (trajectory_at E v) s steps way (c.priced_is_net.ensures E setup unit hold back) rise)
