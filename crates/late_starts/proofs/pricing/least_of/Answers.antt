use Rattle.std.proofs.Common.{◌≡◌, ◌+◌, ◌-◌, ap, arith}
use Rattle.lot_sizing.specs.Problem.{entry}
use Rattle.late_starts.proofs.Tabling.{least_more}
use Rattle.late_starts.proofs.pricing.least_of.Goals as goal

pub loop-server-preserved : goal.loop-server-preserved
loop-server-preserved c =
    let row = c.args.row.now in
    let u = c.loop-server.server in
    let e : u ≡ u + 1 - 1 = omega arith in
    least_more row (u - 1) (u + 1 - 1) c.loop-server.least (entry row u) c.min-least.result (omega (arith, c.loop-server.auto.server)) (ap (entry row) e) c.min-least.ensures c.loop-server.invariant
