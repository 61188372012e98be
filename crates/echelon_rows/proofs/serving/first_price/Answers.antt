use Rattle.std.proofs.Common.{◌≡◌, ◌-◌, ap, arith}
use Rattle.std.specs.Prelude.{[], Some, None, if◌then◌else◌}
use Rattle.lot_sizing.specs.Sums.{sum_to}
use Rattle.lot_sizing.specs.Problem.{backlog_price}
use Rattle.echelon_rows.proofs.Transport.{first_is}
use Rattle.echelon_rows.proofs.serving.first_price.Goals as goal

pub returns : goal.returns
returns c =
    let u = c.args.server in
    let b = backlog_price (if c.args.backlogged then Some c.args.back.now else None) in
    let e : c.loop-period.period ≡ u = omega arith in
    omega (arith, c.loop-period.invariant.price, ap (λ k. sum_to (k - 1) b) e, first_is [] [] c.args.unit.now c.args.hold.now c.args.back.now c.args.backlogged u c.requires.low)
