use Rattle.std.proofs.Common.{◌≡◌, ◌+◌, ◌-◌, arith}
use Rattle.lot_sizing.specs.Problem.{demand}
use Rattle.lot_sizing.specs.Plan.{arriving, used_up}
use Rattle.lot_sizing.specs.Least.{outflow, supply}
use Rattle.lot_sizing.proofs.Sums.{sum_to_at}
use Rattle.plan_rules.specs.Cells.{table_of}
use Rattle.frozen_start.proofs.flows.Flows.next.Goals as goal

pub returns : goal.returns
returns c =
    let m = c.args.instance.now in
    let make = table_of c.args.make.now in
    let i = c.args.item in
    let t = c.args.period in
    let before = c.requires.before in
    let come : supply m make i t ≡ supply m make i (t - 1) + arriving m make i t = omega (arith, sum_to_at t (arriving m make i) c.requires.low) in
    let gone : outflow m make i t ≡ outflow m make i (t - 1) + (demand m i t + used_up m make i t) = sum_to_at t (λ u. demand m i u + used_up m make i u) c.requires.low in
    record {
      supply = omega (arith, come, before.supply);
      outflow = omega (arith, gone, before.outflow);
      small_supply = omega (arith, before.small_supply);
      small_outflow = omega (arith, before.small_outflow);
    }
