use Rattle.std.proofs.Common.{◌-◌, sym, subst, arith}
use Rattle.chain_dp.specs.Costs.{IsCostOfOne}
use Rattle.chain_dp.proofs.Tabled.{one_cost}
use Rattle.chain_dp.proofs.costs.cost_of_one.Goals as goal

pub returns : goal.returns
returns c =
    let level = c.args.level.now in
    subst (IsCostOfOne level) (sym c.get-cost.ensures) (one_cost level c.in_ok-row.row (c.len.result - 1) c.in_ok-row.ensures.row c.in_ok-row.ensures.length (omega (arith, c.len.ensures, c.requires.some)))
