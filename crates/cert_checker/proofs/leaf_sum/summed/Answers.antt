use Rattle.std.proofs.Common.{◌≡◌}
use mir.Facts.{to_z-of_z}
use mir.Val.{of_z, to_z}
use mir.Syntax.{w128}
use Rattle.cert_meaning.specs.Named.{names}
use Rattle.cert_checker.specs.Leaves.{linear_most}
use Rattle.cert_checker.proofs.Leaves.{part_fault}
use Rattle.cert_checker.proofs.leaf_sum.summed.Goals as goal

pub returns-in-Err-clause-fault : goal.returns-in-Err-clause-fault
returns-in-Err-clause-fault c = λ total totals.
    let n = names c.args.instance.now total c.args.cuts.now c.args.path.now in
    part_fault n (linear_most n c.args.den) c.args.parts.now c.args.line c.in-Err.rejected.line c.in-Err.rejected.why (c.in-Err.ensures.fault total)

pub returns-clause-good : goal.returns-clause-good
returns-clause-good c =
    let same : to_z w128 (of_z w128 c.args.den) ≡ c.args.den = to_z-of_z c.ranges.den in
    rw same at c.sum_within_costs.ensures.good
