use Rattle.std.proofs.Common.{arith}
use Rattle.echelon.specs.Views.{single_of_item}
use Rattle.wagner_whitin.proofs.Progress.{positions_few, steps_all}
use Rattle.wagner_whitin.proofs.solving.solve_counted.Goals as goal

pub least_costs-requires-clause-level : goal.least_costs-requires-clause-level
least_costs-requires-clause-level g c = omega (arith, positions_few (single_of_item c.args.single.now), c.binary_digits-level.ensures.enough, c.len.ensures, c.args.single.now.net.ok)

pub returns-in_err-table-clause-steps : goal.returns-in_err-table-clause-steps
returns-in_err-table-clause-steps g c d enough = steps_all (single_of_item c.args.single.now) c.binary_digits-level.result d c.args.steps.now c.least_costs.new.steps (λ k h. c.binary_digits-level.ensures.no_more k (omega (arith, h, c.len.ensures, c.args.single.now.net.ok))) c.least_costs.ensures.steps enough

pub returns-clause-steps : goal.returns-clause-steps
returns-clause-steps g c d enough = steps_all (single_of_item c.args.single.now) c.binary_digits-level.result d c.args.steps.now c.least_costs.new.steps (λ k h. c.binary_digits-level.ensures.no_more k (omega (arith, h, c.len.ensures, c.args.single.now.net.ok))) c.least_costs.ensures.steps enough
