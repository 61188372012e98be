use Rattle.std.proofs.Common.{◌-◌, ◌^◌, ap, arith, length}
use Rattle.lot_sizing.specs.Sums.{sum_to}
use Rattle.lot_sizing.specs.Problem.{entry}
use Rattle.lot_sizing.proofs.Sums.{sum_to-bound}
use Rattle.facility_form.proofs.Overlaps.{serves}
use Rattle.facility_form.proofs.assignment.assign.Goals as goal

pub sums_asked-requires : goal.sums_asked-requires
sums_asked-requires c =
    let all = sum_to-bound (length c.args.make.now) (2 ^ 64) (entry c.args.make.now) (λ k low high. omega (arith, c.type_inv.make (k - 1))) in
    record { small = omega (arith, c.requires.enough, all) }

pub returns-clause-serves : goal.returns-clause-serves
returns-clause-serves c = serves (length c.args.make.now) (entry c.args.make.now) (entry c.args.net.now) (omega (arith, c.requires.enough, ap (λ n. sum_to n (entry c.args.net.now)) c.requires.periods))
