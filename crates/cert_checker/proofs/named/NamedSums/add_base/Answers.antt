use mir.Facts.{to_z-of_z}
use mir.Val.{of_z, to_z}
use mir.Syntax.{w128}
use Rattle.lin_rows.specs.Base.{row_of}
use Rattle.cert_checker.proofs.Sums.{passes_same}
use Rattle.cert_checker.proofs.named.NamedSums.add_base.Goals as goal

pub returns-clause-passed : goal.returns-clause-passed
returns-clause-passed c = λ passed total totals.
    passes_same c.take_row.new.self.sums c.args.self.now.sums c.in_ok-row.row (row_of c.args.instance.now total c.args.name) (to_z w128 (of_z w128 c.args.times)) c.args.times
    c.take_row.ensures.sums (c.in_ok-row.ensures.row.one total totals) (to_z-of_z c.ranges.times) (c.add_row-added.ensures.passed passed)
