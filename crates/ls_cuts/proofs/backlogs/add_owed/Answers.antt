use Rattle.lin_rows.specs.Points.{read_at}
use Rattle.echelon_rows.specs.Rows.{echelon_in}
use Rattle.ls_cuts.proofs.Fitting.{nothing_added, some_added}
use Rattle.ls_cuts.proofs.backlogs.add_owed.Goals as goal

pub returns-then-times-eq0 : goal.returns-then-times-eq0
returns-then-times-eq0 c = nothing_added (echelon_in c.args.echelon.now) (read_at c.args.point.now) c.args.item c.args.period c.owed_times-times.result c.args.sum c.owed_times-times.ensures c.if-times-eq0.true

pub returns : goal.returns
returns c = some_added (echelon_in c.args.echelon.now) (read_at c.args.point.now) c.args.item c.args.period c.owed_times-times.result c.args.sum c.from.result c.value-value.result c.add_times.result c.owed_times-times.ensures c.if-times-eq0.false c.from.ensures c.value-value.ensures c.add_times.ensures
