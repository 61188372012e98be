use Rattle.lin_rows.specs.Points.{read_at}
use Rattle.echelon_rows.specs.Rows.{echelon_in}
use Rattle.ls_cuts.proofs.Exact.{exact, passed}
use Rattle.ls_cuts.proofs.separation.separate.Goals as goal

pub returns-clause-exact : goal.returns-clause-exact
returns-clause-exact c = exact c.lesser_separates.ensures (echelon_in c.args.echelon.now) (read_at c.args.point.now) c.args.l c.requires.low c.find.result c.find.ensures.answer

pub returns-clause-passed : goal.returns-clause-passed
returns-clause-passed c = passed (echelon_in c.args.echelon.now) (read_at c.args.point.now) c.args.l c.find.result c.find.ensures.answer c.find.ensures.passed
