use Rattle.ls_cuts.proofs.Alike.{rows_same}
use Rattle.ls_cuts.proofs.laws.alike_rows_are_one.Goals as goal

pub returns : goal.returns
returns c = λ l e g chosen alike. rows_same l e g alike chosen
