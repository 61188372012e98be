use Rattle.ls_cuts.proofs.Terms.{left_is}
use Rattle.ls_cuts.proofs.laws.left_sides_are_rows.Goals as goal

pub returns : goal.returns
returns c = λ e x l chosen low. left_is e x l chosen low
