use Rattle.valid_inequalities.proofs.Ls.{ls_holds}
use Rattle.valid_inequalities.proofs.laws.ls_holds.Goals as goal

pub returns : goal.returns
returns c = λ a owing f is l chosen low high. ls_holds a owing f is l chosen low high
