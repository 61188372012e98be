use Rattle.lp_relaxation.proofs.Naming.{names_are}
use Rattle.lp_relaxation.proofs.laws.base_names_are_all.Goals as goal

pub returns : goal.returns
returns c = names_are
