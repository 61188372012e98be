use Rattle.wagner_whitin.proofs.Entries.{lines_are_potentials}
use Rattle.wagner_whitin.proofs.laws.lines_are_potentials.Goals as goal

pub returns : goal.returns
returns c = record { law = lines_are_potentials }
