use Rattle.std.proofs.Common.{refl}
use Rattle.branching.proofs.Evidence.{then_on}
use Rattle.branching.proofs.Points.{known_kept}
use Rattle.branching.proofs.pointing.keep_built.Goals as goal

pub returns-clause-known : goal.returns-clause-known
returns-clause-known ghosts c =
    then_on c.at_node.result _ _ (λ best. known_kept c.args.model.now c.args.known.now _ refl refl refl best.made c.requires.reached.known) c.at_node.ensures
